-- The first chunk of a block tells its encoding.
use Rattle.std.proofs.Common.{◌≡◌, ◌<◌, ◌≤◌, List, [], ◌∷◌, length, sym, subst, arith, lit<}
use Rattle.std.specs.List.{All, AllByRecursion, flat_map}
use Rattle.std.proofs.lemmas.List.{length-append}
use Rattle.std.proofs.lemmas.List.Elements.{All-append, All-head, All-nil}
use Rattle.head_column.specs.Samples.{Sample}
use Rattle.head_column.specs.Chunks.{chunk_samples, parts}
use Rattle.hw_bytes.specs.Sums.{Text}
use Rattle.index_text.specs.declared.row.IndexRow.{IndexRow}
use Rattle.block_files.specs.declared.encoding.Encoding.{Encoding}
use Rattle.block_files.specs.Files.{StandsAt, all_texts, chunk_element, chunk_files, file_head, longest_chunk, reference_behind, row_texts, with_chunk}
use Rattle.block_files.proofs.Placed.{chunk_stands}
use Rattle.block_read.specs.declared.block.Block.{Block}
use Rattle.block_read.specs.declared.rows.BlockRows.{BlockRows}
use Rattle.block_read.specs.Blocks.{HasSamples, IsBlockOf, IsColumn, chunk_count, chunks_in, chunks_of_rows, file_limit, index_rows, samples_of_rows}
use Rattle.block_read.proofs.AllRows.{as_many}
use Rattle.block_read.proofs.Assembled.{samples_of}
use Rattle.block_read.proofs.Columns.{AreXorShort, chunks_short}
use Rattle.block_read.proofs.Described.{chunks_counted, parts_of}
use Rattle.block_read.proofs.Named.{index_count}

-- the first chunk is after the header of its file
behind_head : (e : Encoding) (body : Text) → reference_behind e file_limit [] body ≡ 8
unfolding reference_behind with_chunk
behind_head e body = omega (arith, length-append file_head (chunk_element e body))

pub record Tells (e : Encoding) (files : List Text) : Type 0 where
  pub body : Text
  pub stands : StandsAt e files 8 body

first_stands : (e : Encoding) (bodies : List Text) → 0 < length bodies → All (λ body. length body ≤ longest_chunk) bodies → Tells e (chunk_files e file_limit bodies)
first_stands e [] some short = absurd (omega (arith, some))
first_stands e (body ∷ after) some short = record {
  body = body;
  stands = subst (λ n. StandsAt e (chunk_files e file_limit (body ∷ after)) n body) (behind_head e body)
      (chunk_stands e file_limit [] body after (lit< tt) (let s = All-head (λ body. length body ≤ longest_chunk) body after short in omega (arith, s)));
}

all_short : (e : Encoding) → AreXorShort → (samples : List (List Sample)) → All (λ body. length body ≤ longest_chunk) (all_texts (chunks_of_rows e samples))
all_short e short [] = All-nil (λ body. length body ≤ longest_chunk)
all_short e short (s ∷ samples) =
    All-append (λ body. length body ≤ longest_chunk) (row_texts (chunks_in e s)) (all_texts (chunks_of_rows e samples)) (chunks_short e short s) (all_short e short samples)

some_chunks : (samples : List (List Sample)) → 0 < length samples → AllByRecursion IsColumn samples → 0 < chunk_count samples
some_chunks [] some h = absurd (omega (arith, some))
some_chunks (s ∷ samples) some h = omega (arith, parts_of s, h.0.some, length-append (parts chunk_samples s) (flat_map (parts chunk_samples) samples))

-- Chunk files that have the samples of some rows tell their encoding.
pub samples_tell : {e : Encoding} → AreXorShort → (files : List Text) (rows : List IndexRow) (samples : List (List Sample)) → HasSamples e files rows samples → 0 < length rows → Tells e files
samples_tell {e = e} short files rows samples h some =
    subst (Tells e) (sym h.files_are)
    (first_stands e (all_texts (chunks_of_rows e samples)) (omega (arith, chunks_counted e samples, some_chunks samples (omega (arith, as_many files rows samples h, some)) h.each)) (all_short e short samples))

-- A block tells its encoding.
pub block_tells : {e : Encoding} → AreXorShort → (block : Block) (b : BlockRows) → IsBlockOf e block b → Tells e block.chunks
block_tells {e = e} short block b h = samples_tell short block.chunks (index_rows e b.rows) (samples_of_rows b.rows) (samples_of block b h) (omega (arith, h.some, index_count e b.rows))

-- What the first chunk tells is the encoding of a block, and of samples that its chunk files have.
pub told_block : {e : Encoding} → AreXorShort → (block : Block) (b : BlockRows) (files : List Text) (told : Encoding) → files ≡ block.chunks → ((d : Encoding) (body : Text) → StandsAt d files 8 body → told ≡ d) → IsBlockOf e block b → told ≡ e
told_block {e = e} short block b files told are one h =
    let t : Tells e files = subst (Tells e) (sym are) (block_tells short block b h) in
    one e t.body t.stands

pub told_samples : {e : Encoding} → AreXorShort → (chunks files : List Text) (told : Encoding) (rows : List IndexRow) (samples : List (List Sample)) → files ≡ chunks → ((d : Encoding) (body : Text) → StandsAt d files 8 body → told ≡ d) → 0 < length rows
    → HasSamples e chunks rows samples → told ≡ e
told_samples {e = e} short chunks files told rows samples are one some h =
    let t : Tells e files = subst (Tells e) (sym are) (samples_tell short chunks rows samples h some) in
    one e t.body t.stands
