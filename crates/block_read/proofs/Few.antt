-- The chunks and the samples of a block, counted by its index.
use Rattle.std.proofs.Common.{◌≡◌, ◌*◌, ◌<◌, ◌≤◌, ◌^◌, List, [], ◌∷◌, ◌++◌, length, map, refl, sym, ap, subst, ◌∙◌, arith}
use Rattle.std.specs.List.{flat_map, sum_by, zip}
use Rattle.std.proofs.lemmas.List.{length-append, length-map}
use Rattle.std.proofs.lemmas.List.Sums.{sum_by-cons}
use Rattle.hw_bytes.specs.Lists.{along}
use Rattle.head_column.specs.Samples.{Sample}
use Rattle.head_column.specs.declared.chunk.Chunk.{Chunk}
use Rattle.head_column.specs.Chunks.{chunk_samples, parts}
use Rattle.hw_bytes.specs.Sums.{Text}
use Rattle.index_text.specs.declared.row.ChunkMeta.{ChunkMeta}
use Rattle.index_text.specs.declared.row.IndexRow.{IndexRow}
use Rattle.block_files.specs.declared.encoding.Encoding.{Encoding}
use Rattle.block_files.specs.Files.{reference_behind, row_references, row_texts, texts}
use Rattle.block_files.proofs.RowLaws.{along_count, flat}
use Rattle.block_read.specs.Blocks.{HasSamples, chunk_count, chunk_in, chunks_in, chunks_of_rows, file_limit, meta_of, metas_of}
use Rattle.block_read.specs.Reading.{row_metas}
use Rattle.block_read.proofs.AllRows.{metas_along}
use Rattle.block_read.proofs.Described.{parts_of}

zip_long : {A B : Type 0} (xs : List A) (ys : List B) → length ys ≡ length xs → length (zip xs ys) ≡ length xs
zip_long [] ys e = refl
zip_long (x ∷ xs) [] e = absurd (omega (arith, e))
zip_long (x ∷ xs) (y ∷ ys) e = (let rest = zip_long xs ys (omega (arith, e)) in omega (arith, rest))

-- a row's chunks are named one by one
row_named : (e : Encoding) (before : List (List Text)) (s : List Sample) → length (row_metas e before s) ≡ length (parts chunk_samples s)
row_named e before s =
    let references = row_references e file_limit before (row_texts (chunks_in e s)) in
    let count : length references ≡ length (row_texts (chunks_in e s)) = along_count (λ others body. reference_behind e file_limit (flat before ++ others) body) (row_texts (chunks_in e s)) in
    let same = length-map (chunks_in e s) (λ (c : Chunk). c.text) in
    length-map (zip (chunks_in e s) references) meta_of ∙ zip_long (chunks_in e s) references (count ∙ same) ∙ length-map (parts chunk_samples s) (chunk_in e)

along_sum : (f : List (List Sample) → List Sample → List ChunkMeta) → ((before : List (List Sample)) (s : List Sample) → length (f before s) ≡ length (parts chunk_samples s)) → (samples : List (List Sample))
    → sum_by length (along (λ before s. f before s ∷ []) samples) ≡ chunk_count samples
along_sum f e [] = refl
along_sum f e (s ∷ samples) =
    omega (
      arith,
      sum_by-cons length (f [] s) (along (λ before r. f (s ∷ before) r ∷ []) samples),
      e [] s,
      along_sum (λ before r. f (s ∷ before) r) (λ before r. e (s ∷ before) r) samples,
      length-append (parts chunk_samples s) (flat_map (parts chunk_samples) samples),
    )

named_sum : (rows : List IndexRow) → sum_by (λ (r : IndexRow). length r.chunks) rows ≡ sum_by length (map (λ (r : IndexRow). r.chunks) rows)
named_sum [] = refl
named_sum (r ∷ rows) =
    omega (arith, named_sum rows, sum_by-cons (λ (r : IndexRow). length r.chunks) r rows, sum_by-cons length r.chunks (map (λ (r : IndexRow). r.chunks) rows))

-- the index names each chunk once
pub chunks_named : (e : Encoding) (rows : List IndexRow) (samples : List (List Sample)) → map (λ (r : IndexRow). r.chunks) rows ≡ metas_of e samples
    → sum_by (λ (r : IndexRow). length r.chunks) rows ≡ chunk_count samples
chunks_named e rows samples named =
    named_sum rows ∙ ap (sum_by length) (named ∙ metas_along e samples) ∙ along_sum (λ before s. row_metas e (texts (chunks_of_rows e before)) s) (λ before s. row_named e (texts (chunks_of_rows e before)) s) samples

-- a chunk has at most 120 samples
pub samples_few : (samples : List (List Sample)) → length (flat_map (λ s. s) samples) ≤ 120 * chunk_count samples
samples_few [] = omega arith
samples_few (s ∷ samples) =
    omega (arith, samples_few samples, parts_of s, length-append s (flat_map (λ s. s) samples), length-append (parts chunk_samples s) (flat_map (parts chunk_samples) samples))

-- what was read of a block, whose index has few chunks, can be counted
pub record AreFew (samples : List (List Sample)) : Type 0 where
  pub few_samples : length (flat_map (λ s. s) samples) < 2 ^ 64
  pub few_chunks : chunk_count samples < 2 ^ 64

pub are_few : (e : Encoding) (rows : List IndexRow) (samples : List (List Sample)) → map (λ (r : IndexRow). r.chunks) rows ≡ metas_of e samples → sum_by (λ (r : IndexRow). length r.chunks) rows < 2 ^ 37 → AreFew samples
are_few e rows samples named few = record { few_samples = omega (arith, few, chunks_named e rows samples named, samples_few samples); few_chunks = omega (arith, few, chunks_named e rows samples named) }

pub read_few : {e : Encoding} (files : List Text) (index lent : List IndexRow) (samples shown : List (List Sample)) → lent ≡ index → shown ≡ samples → HasSamples e files lent samples → sum_by (λ (r : IndexRow). length r.chunks) index < 2 ^ 37 → AreFew shown
read_few {e = e} files index lent samples shown l f h few = subst AreFew (sym f) (are_few e index samples (ap (map (λ (r : IndexRow). r.chunks)) (sym l) ∙ h.named) few)
