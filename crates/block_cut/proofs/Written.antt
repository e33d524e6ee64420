-- The rows of a block's index, and its counts.
use Rattle.std.proofs.Common.{Bool, true, false, ◌≡◌, ℕ, suc, ◌+◌, ◌<◌, ◌^◌, List, [], ◌∷◌, length, map, refl, sym, ap, subst, ◌∙◌, arith, All}
use Rattle.std.specs.Prelude.{ℤ, ◌≤ℤ◌, ◌<ℤ◌}
use Rattle.std.specs.Io.Iter.{u64_saturate}
use Rattle.std.specs.List.{AllByRecursion, AllZip, flat_map, sum_by, zip}
use Rattle.std.specs.declared.cmp.Ordering.TheVariants.{Less}
use Rattle.std.proofs.lemmas.List.{length-append, length-map}
use Rattle.std.proofs.lemmas.List.Elements.{recursion_from_All}
use Rattle.std.proofs.lemmas.List.Sums.{sum_by-cons}
use Rattle.hw_bytes.specs.Lists.{along}
use Rattle.wal_record.specs.Labels.{Labels, compare_labels}
use Rattle.head_column.specs.Samples.{Sample}
use Rattle.head_column.specs.declared.chunk.Chunk.{Chunk}
use Rattle.head_column.specs.Chunks.{chunk_samples, parts}
use Rattle.hw_bytes.specs.declared.write_fault.WriteFault.{WriteFault}
use Rattle.hw_bytes.specs.declared.write_fault.WriteFault.TheVariants.{TooLarge, Memory}
use Rattle.hw_bytes.specs.Sums.{Text}
use Rattle.index_text.specs.declared.row.ChunkMeta.{ChunkMeta}
use Rattle.index_text.specs.declared.row.IndexRow.{IndexRow}
use Rattle.index_text.specs.Rows.{AreRows, FitsChunk, FitsIndex, IsChain, IsRow}
use Rattle.block_files.specs.declared.meta.Meta.{Meta}
use Rattle.block_files.specs.declared.encoding.Encoding.{Encoding}
use Rattle.block_files.specs.declared.places.ChunkSpan.{ChunkSpan}
use Rattle.block_files.specs.Files.{references, row_references, texts}
use Rattle.block_files.specs.Places.{span_of}
use Rattle.block_read.specs.declared.rows.BlockRow.{BlockRow}
use Rattle.block_read.specs.Blocks.{IsRowOf, chunk_count as count_of_chunks, chunk_in, chunks_in, chunks_of_rows, file_limit, index_rows, meta_of, metas_of, samples_of_rows}
use Rattle.block_read.proofs.Assembled.{flat_samples}
use Rattle.block_read.proofs.Few.{are_few}
use Rattle.block_read.proofs.Named.{index_chunks}
use Rattle.block_cut.specs.declared.fault.CutFault.TheVariants as cut
use Rattle.block_cut.specs.Cutting.{chunk_count, index_rows_of, metas_in, named, named_spans, references_in, sample_count, spans_in}
use Rattle.block_cut.specs.Faults.{cut_fault}
use Rattle.block_cut.proofs.Spans.{chunks-apart, chunks-count, chunks-forward}

-- ---- the rows of the index

zip_labels : (bs : List BlockRow) (ms : List (List ChunkMeta))
    → index_rows_of (map (λ (b : BlockRow). b.labels) bs) ms ≡ map (λ (x : BlockRow × List ChunkMeta). record { labels = x.0.labels; chunks = x.1 }) (zip bs ms)
zip_labels [] ms = refl
zip_labels (b ∷ bs) [] = refl
zip_labels (b ∷ bs) (m ∷ ms) = ap (λ (rs : List IndexRow). record { labels = b.labels; chunks = m } ∷ rs) (zip_labels bs ms)

pub index_rows_are : (enc : Encoding) (those : List BlockRow) (labels : List Labels) (metas : List (List ChunkMeta)) → labels ≡ map (λ (b : BlockRow). b.labels) those → metas ≡ metas_in enc (chunks_of_rows enc (samples_of_rows those))
    → index_rows_of labels metas ≡ index_rows enc those
unfolding index_rows metas_of
index_rows_are enc those labels metas e f =
    ap (λ (ls : List Labels). index_rows_of ls metas) e ∙ ap (λ (ms : List (List ChunkMeta)). index_rows_of (map (λ (b : BlockRow). b.labels) those) ms) f
    ∙ zip_labels those (metas_of enc (samples_of_rows those))

-- ---- they have an index

along_each : {A B : Type 0} (P : A → B → Type 0) (f : List A → A → B) → ((before : List A) (x : A) → P x (f before x)) → (xs : List A) → AllZip P xs (along (λ before x. f before x ∷ []) xs)
along_each P f h [] = tt
along_each P f h (x ∷ xs) = (h [] x, along_each P (λ before y. f (x ∷ before) y) (λ before y. h (x ∷ before) y) xs)

along_long : {A B : Type 0} (f : List A → A → B) (xs : List A) → length (along (λ before x. f before x ∷ []) xs) ≡ length xs
along_long f [] = refl
along_long f (x ∷ xs) = ap suc (along_long (λ before y. f (x ∷ before) y) xs)

abbrev AreAsLong : List Text → List ℕ → Type 0
AreAsLong ts rs = length rs ≡ length ts

references_each : (enc : Encoding) (rows : List (List Text)) → AllZip AreAsLong rows (references enc file_limit rows)
references_each enc rows = along_each AreAsLong (row_references enc file_limit) (λ before row. along_long _ row) rows

-- some rows, and the references of their chunks
abbrev rows_by : Encoding → List BlockRow → List (List ℕ) → List IndexRow
rows_by enc bs rss = map (λ (x : BlockRow × List ChunkMeta). record { labels = x.0.labels; chunks = x.1 }) (zip bs (map named (zip (chunks_of_rows enc (samples_of_rows bs)) rss)))

metas_forward : (cs : List Chunk) (rs : List ℕ) → AllByRecursion (λ (c : Chunk). c.min_time ≤ℤ c.max_time) cs → AllByRecursion (λ (m : ChunkMeta). m.min_time ≤ℤ m.max_time) (map meta_of (zip cs rs))
metas_forward [] rs h = tt
metas_forward (c ∷ cs) [] h = tt
metas_forward (c ∷ cs) (r ∷ rs) h = (h.0, metas_forward cs rs h.1)

metas_apart : (cs : List Chunk) (rs : List ℕ) → IsChain (λ (a b : Chunk). a.max_time <ℤ b.min_time) cs → IsChain (λ (a b : ChunkMeta). a.max_time <ℤ b.min_time) (map meta_of (zip cs rs))
metas_apart [] rs h = tt
metas_apart (c ∷ cs) [] h = tt
metas_apart (c ∷ []) (r ∷ rs) h = tt
metas_apart (c ∷ d ∷ cs) (r ∷ []) h = tt
metas_apart (c ∷ d ∷ cs) (r ∷ s ∷ rs) h = (h.0, metas_apart (d ∷ cs) (s ∷ rs) h.1)

some_metas : (enc : Encoding) (xs : List Sample) (rs : List ℕ) → 0 < length xs → length rs ≡ length (map (λ (c : Chunk). c.text) (chunks_in enc xs)) → 0 < length (map meta_of (zip (chunks_in enc xs) rs))
some_metas enc [] rs some e = absurd (omega arith)
some_metas enc (x ∷ xs) [] some e = absurd (omega arith)
some_metas enc (x ∷ xs) (r ∷ rs) some e = omega arith

each_by : (enc : Encoding) (k : ℤ) (bs : List BlockRow) (rss : List (List ℕ)) → AllByRecursion (IsRowOf k) bs → AllZip AreAsLong (texts (chunks_of_rows enc (samples_of_rows bs))) rss
    → AllByRecursion (All FitsChunk) (map named (zip (chunks_of_rows enc (samples_of_rows bs)) rss)) → AllByRecursion IsRow (rows_by enc bs rss)
each_by enc k [] rss h long fit = tt
each_by enc k (b ∷ bs) [] h long fit = tt
each_by enc k (b ∷ bs) (rs ∷ rss) h long fit = (
  record {
    labels = h.0.labels;
    some = some_metas enc b.samples rs h.0.some long.0;
    fit = recursion_from_All FitsChunk (map meta_of (zip (chunks_in enc b.samples) rs)) fit.0;
    forward = metas_forward (chunks_in enc b.samples) rs (chunks-forward enc b.samples h.0.rises);
    apart = metas_apart (chunks_in enc b.samples) rs (chunks-apart enc b.samples h.0.rises);
  },
  each_by enc k bs rss h.1 long.1 fit.1,
)

ascending_by : (enc : Encoding) (bs : List BlockRow) (rss : List (List ℕ)) → IsChain (λ (a b : BlockRow). compare_labels a.labels b.labels ≡ Less) bs → IsChain (λ (a b : IndexRow). compare_labels a.labels b.labels ≡ Less) (rows_by enc bs rss)
ascending_by enc [] rss h = tt
ascending_by enc (b ∷ bs) [] h = tt
ascending_by enc (b ∷ []) (r ∷ rss) h = tt
ascending_by enc (b ∷ d ∷ bs) (r ∷ []) h = tt
ascending_by enc (b ∷ d ∷ bs) (r ∷ s ∷ rss) h = (h.0, ascending_by enc (d ∷ bs) (s ∷ rss) h.1)

some_by : (enc : Encoding) (bs : List BlockRow) (rss : List (List ℕ)) → 0 < length bs → AllZip AreAsLong (texts (chunks_of_rows enc (samples_of_rows bs))) rss → 0 < length (rows_by enc bs rss)
some_by enc [] rss some h = absurd (omega arith)
some_by enc (b ∷ bs) [] some h = absurd h
some_by enc (b ∷ bs) (rs ∷ rss) some h = omega arith

pub index_rows-AreRows : (enc : Encoding) (k : ℤ) (those : List BlockRow) (metas : List (List ChunkMeta)) → 0 < length those → All (IsRowOf k) those → IsChain (λ (a b : BlockRow). compare_labels a.labels b.labels ≡ Less) those
    → metas ≡ metas_in enc (chunks_of_rows enc (samples_of_rows those)) → All (All FitsChunk) metas → AreRows (index_rows enc those)
unfolding index_rows metas_of
index_rows-AreRows enc k those metas some each up e fit =
    let refs = references enc file_limit (texts (chunks_of_rows enc (samples_of_rows those))) in
    let long = references_each enc (texts (chunks_of_rows enc (samples_of_rows those))) in
    record {
      some = some_by enc those refs some long;
      each = each_by enc k those refs (recursion_from_All (IsRowOf k) those each) long (recursion_from_All (All FitsChunk) (metas_in enc (chunks_of_rows enc (samples_of_rows those))) (subst (All (All FitsChunk)) e fit));
      ascending = ascending_by enc those refs up;
    }

-- ---- the counts

samples_count : (enc : Encoding) (bs : List BlockRow) → sample_count (spans_in enc bs) ≡ length (flat_map (λ (b : BlockRow). b.samples) bs)
samples_count enc [] = refl
samples_count enc (b ∷ bs) =
    sum_by-cons chunk_count (map span_of (chunks_in enc b.samples)) (spans_in enc bs) ∙ ap (λ (n : ℕ). n + sample_count (spans_in enc bs)) (chunks-count enc b.samples)
    ∙ ap (λ (n : ℕ). length b.samples + n) (samples_count enc bs) ∙ sym (length-append b.samples (flat_map (λ (b : BlockRow). b.samples) bs))

chunks_count : (enc : Encoding) (bs : List BlockRow) → sum_by length (spans_in enc bs) ≡ count_of_chunks (samples_of_rows bs)
chunks_count enc [] = refl
chunks_count enc (b ∷ bs) =
    omega (
      arith,
      sum_by-cons length (map span_of (chunks_in enc b.samples)) (spans_in enc bs),
      length-map (chunks_in enc b.samples) span_of,
      length-map (parts chunk_samples b.samples) (chunk_in enc),
      chunks_count enc bs,
      length-append (parts chunk_samples b.samples) (flat_map (parts chunk_samples) (samples_of_rows bs)),
    )

-- Where the index fits, no count stays at the greatest.
pub counts_are : (enc : Encoding) (those : List BlockRow) (spans : List (List ChunkSpan)) (samples count : ℕ) → FitsIndex (index_rows enc those) → ((rows : List IndexRow) → FitsIndex rows → sum_by (λ (r : IndexRow). length r.chunks) rows < 2 ^ 37)
    → spans ≡ spans_in enc those → samples ≡ u64_saturate (sample_count spans) → count ≡ u64_saturate (sum_by length spans)
    → (samples ≡ length (flat_map (λ (b : BlockRow). b.samples) those)) × (count ≡ count_of_chunks (samples_of_rows those))
counts_are enc those spans samples count fits law e f g =
    let few = are_few enc (index_rows enc those) (samples_of_rows those) (index_chunks enc those) (law (index_rows enc those) fits) in (
      omega (arith, f, few.few_samples, ap sample_count e, samples_count enc those, ap length (flat_samples those)),
      omega (arith, g, few.few_chunks, ap (sum_by length) e, chunks_count enc those),
    )

-- ---- what code makes of them

abbrev pub meta_by : Text → ℤ → ℤ → ℕ → ℕ → ℕ → Meta
meta_by ulid first end samples series chunks = record { ulid = ulid; min_time = first; max_time = end; samples = samples; series = series; chunks = chunks }

pub same_meta : (ulid : Text) (a b c d : ℤ) (l m n o p q : ℕ) → a ≡ b → c ≡ d → l ≡ m → n ≡ o → p ≡ q → meta_by ulid a c l n p ≡ meta_by ulid b d m o q
same_meta ulid a b c d l m n o p q e f g h i =
    ap (λ (x : ℤ). meta_by ulid x c l n p) e ∙ ap (λ (x : ℤ). meta_by ulid b x l n p) f ∙ ap (λ (x : ℕ). meta_by ulid b d x n p) g ∙ ap (λ (x : ℕ). meta_by ulid b d m x p) h ∙ ap (λ (x : ℕ). meta_by ulid b d m o x) i

-- ---- the entries of chunks, which code makes without their data

named_is : (cs : List Chunk) (rs : List ℕ) → named_spans (map span_of cs, rs) ≡ named (cs, rs)
named_is [] rs = refl
named_is (c ∷ cs) [] = refl
named_is (c ∷ cs) (r ∷ rs) = ap (λ (ms : List ChunkMeta). meta_of (c, r) ∷ ms) (named_is cs rs)

each_named : (css : List (List Chunk)) (rss : List (List ℕ)) → map named_spans (zip (map (map span_of) css) rss) ≡ map named (zip css rss)
each_named [] rss = refl
each_named (cs ∷ css) [] = refl
each_named (cs ∷ css) (rs ∷ rss) = ap (λ (ms : List ChunkMeta). ms ∷ map named_spans (zip (map (map span_of) css) rss)) (named_is cs rs) ∙ ap (λ (mss : List (List ChunkMeta)). named (cs, rs) ∷ mss) (each_named css rss)

pub metas_from : (enc : Encoding) (those : List BlockRow) (spans : List (List ChunkSpan)) (refs : List (List ℕ)) (metas : List (List ChunkMeta)) → spans ≡ spans_in enc those → refs ≡ references_in enc those → metas ≡ map named_spans (zip spans refs)
    → metas ≡ metas_in enc (chunks_of_rows enc (samples_of_rows those))
metas_from enc those spans refs metas e f g =
    g ∙ ap (λ (ss : List (List ChunkSpan)). map named_spans (zip ss refs)) e ∙ ap (λ (rs : List (List ℕ)). map named_spans (zip (spans_in enc those) rs)) f
    ∙ each_named (chunks_of_rows enc (samples_of_rows those)) (references_in enc those)

-- ---- what the other steps need

pub too_large : (fault : WriteFault) → cut_fault fault ≡ cut.TooLarge → fault ≡ TooLarge
too_large TooLarge e = refl
too_large Memory e = absurd cc

-- a test that says no
pub unless : {P : Type 0} (b : Bool) → b ≡ false → (P → b ≡ true) → P → ⊥
unless b e f p = (let yes : b ≡ true = f p in cc)
