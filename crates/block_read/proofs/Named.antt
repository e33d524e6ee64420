-- The rows of a block are rows of an index.
use Rattle.std.proofs.Common.{◌≡◌, ℕ, suc, ◌+◌, ◌*◌, ◌<◌, ◌≤◌, ◌^◌, List, [], ◌∷◌, ◌++◌, length, map, take, get_or, refl, sym, ap, subst, ◌∙◌, append_assoc, arith, lit<}
use Rattle.std.specs.Prelude.{◌<ℤ◌, ◌≤ℤ◌, FitsSigned}
use Rattle.std.specs.Int.{w64}
use Rattle.std.specs.List.{All, AllByRecursion, zip}
use Rattle.std.specs.declared.cmp.Ordering.TheVariants.{Less}
use Rattle.std.proofs.lemmas.Int.{ints}
use Rattle.std.proofs.lemmas.List.{append-nil, length-append, length-map}
use Rattle.std.proofs.lemmas.List.Elements.{All-head, All-tail}
use Rattle.std.proofs.lemmas.List.Sums.{fold-append}
use Rattle.hw_bytes.specs.Lists.{along}
use Rattle.hw_bytes.proofs.Lists.{flat_map-push}
use Rattle.wal_record.specs.Labels.{IsLabelSet, compare_labels}
use Rattle.head_column.specs.Samples.{Sample}
use Rattle.head_column.specs.declared.chunk.Chunk.{Chunk}
use Rattle.head_column.specs.Samples.{Rises}
use Rattle.head_column.specs.Chunks.{AreFull, IsFit, chunk_samples, first_time, last_time, parts}
use Rattle.xor_chunk.proofs.Parts.{parts_are}
use Rattle.hw_bytes.specs.Sums.{Text}
use Rattle.index_text.specs.declared.row.ChunkMeta.{ChunkMeta}
use Rattle.index_text.specs.declared.row.IndexRow.{IndexRow}
use Rattle.index_text.specs.Rows.{AreRows, FitsChunk, IsChain, IsRow}
use Rattle.block_files.specs.declared.encoding.Encoding.{Encoding}
use Rattle.block_files.specs.Files.{chunk_element, chunk_files, last_reference, reference_behind, row_references, row_texts, texts, with_chunk}
use Rattle.block_files.proofs.FileLaws.{last_reference_at}
use Rattle.block_files.proofs.Placed.{placed}
use Rattle.block_files.proofs.RowLaws.{all_files, all_first, all_second, along_count, along_same, flat}
use Rattle.block_read.specs.declared.rows.BlockRow.{BlockRow}
use Rattle.block_read.specs.Blocks.{HasSamples, IsColumn, chunk_in, chunks_in, chunks_of_rows, file_limit, files_of, index_rows, meta_of, metas_of, samples_of_rows}
use Rattle.block_read.specs.Reading.{files_with, row_metas}
use Rattle.block_read.proofs.AllRows.{metas_count, row_at}
use Rattle.block_read.proofs.Columns.{first_time-append, full_rest, joined, rises_first, rises_seam, rises_second, some_first}

pub each_by : {X : Type 0} (P : X → Type 0) (xs : List X) → ((i : ℕ) (x : X) → i < length xs → x ≡ get_or xs i x → P x) → AllByRecursion P xs
each_by P [] h = tt
each_by P (x ∷ xs) h = (h 0 x (omega arith) refl, each_by P xs (λ i y lt e. h (suc i) y (omega (arith, lt)) e))

-- ---- references

small_reference : (e : Encoding) (before : List Text) (body : Text) → length (chunk_files e file_limit (before ++ body ∷ [])) ≤ 2 ^ 32 → reference_behind e file_limit before body < 2 ^ 64
unfolding reference_behind
small_reference e before body few =
    let p = placed e file_limit (chunk_files e file_limit before) body (lit< tt) in
    let now : chunk_files e file_limit (before ++ body ∷ []) ≡ p.full ++ (p.front ++ chunk_element e body) ∷ [] = fold-append (with_chunk e file_limit) [] before (body ∷ []) ∙ p.is in
    let reference : last_reference e (chunk_files e file_limit (before ++ body ∷ [])) body ≡ length p.full * 2 ^ 32 + length p.front = ap (λ (fs : List Text). last_reference e fs body) now ∙ last_reference_at e p.full p.front body in
    let count : length (chunk_files e file_limit (before ++ body ∷ [])) ≡ length p.full + 1 = ap length now ∙ length-append p.full ((p.front ++ chunk_element e body) ∷ []) in
    rw reference (omega (arith, few, count, p.low))

fewer : (e : Encoding) (before more : List Text) → length (chunk_files e file_limit before) ≤ length (chunk_files e file_limit (before ++ more))
fewer e before more = rw (fold-append (with_chunk e file_limit) [] before more) (all_files e file_limit (chunk_files e file_limit before) more)

small_references : (e : Encoding) (done row : List Text) → length (chunk_files e file_limit (done ++ row)) ≤ 2 ^ 32 → AllByRecursion (λ r. r < 2 ^ 64) (along (λ others body. reference_behind e file_limit (done ++ others) body ∷ []) row)
small_references e done [] few = tt
small_references e done (body ∷ row) few =
    let all : (done ++ body ∷ []) ++ row ≡ done ++ body ∷ row = append_assoc done (body ∷ []) row in
    let less = fewer e (done ++ body ∷ []) row in
    let here = small_reference e done body (omega (arith, few, less, ap (λ (t : List Text). length (chunk_files e file_limit t)) all)) in
    let more = small_references e (done ++ body ∷ []) row (omega (arith, few, ap (λ (t : List Text). length (chunk_files e file_limit t)) all)) in
    (subst (λ (d : List Text). reference_behind e file_limit d body < 2 ^ 64) (sym (append-nil done)) here, behind done body row more)
  where
    behind : (done : List Text) (body : Text) (row : List Text) → AllByRecursion (λ r. r < 2 ^ 64) (along (λ others b. reference_behind e file_limit ((done ++ body ∷ []) ++ others) b ∷ []) row)
        → AllByRecursion (λ r. r < 2 ^ 64) (along (λ others b. reference_behind e file_limit (done ++ (body ∷ others)) b ∷ []) row)
    behind done body row h = subst (AllByRecursion (λ r. r < 2 ^ 64)) (along_same (λ others b. reference_behind e file_limit ((done ++ body ∷ []) ++ others) b ∷ []) (λ others b. reference_behind e file_limit (done ++ (body ∷ others)) b ∷ []) row
        (λ others b. ap (λ (d : List Text). reference_behind e file_limit d b ∷ []) (append_assoc done (body ∷ []) others))) h

-- ---- the names of a row's chunks

first_last : (xs : List Sample) → Rises xs → first_time xs ≤ℤ last_time xs
first_last [] h = omega (arith, ints)
first_last (x ∷ []) h = omega (arith, ints)
first_last (x ∷ y ∷ xs) h = omega (arith, ints, h.0, first_last (y ∷ xs) h.1)

first_fits : (xs : List Sample) → 0 < length xs → All IsFit xs → FitsSigned w64 (first_time xs)
first_fits [] some h = absurd (omega (arith, some))
first_fits (x ∷ xs) some h = (All-head IsFit x xs h).time

last_fits : (xs : List Sample) → 0 < length xs → All IsFit xs → FitsSigned w64 (last_time xs)
last_fits [] some h = absurd (omega (arith, some))
last_fits (x ∷ []) some h = (All-head IsFit x [] h).time
last_fits (x ∷ y ∷ xs) some h = last_fits (y ∷ xs) (omega arith) (All-tail IsFit x (y ∷ xs) h)

-- chunks as a row of an index may have them
pub record AreNames (metas : List ChunkMeta) : Type 0 where
  pub some : 0 < length metas
  pub fit : AllByRecursion FitsChunk metas
  pub forward : AllByRecursion (λ (c : ChunkMeta). c.min_time ≤ℤ c.max_time) metas
  pub apart : IsChain (λ (a b : ChunkMeta). a.max_time <ℤ b.min_time) metas

names : (e : Encoding) (ps : List (List Sample)) (rs : List ℕ) → AreFull chunk_samples ps → 0 < length ps → Rises (joined ps) → All IsFit (joined ps) → AllByRecursion (λ r. r < 2 ^ 64) rs → length rs ≡ length ps → AreNames (map meta_of (zip (map (chunk_in e) ps) rs))
names e [] rs full some rises fit small n = absurd (omega (arith, some))
names e (p ∷ ps) [] full some rises fit small n = absurd (omega (arith, n))
names e (p ∷ []) (r ∷ rs) full some rises fit small n =
    let one = rises_first p (joined []) rises in
    let fits = all_first IsFit p (joined []) fit in
    record {
      some = omega arith;
      fit = (record { min_time = first_fits p (some_first p [] full) fits; max_time = last_fits p (some_first p [] full) fits; reference = small.0 }, tt);
      forward = (first_last p one, tt);
      apart = tt;
    }
names e (p ∷ q ∷ more) (r ∷ []) full some rises fit small n = absurd (omega (arith, n))
names e (p ∷ q ∷ more) (r ∷ s ∷ rs) full some rises fit small n =
    let one = rises_first p (joined (q ∷ more)) rises in
    let fits = all_first IsFit p (joined (q ∷ more)) fit in
    let begun = some_first p (q ∷ more) full in
    let follows = some_first q more (full_rest p (q ∷ more) full) in
    let rest = names e (q ∷ more) (s ∷ rs) (full_rest p (q ∷ more) full) (omega arith) (rises_second p (joined (q ∷ more)) rises) (all_second IsFit p (joined (q ∷ more)) fit) small.1 (omega (arith, n)) in
    let seam : last_time p <ℤ first_time (q ++ joined more) = rises_seam p (joined (q ∷ more)) begun (omega (arith, follows, length-append q (joined more))) rises in
    record {
      some = omega arith;
      fit = (record { min_time = first_fits p begun fits; max_time = last_fits p begun fits; reference = small.0 }, rest.fit);
      forward = (first_last p one, rest.forward);
      apart = (subst (λ t. last_time p <ℤ t) (first_time-append q (joined more) follows) seam, rest.apart);
    }

pub row_named : (e : Encoding) (before : List (List Text)) (samples : List Sample) → IsColumn samples → length (files_with e (before ++ row_texts (chunks_in e samples) ∷ [])) ≤ 2 ^ 32 → AreNames (row_metas e before samples)
row_named e before samples h few =
    let p = parts_are chunk_samples (lit< tt) samples in
    let ps : List (List Sample) = parts chunk_samples samples in
    let ts : List Text = row_texts (chunks_in e samples) in
    let files : flat (before ++ ts ∷ []) ≡ flat before ++ ts = flat_map-push (λ r. r) before ts in
    let small = small_references e (flat before) ts (omega (arith, few, ap (λ (t : List Text). length (chunk_files e file_limit t)) files)) in
    let count = along_count (λ others body. reference_behind e file_limit (flat before ++ others) body) ts in
    names e (parts chunk_samples samples) (row_references e file_limit before (row_texts (chunks_in e samples))) p.full (some_parts (parts chunk_samples samples) (omega (arith, h.some, ap length p.joined))) (subst Rises (sym p.joined) h.rises) (subst (All IsFit) (sym p.joined) h.fit) small
    (omega (arith, count, length-map (chunks_in e samples) (λ (c : Chunk). c.text), length-map (parts chunk_samples samples) (chunk_in e)))
  where
    some_parts : (qs : List (List Sample)) → 0 < length (joined qs) → 0 < length qs
    some_parts [] some = absurd (omega (arith, some))
    some_parts (q ∷ qs) some = omega arith

-- ---- rows of an index

is_row : {e : Encoding} (files : List Text) (rows : List IndexRow) (samples : List (List Sample)) (i : ℕ) (r : IndexRow) → i < length rows → r ≡ get_or rows i r → HasSamples e files rows samples → AreNames r.chunks
is_row {e = e} files rows samples i r lt is h =
    let here = row_at files rows samples i r lt is h in
    subst AreNames (sym here.named) (row_named e (texts (chunks_of_rows e (take i samples))) (get_or samples i []) here.column here.few)

with_labels : (rows : List IndexRow) → AllByRecursion (λ (r : IndexRow). IsLabelSet r.labels) rows → AllByRecursion (λ (r : IndexRow). AreNames r.chunks) rows → AllByRecursion IsRow rows
with_labels [] p q = tt
with_labels (r ∷ rows) p q = (record { labels = p.0; some = q.0.some; fit = q.0.fit; forward = q.0.forward; apart = q.0.apart }, with_labels rows p.1 q.1)

-- Rows in the order of their label sets, whose chunks have these samples, are the rows of an index.
pub are_rows : {e : Encoding} (files : List Text) (rows : List IndexRow) (samples : List (List Sample)) → HasSamples e files rows samples → 0 < length rows → AllByRecursion (λ (r : IndexRow). IsLabelSet r.labels) rows
    → IsChain (λ (a b : IndexRow). compare_labels a.labels b.labels ≡ Less) rows → AreRows rows
are_rows files rows samples h some labels ascending = record {
  some = some;
  each = with_labels rows labels (each_by (λ (r : IndexRow). AreNames r.chunks) rows (λ i r lt is. is_row files rows samples i r lt is h));
  ascending = ascending;
}

-- ---- the rows of a block

abbrev with_chunks : List BlockRow → List (List ChunkMeta) → List IndexRow
with_chunks rows metas = map (λ (x : BlockRow × List ChunkMeta). let y : IndexRow = record { labels = x.0.labels; chunks = x.1 } in y) (zip rows metas)

chunks_kept : (rows : List BlockRow) (metas : List (List ChunkMeta)) → length metas ≡ length rows → map (λ (r : IndexRow). r.chunks) (with_chunks rows metas) ≡ metas
chunks_kept [] [] n = refl
chunks_kept [] (m ∷ metas) n = absurd (omega (arith, n))
chunks_kept (r ∷ rows) [] n = absurd (omega (arith, n))
chunks_kept (r ∷ rows) (m ∷ metas) n = ap (λ (ms : List (List ChunkMeta)). m ∷ ms) (chunks_kept rows metas (omega (arith, n)))

labels_kept : (rows : List BlockRow) (metas : List (List ChunkMeta)) → length metas ≡ length rows → map (λ (r : IndexRow). r.labels) (with_chunks rows metas) ≡ map (λ (r : BlockRow). r.labels) rows
labels_kept [] [] n = refl
labels_kept [] (m ∷ metas) n = absurd (omega (arith, n))
labels_kept (r ∷ rows) [] n = absurd (omega (arith, n))
labels_kept (r ∷ rows) (m ∷ metas) n = ap (λ ls. r.labels ∷ ls) (labels_kept rows metas (omega (arith, n)))

as_many_metas : (e : Encoding) (rows : List BlockRow) → length (metas_of e (samples_of_rows rows)) ≡ length rows
as_many_metas e rows = metas_count e (samples_of_rows rows) ∙ length-map rows (λ (r : BlockRow). r.samples)

pub index_chunks : (e : Encoding) (rows : List BlockRow) → map (λ (r : IndexRow). r.chunks) (index_rows e rows) ≡ metas_of e (samples_of_rows rows)
unfolding index_rows
index_chunks e rows = chunks_kept rows (metas_of e (samples_of_rows rows)) (as_many_metas e rows)

pub index_labels : (e : Encoding) (rows : List BlockRow) → map (λ (r : IndexRow). r.labels) (index_rows e rows) ≡ map (λ (r : BlockRow). r.labels) rows
unfolding index_rows
index_labels e rows = labels_kept rows (metas_of e (samples_of_rows rows)) (as_many_metas e rows)

pub index_count : (e : Encoding) (rows : List BlockRow) → length (index_rows e rows) ≡ length rows
index_count e rows = sym (length-map (index_rows e rows) (λ (r : IndexRow). r.labels)) ∙ ap length (index_labels e rows) ∙ length-map rows (λ (r : BlockRow). r.labels)

columns : (rows : List BlockRow) → AllByRecursion (λ (r : BlockRow). IsColumn r.samples) rows → AllByRecursion IsColumn (samples_of_rows rows)
columns [] h = tt
columns (r ∷ rows) h = (h.0, columns rows h.1)

-- The chunk files of some rows have their samples.
pub has_samples : (e : Encoding) (rows : List BlockRow) → AllByRecursion (λ (r : BlockRow). IsColumn r.samples) rows → length (files_of e (samples_of_rows rows)) ≤ 2 ^ 32 → HasSamples e (files_of e (samples_of_rows rows)) (index_rows e rows) (samples_of_rows rows)
has_samples e rows each few = record { each = columns rows each; files_are = refl; few_files = few; named = index_chunks e rows }

-- A fact of the label sets of some rows is one of the label sets of others, where they have the same.
pub labels_are : {X Y L : Type 0} (f : X → L) (g : Y → L) (P : L → Type 0) (xs : List X) (ys : List Y) → map f xs ≡ map g ys → AllByRecursion (λ x. P (f x)) xs → AllByRecursion (λ y. P (g y)) ys
labels_are f g P [] [] e h = tt
labels_are f g P [] (y ∷ ys) e h = absurd cc
labels_are f g P (x ∷ xs) [] e h = absurd cc
labels_are f g P (x ∷ xs) (y ∷ ys) e h = (let same : f x ≡ g y = cc in let rest : map f xs ≡ map g ys = cc in (subst P same h.0, labels_are f g P xs ys rest h.1))

pub chain_are : {X Y L : Type 0} (f : X → L) (g : Y → L) (P : L → L → Type 0) (xs : List X) (ys : List Y) → map f xs ≡ map g ys → IsChain (λ a b. P (f a) (f b)) xs → IsChain (λ a b. P (g a) (g b)) ys
chain_are f g P [] [] e h = tt
chain_are f g P [] (y ∷ ys) e h = absurd cc
chain_are f g P (x ∷ xs) [] e h = absurd cc
chain_are f g P (x ∷ []) (y ∷ []) e h = tt
chain_are f g P (x ∷ []) (y ∷ z ∷ ys) e h = absurd cc
chain_are f g P (x ∷ w ∷ xs) (y ∷ []) e h = absurd cc
chain_are f g P (x ∷ w ∷ xs) (y ∷ z ∷ ys) e h =
    let first : f x ≡ g y = cc in
    let second : f w ≡ g z = cc in
    let rest : map f (w ∷ xs) ≡ map g (z ∷ ys) = cc in
    (subst (λ l. P l (g z)) first (subst (P (f x)) second h.0), chain_are f g P (w ∷ xs) (z ∷ ys) rest h.1)

-- Rows of a block, in the order of their label sets, have an index, if their chunks need no more than 2^32 files.
pub rows_of_block : (e : Encoding) (rows : List BlockRow) → 0 < length rows → AllByRecursion (λ (r : BlockRow). IsLabelSet r.labels) rows → AllByRecursion (λ (r : BlockRow). IsColumn r.samples) rows
    → IsChain (λ (a b : BlockRow). compare_labels a.labels b.labels ≡ Less) rows → length (files_of e (samples_of_rows rows)) ≤ 2 ^ 32 → AreRows (index_rows e rows)
rows_of_block e rows some labels each ascending few =
    let same : map (λ (r : BlockRow). r.labels) rows ≡ map (λ (r : IndexRow). r.labels) (index_rows e rows) = sym (index_labels e rows) in
    are_rows (files_of e (samples_of_rows rows)) (index_rows e rows) (samples_of_rows rows) (has_samples e rows each few) (omega (arith, some, index_count e rows))
    (labels_are (λ (r : BlockRow). r.labels) (λ (r : IndexRow). r.labels) IsLabelSet rows (index_rows e rows) same labels)
    (chain_are (λ (r : BlockRow). r.labels) (λ (r : IndexRow). r.labels) (λ a b. compare_labels a b ≡ Less) rows (index_rows e rows) same ascending)
