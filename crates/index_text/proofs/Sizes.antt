-- Sizes within the text of an index: what is written is at least as long as what it shows.
use Rattle.std.proofs.Common.{ℕ, ◌≤◌, ◌<◌, Bool, true, false, cond, List, [], ◌∷◌, ◌++◌, length, map, filter, sym, subst, arith}
use Rattle.std.specs.Prelude.{◌-ℤ◌, ◌≤ℤ◌, ◌<ℤ◌, unsigned_abs}
use Rattle.std.specs.List.{flat_map, zip, AllByRecursion}
use Rattle.std.proofs.lemmas.List.{length-append}
use Rattle.std.proofs.lemmas.Int.{ints}
use Rattle.hw_bytes.specs.Writing.{uvarint, varint}
use Rattle.wal_record.specs.declared.labels.Label.{Label}
use Rattle.index_text.specs.declared.row.ChunkMeta.{ChunkMeta}
use Rattle.index_text.specs.declared.row.IndexRow.{IndexRow}
use Rattle.index_text.specs.Index.{chunks_text, first_chunk_text, label_refs, later_chunks, next_chunk_text, reference_step, series_body}
use Rattle.index_text.specs.Sets.{rank, text_cmp}
use Rattle.index_text.specs.Layout.{Text, places, put, put_all}
use Rattle.index_text.specs.Rows.{FitsChunk, IsChain}
use Rattle.index_text.proofs.GroupLoops.{length-flat_some, places-cons}
use Rattle.index_text.proofs.Laid.{length-put}
use Rattle.index_text.proofs.SeriesLaws.{AreChunks, AreNext}
use Rattle.index_text.proofs.Spelled.{uvarint_some}

-- each text of some is no longer than all of them
pub each_shorter : {X : Type 0} (f : X → Text) (n : ℕ) (xs : List X) → length (flat_map f xs) ≤ n → AllByRecursion (λ x. length (f x) ≤ n) xs
each_shorter f n [] le = tt
each_shorter f n (x ∷ xs) le =
    let both = length-append (f x) (flat_map f xs) in
    (omega (arith, le, both), each_shorter f n xs (omega (arith, le, both)))

pub all_weaker : {X : Type 0} (P Q : X → Type 0) → ((x : X) → P x → Q x) → (xs : List X) → AllByRecursion P xs → AllByRecursion Q xs
all_weaker P Q f [] h = tt
all_weaker P Q f (x ∷ xs) h = (f x h.0, all_weaker P Q f xs h.1)

pub all_both : {X : Type 0} (P Q R : X → Type 0) → ((x : X) → P x → Q x → R x) → (xs : List X) → AllByRecursion P xs → AllByRecursion Q xs → AllByRecursion R xs
all_both P Q R f [] h k = tt
all_both P Q R f (x ∷ xs) h k = (f x h.0 k.0, all_both P Q R f xs h.1 k.1)

-- ---- labels and chunks of a series

refs_some : (table : List Text) (p : Label) → 0 < length (label_refs table p)
refs_some table p =
    omega (arith, length-append (uvarint (rank text_cmp p.name table)) (uvarint (rank text_cmp p.value table)), uvarint_some (rank text_cmp p.name table))

later_some : (last : ChunkMeta) (cs : List ChunkMeta) → length cs ≤ length (later_chunks last cs)
unfolding later_chunks next_chunk_text
later_some last [] = omega arith
later_some last (c ∷ cs) =
    omega (
      arith,
      later_some c cs,
      length-append (next_chunk_text last c) (later_chunks c cs),
      length-append (uvarint (unsigned_abs (c.min_time -ℤ last.max_time)) ++ uvarint (unsigned_abs (c.max_time -ℤ c.min_time))) (varint (reference_step last.reference c.reference)),
      length-append (uvarint (unsigned_abs (c.min_time -ℤ last.max_time))) (uvarint (unsigned_abs (c.max_time -ℤ c.min_time))),
      uvarint_some (unsigned_abs (c.min_time -ℤ last.max_time)),
    )

chunks_some : (cs : List ChunkMeta) → length cs ≤ length (chunks_text cs)
unfolding chunks_text first_chunk_text
chunks_some [] = omega arith
chunks_some (c ∷ cs) =
    omega (
      arith,
      later_some c cs,
      length-append (first_chunk_text c) (later_chunks c cs),
      length-append (varint c.min_time ++ uvarint (unsigned_abs (c.max_time -ℤ c.min_time))) (uvarint c.reference),
      uvarint_some c.reference,
    )

pub labels_shorter : (table : List Text) (r : IndexRow) → length r.labels ≤ length (series_body table r)
unfolding series_body
labels_shorter table r =
    omega (
      arith,
      length-flat_some (label_refs table) (refs_some table) r.labels,
      length-append (uvarint (length r.labels) ++ flat_map (label_refs table) r.labels ++ uvarint (length r.chunks)) (chunks_text r.chunks),
      length-append (uvarint (length r.labels) ++ flat_map (label_refs table) r.labels) (uvarint (length r.chunks)),
      length-append (uvarint (length r.labels)) (flat_map (label_refs table) r.labels),
    )

pub chunks_shorter : (table : List Text) (r : IndexRow) → length r.chunks ≤ length (series_body table r)
unfolding series_body
chunks_shorter table r = omega (arith, chunks_some r.chunks, length-append (uvarint (length r.labels) ++ flat_map (label_refs table) r.labels ++ uvarint (length r.chunks)) (chunks_text r.chunks))

-- chunks in the order of their times can be read again
next_chunks : (last : ChunkMeta) (cs : List ChunkMeta) → AllByRecursion FitsChunk cs → AllByRecursion (λ (c : ChunkMeta). c.min_time ≤ℤ c.max_time) cs
    → IsChain (λ (a b : ChunkMeta). a.max_time <ℤ b.min_time) (last ∷ cs) → AreNext last cs
next_chunks last [] fits forward apart = tt
next_chunks last (c ∷ cs) fits forward apart =
    let lt : last.max_time <ℤ c.min_time = apart.0 in
    (fits.0, omega (arith, ints, lt), forward.0, next_chunks c cs fits.1 forward.1 apart.1)

pub are_chunks : (cs : List ChunkMeta) → AllByRecursion FitsChunk cs → AllByRecursion (λ (c : ChunkMeta). c.min_time ≤ℤ c.max_time) cs → IsChain (λ (a b : ChunkMeta). a.max_time <ℤ b.min_time) cs → AreChunks cs
are_chunks [] fits forward apart = tt
are_chunks (c ∷ cs) fits forward apart = (fits.0, forward.0, next_chunks c cs fits.1 forward.1 apart)

-- ---- places

grows : (align : ℕ) (before : Text) (es : List Text) → length before ≤ length (put_all align before es)
grows align before [] = omega arith
grows align before (e ∷ es) = omega (arith, grows align (put align before e) es, length-put align before e)

-- no place is past the end
pub places_within : (align : ℕ) (before : Text) (es : List Text) → AllByRecursion (λ n. n ≤ length (put_all align before es)) (places align before es)
places_within align before [] = tt
places_within align before (e ∷ es) =
    subst (AllByRecursion (λ n. n ≤ length (put_all align (put align before e) es))) (sym (places-cons align before e es))
    (omega (arith, grows align (put align before e) es, length-put align before e), places_within align (put align before e) es)

-- of entries: what holds of the first parts and of the second parts
pub zip_all : {A B : Type 0} (P : A → Type 0) (Q : B → Type 0) (xs : List A) (ys : List B) → AllByRecursion P xs → AllByRecursion Q ys → AllByRecursion (λ (x : A × B). P x.0 × Q x.1) (zip xs ys)
zip_all P Q [] ys h k = tt
zip_all P Q (x ∷ xs) [] h k = tt
zip_all P Q (x ∷ xs) (y ∷ ys) h k = ((h.0, k.0), zip_all P Q xs ys h.1 k.1)

pub all_filter : {X : Type 0} (P : X → Type 0) (p : X → Bool) (xs : List X) → AllByRecursion P xs → AllByRecursion P (filter p xs)
all_filter P p [] h = tt
all_filter P p (x ∷ xs) h = by (p x) (all_filter P p xs h.1)
  where
    by : (b : Bool) → AllByRecursion P (filter p xs) → AllByRecursion P (cond b (x ∷ filter p xs) (filter p xs))
    by true rest = (h.0, rest)
    by false rest = rest

pub all_map : {A B : Type 0} (P : B → Type 0) (f : A → B) (xs : List A) → AllByRecursion (λ x. P (f x)) xs → AllByRecursion P (map f xs)
all_map P f [] h = tt
all_map P f (x ∷ xs) h = (h.0, all_map P f xs h.1)

pub zip_left : {A B : Type 0} (P : A → Type 0) (xs : List A) (ys : List B) → AllByRecursion P xs → AllByRecursion (λ (x : A × B). P x.0) (zip xs ys)
zip_left P [] ys h = tt
zip_left P (x ∷ xs) [] h = tt
zip_left P (x ∷ xs) (y ∷ ys) h = (h.0, zip_left P xs ys h.1)

pub zip_right : {A B : Type 0} (Q : B → Type 0) (xs : List A) (ys : List B) → AllByRecursion Q ys → AllByRecursion (λ (x : A × B). Q x.1) (zip xs ys)
zip_right Q [] ys k = tt
zip_right Q (x ∷ xs) [] k = tt
zip_right Q (x ∷ xs) (y ∷ ys) k = (k.0, zip_right Q xs ys k.1)
