-- Chunks of a column that are copied.
use Rattle.std.proofs.Common.{◌≡◌, ℕ, ◌+◌, ◌-◌, ◌<◌, ◌≤◌, suc, List, [], ◌∷◌, ◌++◌, Bool, true, false, cond, length, length-append, take, drop, get_or, refl, sym, ap, ap₂, subst, ◌∙◌, arith, append_assoc}
use Rattle.std.specs.Prelude.{ℤ, All, Option, filter, map, if◌then◌else◌}
use Rattle.std.specs.List.{flat_map}
use Rattle.std.proofs.lemmas.Grind.{flat_map-append}
use Rattle.std.proofs.lemmas.List.{append-nil, drop_all, drop_more, length-map, map-append, nil_from_length}
use Rattle.std.proofs.lemmas.List.Elements.{All-append, All-head, All-nil, All-push, All-tail, filter-append}
use Rattle.hw_bytes.specs.Writing.{big_bytes}
use Rattle.xor_chunk.specs.Chunks as chunks
use Rattle.xor_chunk.specs.Chunks.{xor_text}
use Rattle.xor_chunk.specs.Reading.{body_samples}
use Rattle.xor_chunk.specs.Writing.{WriterValue, xor_body}
use Rattle.xor_chunk.specs.declared.sample.Sample.{Sample}
use Rattle.xor_chunk.proofs.Parts.{one_parts, parts_are}
use Rattle.xor_chunk.proofs.Writing.{text_parts}
use Rattle.head_column.specs.declared.chunk.Chunk.{Chunk}
use Rattle.head_column.specs.declared.sealed.SealedChunk.{SealedChunk}
use Rattle.head_column.specs.Chunks.{AreFull, ArePartsOf, chunk_samples, last_time, parts, xor_chunk_of, xor_chunks_of}
use Rattle.head_column.specs.Hours.{is_in_hour}
use Rattle.head_column.specs.Stored.{AreCopies, AreInHour, AreSealed, AreStored, IsSealed, first_hour, hour_parts, one_part, open_parts, sealed_samples, stored}
use Rattle.head_column.proofs.Chunked.{hour_of_kept, in_hour_all, in_hour_none}

pub chunk_same : (t u t2 u2 : ℤ) (m n : ℕ) (xs ys : List ℕ) → t ≡ u → t2 ≡ u2 → m ≡ n → xs ≡ ys
    → ◌≡◌ {A = Chunk} record { min_time = t; max_time = t2; count = m; text = xs } record { min_time = u; max_time = u2; count = n; text = ys }
chunk_same t u t2 u2 m n xs ys e f g h = rw (e, f, g, h) refl

-- a chunk's text: the number of its samples in two bytes, and its body
pub text_is : (part : List Sample) → length part ≤ 65535 → xor_text part ≡ big_bytes 2 (length part) ++ xor_body part
unfolding chunks.count_bytes
text_is part few = text_parts part few

-- ---- the parts of an hour

one_joined : (k t : ℤ) (part : List Sample) → AreInHour t part → flat_map (λ p. p) (one_part k t part) ≡ filter (λ s. is_in_hour k s.time) part
one_joined k t part h = by (is_in_hour k t) refl
  where
    by : (b : Bool) → is_in_hour k t ≡ b → flat_map (λ p. p) (if b then part ∷ [] else []) ≡ filter (λ s. is_in_hour k s.time) part
    by true e = append-nil part ∙ sym (in_hour_all k t part h e)
    by false e = sym (in_hour_none k t part h e)

sealed_joined : (k : ℤ) (sealed : List SealedChunk) (bytes : List ℕ) → AreSealed sealed bytes → flat_map (λ p. p) (hour_parts k sealed bytes) ≡ filter (λ s. is_in_hour k s.time) (sealed_samples sealed bytes)
sealed_joined k [] bytes h = refl
sealed_joined k (c ∷ more) bytes h =
    let part : List Sample = body_samples c.count (take c.len bytes) in
    let rest : List ℕ = drop c.len bytes in
    flat_map-append (λ p. p) (one_part k c.max_time part) (hour_parts k more rest)
    ∙ ap₂ (λ (xs ys : List Sample). xs ++ ys) (one_joined k c.max_time part h.0.hour) (sealed_joined k more rest h.1)
    ∙ sym (filter-append (λ s. is_in_hour k s.time) part (sealed_samples more rest))

open_joined : (k : ℤ) (samples : List Sample) → AreInHour (last_time samples) samples → flat_map (λ p. p) (open_parts k samples) ≡ filter (λ s. is_in_hour k s.time) samples
open_joined k [] h = refl
open_joined k (s ∷ more) h = one_joined k (last_time (s ∷ more)) (s ∷ more) h

-- what holds of a part holds of all parts
one_all : (P : List Sample → Type 0) (k t : ℤ) (part : List Sample) → P part → All P (one_part k t part)
one_all P k t part p = by (is_in_hour k t)
  where
    by : (b : Bool) → All P (if b then part ∷ [] else [])
    by true = All-push P [] part (All-nil P) p
    by false = All-nil P

sealed_all : (P : List Sample → Type 0) (k : ℤ) (sealed : List SealedChunk) (bytes : List ℕ) → ((c : SealedChunk) (text : List ℕ) (part : List Sample) → IsSealed c text part → P part) → AreSealed sealed bytes → All P (hour_parts k sealed bytes)
sealed_all P k [] bytes f h = All-nil P
sealed_all P k (c ∷ more) bytes f h =
    let part : List Sample = body_samples c.count (take c.len bytes) in
    All-append P (one_part k c.max_time part) (hour_parts k more (drop c.len bytes)) (one_all P k c.max_time part (f c (take c.len bytes) part h.0)) (sealed_all P k more (drop c.len bytes) f h.1)

open_all : (P : List Sample → Type 0) (k : ℤ) (samples : List Sample) → (0 < length samples → P samples) → All P (open_parts k samples)
open_all P k [] f = All-nil P
open_all P k (s ∷ more) f = one_all P k (last_time (s ∷ more)) (s ∷ more) (f (omega arith))

-- ---- the chunks, one by one

-- so many sealed chunks are looked at, of which `rest` are the texts of those that are left
pub record AreCopied (k : ℤ) (n : ℕ) (sealed : List SealedChunk) (bytes rest : List ℕ) (made : List Chunk) : Type 0 where
  pub are : AreSealed (drop n sealed) rest
  pub is : made ++ map xor_chunk_of (hour_parts k (drop n sealed) rest) ≡ map xor_chunk_of (hour_parts k sealed bytes)

pub copied_none : (k : ℤ) (sealed : List SealedChunk) (bytes : List ℕ) → AreSealed sealed bytes → AreCopied k 0 sealed bytes bytes []
copied_none k sealed bytes h = record { are = h; is = refl }

pub copied_more : (k : ℤ) (n : ℕ) (sealed : List SealedChunk) (c : SealedChunk) (bytes rest next : List ℕ) (made more : List Chunk) → n < length sealed → c ≡ get_or sealed n c → AreCopied k n sealed bytes rest made → next ≡ drop c.len rest
    → more ≡ made ++ map xor_chunk_of (one_part k c.max_time (body_samples c.count (take c.len rest))) → AreCopied k (n + 1) sealed bytes next more
copied_more k n sealed c bytes rest next made more low at h e f =
    let here : drop n sealed ≡ c ∷ drop (n + 1) sealed = drop_more sealed n c low ∙ ap (λ (x : SealedChunk). x ∷ drop (n + 1) sealed) (sym at) in
    let are = subst (λ (l : List SealedChunk). AreSealed l rest) here h.are in
    let one : List (List Sample) = one_part k c.max_time (body_samples c.count (take c.len rest)) in
    let others : List (List Sample) = hour_parts k (drop (n + 1) sealed) (drop c.len rest) in
    record {
      are = subst (AreSealed (drop (n + 1) sealed)) (sym e) are.1;
      is = ap₂ (λ (l : List Chunk) (bs : List ℕ). l ++ map xor_chunk_of (hour_parts k (drop (n + 1) sealed) bs)) f e ∙ append_assoc made (map xor_chunk_of one) (map xor_chunk_of others)
          ∙ ap (λ (l : List Chunk). made ++ l) (sym (map-append xor_chunk_of one others)) ∙ ap (λ (l : List SealedChunk). made ++ map xor_chunk_of (hour_parts k l rest)) (sym here) ∙ h.is;
    }

-- the chunk at a place
pub copied_at : (k : ℤ) (n : ℕ) (sealed : List SealedChunk) (c : SealedChunk) (bytes rest : List ℕ) (made : List Chunk) → n < length sealed → c ≡ get_or sealed n c → AreCopied k n sealed bytes rest made
    → IsSealed c (take c.len rest) (body_samples c.count (take c.len rest))
copied_at k n sealed c bytes rest made low at h =
    let here : drop n sealed ≡ c ∷ drop (n + 1) sealed = drop_more sealed n c low ∙ ap (λ (x : SealedChunk). x ∷ drop (n + 1) sealed) (sym at) in
    (subst (λ (l : List SealedChunk). AreSealed l rest) here h.are).0

pub copied_all : (k : ℤ) (n : ℕ) (sealed : List SealedChunk) (bytes rest : List ℕ) (made : List Chunk) → length sealed ≤ n → AreCopied k n sealed bytes rest made → made ≡ map xor_chunk_of (hour_parts k sealed bytes)
copied_all k n sealed bytes rest made over h =
    let no : drop n sealed ≡ [] = drop_all n sealed over in
    sym (ap (λ (l : List SealedChunk). made ++ map xor_chunk_of (hour_parts k l rest)) no ∙ append-nil made) ∙ h.is

no_parts : (cut : List (List Sample)) → All (λ part. 0 < length part) cut → flat_map (λ part. part) cut ≡ [] → length cut ≡ 0
no_parts [] some e = refl
no_parts (p ∷ more) some e = absurd (omega (arith, All-head (λ part. 0 < length part) p more some, ap length e, length-append p (flat_map (λ part. part) more)))

-- if no sample of the chunks is of the hour, none of a part is
pub copied_part_none : (k : ℤ) (n : ℕ) (sealed : List SealedChunk) (c : SealedChunk) (bytes rest : List ℕ) (made : List Chunk) → n < length sealed → c ≡ get_or sealed n c → AreSealed sealed bytes → AreCopied k n sealed bytes rest made
    → filter (λ s. is_in_hour k s.time) (sealed_samples sealed bytes) ≡ [] → filter (λ s. is_in_hour k s.time) (body_samples c.count (take c.len rest)) ≡ []
copied_part_none k n sealed c bytes rest made low at all h e =
    let here : drop n sealed ≡ c ∷ drop (n + 1) sealed = drop_more sealed n c low ∙ ap (λ (x : SealedChunk). x ∷ drop (n + 1) sealed) (sym at) in
    let part : List Sample = body_samples c.count (take c.len rest) in
    let one : List (List Sample) = one_part k c.max_time part in
    let others : List (List Sample) = hour_parts k (drop (n + 1) sealed) (drop c.len rest) in
    let whole : List (List Sample) = hour_parts k sealed bytes in
    let none : length whole ≡ 0 = no_parts whole (sealed_all (λ p. 0 < length p) k sealed bytes (λ c text p s. s.some) all) (sealed_joined k sealed bytes all ∙ e) in
    let is : made ++ map xor_chunk_of (one ++ others) ≡ map xor_chunk_of whole = ap (λ (l : List SealedChunk). made ++ map xor_chunk_of (hour_parts k l rest)) (sym here) ∙ h.is in
    let no : one ≡ [] = nil_from_length one (omega (arith, ap length is, none, length-append made (map xor_chunk_of (one ++ others)), length-map (one ++ others) xor_chunk_of, length-map whole xor_chunk_of, length-append one others)) in
    sym (one_joined k c.max_time part (copied_at k n sealed c bytes rest made low at h).hour) ∙ ap (flat_map (λ p. p)) no

-- where none of the hour is dropped
pub all_copied : (k : ℤ) (sealed : List SealedChunk) (w : WriterValue) (d : ℕ) (g : Option ℤ) (made : List Chunk) → AreStored sealed w d g → cond (is_in_hour k (first_hour sealed w)) d 0 ≡ 0
    → made ≡ map xor_chunk_of (hour_parts k sealed w.front) ++ map xor_chunk_of (open_parts k w.samples) → AreCopies k (drop d (stored sealed w)) made
all_copied k sealed w d g made h none is =
    let front : List (List Sample) = hour_parts k sealed w.front in
    let back : List (List Sample) = open_parts k w.samples in
    record {
      cut = front ++ back;
      are = is ∙ sym (map-append xor_chunk_of front back);
      joined = flat_map-append (λ p. p) front back ∙ ap₂ (λ (xs ys : List Sample). xs ++ ys) (sealed_joined k sealed w.front h.sealed_are) (open_joined k w.samples h.hour)
          ∙ sym (filter-append (λ s. is_in_hour k s.time) (sealed_samples sealed w.front) w.samples)
          ∙ sym (hour_of_kept k sealed w d g h ∙ ap (λ (n : ℕ). drop n (filter (λ s. is_in_hour k s.time) (stored sealed w))) none);
      some = All-append (λ part. 0 < length part) front back (sealed_all (λ part. 0 < length part) k sealed w.front (λ c text part s. s.some) h.sealed_are) (open_all (λ part. 0 < length part) k w.samples (λ some. some));
      few = All-append (λ part. length part ≤ chunk_samples) front back (sealed_all (λ part. length part ≤ chunk_samples) k sealed w.front (λ c text part s. s.few) h.sealed_are) (open_all (λ part. length part ≤ chunk_samples) k w.samples (λ some. h.few));
    }

-- ---- chunks that are cut as they have to be

-- parts are full where their chunks are
full_cut : (cut : List (List Sample)) → All (λ part. 0 < length part) cut → All (λ part. length part ≤ chunk_samples) cut
    → All (λ c. c.count ≡ chunk_samples) (take (length (map xor_chunk_of cut) - 1) (map xor_chunk_of cut)) → AreFull chunk_samples cut
full_cut [] some few full = tt
full_cut (p ∷ []) some few full = (All-head (λ part. 0 < length part) p [] some, All-head (λ part. length part ≤ chunk_samples) p [] few)
full_cut (p ∷ q ∷ more) some few full =
    let others : List Chunk = map xor_chunk_of (q ∷ more) in
    let place : length (map xor_chunk_of (p ∷ q ∷ more)) - 1 ≡ suc (length others - 1) = omega arith in
    let all : All (λ c. c.count ≡ chunk_samples) (xor_chunk_of p ∷ take (length others - 1) others) = subst (λ (n : ℕ). All (λ c. c.count ≡ chunk_samples) (take n (xor_chunk_of p ∷ others))) place full in (
      All-head (λ c. c.count ≡ chunk_samples) (xor_chunk_of p) (take (length others - 1) others) all,
      full_cut (q ∷ more) (All-tail (λ part. 0 < length part) p (q ∷ more) some) (All-tail (λ part. length part ≤ chunk_samples) p (q ∷ more) few) (All-tail (λ c. c.count ≡ chunk_samples) (xor_chunk_of p) (take (length others - 1) others) all),
    )

pub copies_are : (k : ℤ) (samples : List Sample) (made : List Chunk) → AreCopies k samples made → All (λ c. c.count ≡ chunk_samples) (take (length made - 1) made) → made ≡ xor_chunks_of (filter (λ s. is_in_hour k s.time) samples)
copies_are k samples made h full =
    let kept : List Sample = filter (λ s. is_in_hour k s.time) samples in
    let all = subst (λ (l : List Chunk). All (λ c. c.count ≡ chunk_samples) (take (length l - 1) l)) h.are full in
    let cut : ArePartsOf chunk_samples kept h.cut = record { joined = h.joined; full = full_cut h.cut h.some h.few all } in
    h.are ∙ ap (map xor_chunk_of) (one_parts chunk_samples (omega arith) kept h.cut (parts chunk_samples kept) cut (parts_are chunk_samples (omega arith) kept))
