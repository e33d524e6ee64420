-- Samples that rise, the text of a chunk, and samples cut into chunks.
use Rattle.std.proofs.Common.{◌≡◌, ℕ, zero, suc, ◌+◌, ◌-◌, ◌<◌, ◌≤◌, List, [], ◌∷◌, ◌++◌, length, get_or, take, drop, refl, sym, ap, subst, ◌∙◌, arith, append_assoc, inl, inr, min}
use Rattle.std.specs.Prelude.{ℤ, ◌≤ℤ◌, ◌<ℤ◌, int_lt, map}
use Rattle.std.specs.List.{All, AllWithin}
use Rattle.std.specs.List.Sorted.{IsPartitionedBy}
use Rattle.std.proofs.lemmas.Bool.{cases_lt}
use Rattle.std.proofs.lemmas.Int.{ints}
use Rattle.std.proofs.lemmas.List.{get_or-take, get_or-drop, length-take, length-drop, take_all, drop_all}
use Rattle.xor_chunk.specs.declared.sample.Sample.{Sample}
use Rattle.head_column.specs.Samples.{Rises}
use Rattle.head_column.specs.declared.chunk.Chunk.{Chunk}
use Rattle.head_column.specs.declared.cutting.Form.{Form}
use Rattle.head_column.specs.Chunks.{parts_in, parts, first_time, last_time}
use Rattle.head_column.specs.Cutting.{chunk_in, chunks_in}
use Rattle.head_column.proofs.HourLaws.{lt_true, lt_from}

-- ---- samples that rise

pub rises_drop : (n : ℕ) (xs : List Sample) → Rises xs → Rises (drop n xs)
rises_drop zero xs h = h
rises_drop (suc n) [] h = h
rises_drop (suc n) (s ∷ []) h = rises_drop n [] tt
rises_drop (suc n) (s ∷ t ∷ rest) h = rises_drop n (t ∷ rest) h.1

first_below : (s : Sample) (xs : List Sample) → Rises (s ∷ xs) → (j : ℕ) (d : Sample) → j < length xs → s.time <ℤ (get_or xs j d).time
first_below s [] h j d lt = absurd (omega (arith, lt))
first_below s (t ∷ rest) h zero d lt = h.0
first_below s (t ∷ rest) h (suc j) d lt = (let next = first_below t rest h.1 j d (omega (arith, lt)) in omega (arith, ints, next, h.0))

pub rises_le : (xs : List Sample) → Rises xs → (i j : ℕ) (d : Sample) → i ≤ j → j < length xs → (get_or xs i d).time ≤ℤ (get_or xs j d).time
rises_le [] h i j d le lt = absurd (omega (arith, lt))
rises_le (s ∷ xs) h zero zero d le lt = omega (arith, ints)
rises_le (s ∷ xs) h zero (suc j) d le lt = (let next = first_below s xs h j d (omega (arith, lt)) in omega (arith, ints, next))
rises_le (s ∷ xs) h (suc i) zero d le lt = absurd (omega (arith, le))
rises_le (s ∷ xs) h (suc i) (suc j) d le lt = rises_le xs (rises_drop 1 (s ∷ xs) h) i j d (omega (arith, le)) (omega (arith, lt))

pub parted : (xs : List Sample) (limit : ℤ) → Rises xs → IsPartitionedBy (λ (s : Sample). int_lt s.time limit) xs
parted xs limit h i j d le lt e =
    let order = rises_le xs h i j d le lt in
    let before = lt_from (get_or xs j d).time limit e in
    lt_true (get_or xs i d).time limit (omega (arith, ints, order, before))

-- what holds below a place, and what holds from it on
pub all_taken : {X : Type 0} (P : X → Type 0) (xs : List X) (n : ℕ) → n ≤ length xs → AllWithin P xs 0 n → All P (take n xs)
all_taken P xs n le h i d lt = (let below : i < n = omega (arith, lt, length-take n xs) in subst P (sym (get_or-take n xs i d below)) (h i d (omega arith) below))

pub all_dropped : {X : Type 0} (P : X → Type 0) (xs : List X) (n : ℕ) → AllWithin P xs n (length xs) → All P (drop n xs)
all_dropped P xs n h i d lt = subst P (sym (get_or-drop n xs i d)) (h (n + i) d (omega arith) (omega (arith, lt, length-drop n xs)))

-- ---- a chunk

pub first_is : (xs : List Sample) (d : Sample) → 0 < length xs → first_time xs ≡ (get_or xs 0 d).time
first_is [] d h = absurd (omega (arith, h))
first_is (s ∷ rest) d h = refl

pub last_is : (xs : List Sample) (d : Sample) → 0 < length xs → last_time xs ≡ (get_or xs (length xs - 1) d).time
last_is [] d h = absurd (omega (arith, h))
last_is (s ∷ []) d h = refl
last_is (s ∷ t ∷ rest) d h =
    let at : length (s ∷ t ∷ rest) - 1 ≡ suc (length (t ∷ rest) - 1) = omega arith in
    last_is (t ∷ rest) d (omega arith) ∙ ap (λ (i : ℕ). (get_or (s ∷ t ∷ rest) i d).time) (sym at)

-- ---- the parts of a list

-- more fuel than elements makes no difference
parts_enough : {A : Type 0} (k j n : ℕ) (xs : List A) → length xs ≤ k → length xs ≤ j → parts_in k (suc n) xs ≡ parts_in j (suc n) xs
parts_enough zero zero n xs p q = refl
parts_enough zero (suc j) n [] p q = refl
parts_enough zero (suc j) n (x ∷ xs) p q = absurd (omega (arith, p))
parts_enough (suc k) zero n [] p q = refl
parts_enough (suc k) zero n (x ∷ xs) p q = absurd (omega (arith, q))
parts_enough (suc k) (suc j) n [] p q = refl
parts_enough (suc k) (suc j) n (x ∷ xs) p q =
    ap (λ t. take (suc n) (x ∷ xs) ∷ t) (parts_enough k j n (drop n xs) (omega (arith, p, length-drop n xs)) (omega (arith, q, length-drop n xs)))

-- the first part, and those of the rest
parts_more : {A : Type 0} (n : ℕ) (xs : List A) → 0 < length xs → parts (suc n) xs ≡ take (suc n) xs ∷ parts (suc n) (drop (suc n) xs)
parts_more n [] h = absurd (omega (arith, h))
parts_more n (x ∷ xs) h = ap (λ t. take (suc n) (x ∷ xs) ∷ t) (parts_enough (length xs) (length (drop n xs)) n (drop n xs) (omega (arith, length-drop n xs)) (omega arith))

front_of : (xs : List Sample) (n m : ℕ) → m ≡ min (length xs) n → take m xs ≡ take n xs
front_of xs n m e = elim (cases_lt n (length xs)) [
  | inl lt ↦ (let is : m ≡ n = omega (arith, e, lt) in ap (λ (i : ℕ). take i xs) is)
  | inr le ↦ take_all m xs (omega (arith, e, le)) ∙ sym (take_all n xs le)
]

back_of : (xs : List Sample) (n m : ℕ) → m ≡ min (length xs) n → drop m xs ≡ drop n xs
back_of xs n m e = elim (cases_lt n (length xs)) [
  | inl lt ↦ (let is : m ≡ n = omega (arith, e, lt) in ap (λ (i : ℕ). drop i xs) is)
  | inr le ↦ drop_all m xs (omega (arith, e, le)) ∙ sym (drop_all n xs le)
]

-- some chunks are made, and the rest of the samples makes the others
pub record AreCut (form : Form) (done : List Chunk) (rest samples : List Sample) : Type 0 where
  pub whole : done ++ chunks_in form rest ≡ chunks_in form samples

pub cut_more : (form : Form) (done more : List Chunk) (rest those others samples : List Sample) (c : Chunk) (m : ℕ) → AreCut form done rest samples → 0 < length rest → m ≡ min (length rest) 120
    → those ≡ take m rest → others ≡ drop m rest → c ≡ chunk_in form those → more ≡ done ++ c ∷ [] → AreCut form more others samples
cut_more form done more rest those others samples c m cut some least t o is e =
    let front : those ≡ take 120 rest = t ∙ front_of rest 120 m least in
    let back : others ≡ drop 120 rest = o ∙ back_of rest 120 m least in
    record {
      whole = ap (λ (cs : List Chunk). cs ++ chunks_in form others) e ∙ append_assoc done (c ∷ []) (chunks_in form others) ∙ ap (λ (d : Chunk). done ++ d ∷ chunks_in form others) (is ∙ ap (chunk_in form) front)
          ∙ ap (λ (xs : List Sample). done ++ chunk_in form (take 120 rest) ∷ chunks_in form xs) back ∙ ap (λ (ps : List (List Sample)). done ++ map (chunk_in form) ps) (sym (parts_more 119 rest some)) ∙ cut.whole;
    }
