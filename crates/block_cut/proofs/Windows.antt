-- Chunks of a file, which are some of those of its series.
use Rattle.std.specs.Prelude.{◌≡◌, ◌<◌, ◌≤◌, ◌-◌, ℕ, zero, suc, ℤ, Bool, true, min, List, [], ◌∷◌, ◌++◌, All, length, map, take, drop, refl}
use Rattle.std.specs.List.{flat_map}
use Rattle.std.proofs.Common.{ap, append_assoc, arith, subst, sym, ◌∙◌}
use Rattle.std.proofs.lemmas.List.{drop-map, length-drop, length-take, take-map}
use Rattle.std.proofs.lemmas.List.Elements.{All-head, All-tail}
use Rattle.hw_bytes.specs.Sums.{Text}
use Rattle.head_column.specs.declared.chunk.Chunk.{Chunk}
use Rattle.head_core.specs.Content.{Content}
use Rattle.block_files.specs.declared.encoding.Encoding.{Encoding}
use Rattle.block_files.specs.Files.{chunk_element, row_texts}
use Rattle.block_cut.specs.declared.planning.PlannedSeries.{PlannedSeries}
use Rattle.block_cut.specs.Plans.{IsPlanned, data_at, data_of, to_come}

module _ {X : Type 0} where
  take_past : (n : ℕ) (xs ys : List X) → take n (xs ++ ys) ≡ take n xs ++ take (n - length xs) ys
  take_past zero [] ys = (let same : 0 ≡ 0 - 0 = omega arith in ap (λ k. take k ys) same)
  take_past (suc n) [] ys = (let same : suc n ≡ suc n - 0 = omega arith in ap (λ k. take k ys) same)
  take_past zero (x ∷ xs) ys = (let none : 0 ≡ 0 - suc (length xs) = omega arith in ap (λ k. take k ys) none)
  take_past (suc n) (x ∷ xs) ys = (let same : n - length xs ≡ suc n - suc (length xs) = omega arith in ap (λ l. x ∷ l) (take_past n xs ys) ∙ ap (λ k. x ∷ take n xs ++ take k ys) same)

  drop_past : (n : ℕ) (xs ys : List X) → drop n (xs ++ ys) ≡ drop n xs ++ drop (n - length xs) ys
  drop_past zero [] ys = (let same : 0 ≡ 0 - 0 = omega arith in ap (λ k. drop k ys) same)
  drop_past (suc n) [] ys = (let same : suc n ≡ suc n - 0 = omega arith in ap (λ k. drop k ys) same)
  drop_past zero (x ∷ xs) ys = (let none : 0 ≡ 0 - suc (length xs) = omega arith in ap (λ k. (x ∷ xs) ++ drop k ys) none)
  drop_past (suc n) (x ∷ xs) ys = (let same : n - length xs ≡ suc n - suc (length xs) = omega arith in drop_past n xs ys ∙ ap (λ k. drop n xs ++ drop k ys) same)

  take_least : (n m : ℕ) (xs : List X) → m ≡ min n (length xs) → take n xs ≡ take m xs
  take_least zero m xs is = (let none : 0 ≡ m = omega (arith, is) in ap (λ k. take k xs) none)
  take_least (suc n) zero [] is = refl
  take_least (suc n) (suc m) [] is = refl
  take_least (suc n) zero (x ∷ xs) is = absurd (omega (arith, is))
  take_least (suc n) (suc m) (x ∷ xs) is = ap (λ l. x ∷ l) (take_least n m xs (omega (arith, is)))

  drop_least : (n m : ℕ) (xs : List X) → m ≡ min n (length xs) → drop n xs ≡ drop m xs
  drop_least zero m xs is = (let none : 0 ≡ m = omega (arith, is) in ap (λ k. drop k xs) none)
  drop_least (suc n) zero [] is = refl
  drop_least (suc n) (suc m) [] is = refl
  drop_least (suc n) zero (x ∷ xs) is = absurd (omega (arith, is))
  drop_least (suc n) (suc m) (x ∷ xs) is = drop_least n m xs (omega (arith, is))

  -- some of two lists are some of the first and some of the second
  window : (skip left skipped taken : ℕ) (xs ys : List X) → skipped ≡ min skip (length xs) → taken ≡ min left (length xs - skipped)
      → take left (drop skip (xs ++ ys)) ≡ take taken (drop skipped xs) ++ take (left - taken) (drop (skip - skipped) ys)
  window skip left skipped taken xs ys s t =
      let rest = drop skip xs in
      let long : length rest ≡ length xs - skip = length-drop skip xs in
      let near : rest ≡ drop skipped xs = drop_least skip skipped xs s in
      let few : taken ≡ min left (length rest) = omega (arith, s, t, long) in
      let gone : left - length rest ≡ left - taken = omega (arith, s, t, long) in
      let past : skip - length xs ≡ skip - skipped = omega (arith, s) in
      ap (take left) (drop_past skip xs ys) ∙ take_past left rest (drop (skip - length xs) ys)
      ∙ ap (λ l. l ++ take (left - length rest) (drop (skip - length xs) ys)) (take_least left taken rest few ∙ ap (take taken) near)
      ∙ ap (λ n. take taken (drop skipped xs) ++ take n (drop (skip - length xs) ys)) gone
      ∙ ap (λ n. take taken (drop skipped xs) ++ take (left - taken) (drop n ys)) past

flat_map_both : {X Y : Type 0} (f : X → List Y) (xs ys : List X) → flat_map f (xs ++ ys) ≡ flat_map f xs ++ flat_map f ys
flat_map_both f [] ys = refl
flat_map_both f (x ∷ xs) ys = ap (λ l. f x ++ l) (flat_map_both f xs ys) ∙ sym (append_assoc (f x) (flat_map f xs) (flat_map f ys))

-- the data of some chunks
pub some_texts : (chunks others : List Chunk) (first count n : ℕ) → n ≡ count → chunks ≡ others → row_texts (take n (drop first chunks)) ≡ take count (drop first (row_texts others))
some_texts chunks others first count n is same =
    ap (λ k. row_texts (take k (drop first chunks))) is ∙ ap (λ cs. row_texts (take count (drop first cs))) same
    ∙ sym (take-map (λ (c : Chunk). c.text) count (drop first others)) ∙ ap (take count) (sym (drop-map (λ (c : Chunk). c.text) first others))

-- what comes of the next series, and behind it
pub comes_on : (e : Encoding) (k : ℤ) (c : Content) (series : List PlannedSeries) (s : PlannedSeries) (rest : List PlannedSeries) (begun : Bool) (skip left skipped taken : ℕ) (before after : Text) → begun ≡ true → series ≡ s ∷ rest → IsPlanned e k c s
    → skipped ≡ min skip s.chunks → taken ≡ min left (s.chunks - skipped) → after ≡ before ++ flat_map (chunk_element e) (take taken (drop skipped (data_at e k c s.slot)))
    → before ++ to_come e k c begun series skip left ≡ after ++ to_come e k c begun rest (skip - skipped) (left - taken)
comes_on e k c series s rest begun skip left skipped taken before after b are planned sk tk is =
    let texts = data_at e k c s.slot in
    let rests = data_of e k c rest in
    let some = take taken (drop skipped texts) in
    let later = take (left - taken) (drop (skip - skipped) rests) in
    let parts : take left (drop skip (texts ++ rests)) ≡ some ++ later = window skip left skipped taken texts rests (sk ∙ ap (min skip) planned.chunks) (tk ∙ ap (λ n. min left (n - skipped)) planned.chunks) in
    ap (λ x. before ++ to_come e k c x series skip left) b ∙ ap (λ x. before ++ to_come e k c true x skip left) are
    ∙ ap (λ x. before ++ flat_map (chunk_element e) x) parts ∙ ap (λ x. before ++ x) (flat_map_both (chunk_element e) some later)
    ∙ sym (append_assoc before (flat_map (chunk_element e) some) (flat_map (chunk_element e) later))
    ∙ ap (λ x. x ++ flat_map (chunk_element e) later) (sym is) ∙ ap (λ x. after ++ to_come e k c x rest (skip - skipped) (left - taken)) (sym b)

-- what holds of all series holds of the next one, and of those behind it
pub next_holds : {X : Type 0} (P : X → Type 0) (xs : List X) (x : X) (rest : List X) → xs ≡ x ∷ rest → All P xs → P x
next_holds P xs x rest is all = All-head P x rest (subst (All P) is all)

pub rest_holds : {X : Type 0} (P : X → Type 0) (xs : List X) (x : X) (rest : List X) → xs ≡ x ∷ rest → All P xs → All P rest
rest_holds P xs x rest is all = All-tail P x rest (subst (All P) is all)
