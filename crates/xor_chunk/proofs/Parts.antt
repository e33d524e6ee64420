-- A list in parts.
use Rattle.std.proofs.Common.{◌≡◌, ℕ, zero, suc, ◌<◌, ◌≤◌, min, List, [], ◌∷◌, ◌++◌, length, take, drop, refl, sym, ap, ◌∙◌, arith}
use Rattle.std.specs.List.{flat_map}
use Rattle.std.proofs.lemmas.List.{append-nil, length-append, length-drop, length-take, take-append-drop, drop_at}
use Rattle.std.proofs.Math.Seq.{take-append_seam}
use Rattle.xor_chunk.specs.Parts.{AreFull, ArePartsOf, parts, parts_in}

module _ {A : Type 0} (n : ℕ) (positive : 0 < n) where
  abbrev joined : List (List A) → List A
  joined ps = flat_map (λ p. p) ps

  some_first : (p : List A) (ps : List (List A)) → AreFull n (p ∷ ps) → 0 < length p
  some_first p [] f = f.0
  some_first p (q ∷ more) f = omega (arith, f.0)

  full_rest : (p : List A) (ps : List (List A)) → AreFull n (p ∷ ps) → AreFull n ps
  full_rest p [] f = tt
  full_rest p (q ∷ more) f = f.1

  -- a part before full parts
  full_cons : (p : List A) (ps : List (List A)) → AreFull n ps → 0 < length p → length p ≤ n → (0 < length (joined ps) → length p ≡ n) → AreFull n (p ∷ ps)
  full_cons p [] f some few long = (some, few)
  full_cons p (q ∷ more) f some few long = (long (omega (arith, some_first q more f, length-append q (joined more))), f)

  are_in : (k : ℕ) (xs : List A) → length xs ≤ k → ArePartsOf n xs (parts_in k n xs)
  are_in zero [] few = record { joined = refl; full = tt }
  are_in zero (x ∷ xs) few = absurd (omega arith)
  are_in (suc k) [] few = record { joined = refl; full = tt }
  are_in (suc k) (x ∷ xs) few =
      let all = x ∷ xs in
      let rest = drop n all in
      let h = are_in k rest (omega (arith, length-drop n all)) in
      let left : length (joined (parts_in k n rest)) ≡ length rest = ap length h.joined in
      record {
        joined = ap (λ (ys : List A). take n all ++ ys) h.joined ∙ take-append-drop n all;
        full = full_cons (take n all) (parts_in k n rest) h.full (omega (arith, length-take n all)) (omega (arith, length-take n all)) (λ some. omega (arith, length-take n all, left, length-drop n all));
      }

  pub parts_are : (xs : List A) → ArePartsOf n xs (parts n xs)
  parts_are xs = are_in (length xs) xs (omega arith)

  -- how long the first part is
  first_long : (p : List A) (ps : List (List A)) (xs : List A) → AreFull n (p ∷ ps) → joined (p ∷ ps) ≡ xs → length p ≡ min n (length xs)
  first_long p [] xs f e = omega (arith, f.1, ap length (append-nil p), ap length e)
  first_long p (q ∷ more) xs f e = omega (arith, f.0, length-append p (joined (q ∷ more)), ap length e)

  first_is : (p : List A) (ps : List (List A)) (xs : List A) → AreFull n (p ∷ ps) → joined (p ∷ ps) ≡ xs → p ≡ take (min n (length xs)) xs
  first_is p ps xs f e = sym (take-append_seam p (joined ps)) ∙ ap (λ (m : ℕ). take m (p ++ joined ps)) (first_long p ps xs f e) ∙ ap (take (min n (length xs))) e

  rest_is : (p : List A) (ps : List (List A)) (xs : List A) → AreFull n (p ∷ ps) → joined (p ∷ ps) ≡ xs → joined ps ≡ drop (min n (length xs)) xs
  rest_is p ps xs f e = sym (drop_at p (joined ps) (min n (length xs)) (first_long p ps xs f e)) ∙ ap (drop (min n (length xs))) e

  one_by : (ps qs : List (List A)) (xs : List A) → AreFull n ps → AreFull n qs → joined ps ≡ xs → joined qs ≡ xs → ps ≡ qs
  one_by [] [] xs f g d e = refl
  one_by [] (q ∷ qs) xs f g d e = absurd (omega (arith, some_first q qs g, length-append q (joined qs), ap length (e ∙ sym d)))
  one_by (p ∷ ps) [] xs f g d e = absurd (omega (arith, some_first p ps f, length-append p (joined ps), ap length (d ∙ sym e)))
  one_by (p ∷ ps) (q ∷ qs) xs f g d e =
      let first : p ≡ q = first_is p ps xs f d ∙ sym (first_is q qs xs g e) in
      let rest : ps ≡ qs = one_by ps qs (drop (min n (length xs)) xs) (full_rest p ps f) (full_rest q qs g) (rest_is p ps xs f d) (rest_is q qs xs g e) in
      ap (λ (x : List A). x ∷ ps) first ∙ ap (λ (x : List (List A)). q ∷ x) rest

  pub one_parts : (xs : List A) (ps qs : List (List A)) → ArePartsOf n xs ps → ArePartsOf n xs qs → ps ≡ qs
  one_parts xs ps qs h k = one_by ps qs xs h.full k.full h.joined k.joined
