-- What is written is read again.
use Rattle.std.proofs.Common.{◌≡◌, ℕ, zero, suc, ◌+◌, ◌≤◌, ◌<◌, true, false, not, leb, eqb, List, [], ◌∷◌, ◌++◌, length, take, drop, Ok, refl, sym, ap, ◌∙◌, append_assoc, arith}
use Rattle.std.specs.Prelude.{replicate}
use Rattle.std.specs.List.{list_any, flat_map, AllByRecursion}
use Rattle.std.proofs.lemmas.Bool.{le-leb}
use Rattle.std.proofs.lemmas.List.{append-nil, length-append, drop_at, take_at}
use Rattle.std.proofs.lemmas.List.Concat.{flat_map-cons}
use Rattle.index_text.specs.declared.fault.ReadFault.TheVariants as faults
use Rattle.std.specs.Prelude.{◌&&◌}
use Rattle.index_text.specs.Gives.{◌>>=◌, must}
use Rattle.index_text.specs.Layout.{Text, padding}
use Rattle.index_text.specs.Fields.{Field, times, whole}
use Rattle.index_text.specs.Reading.{Element, aligned_at, elements}
use Rattle.index_text.proofs.Laid.{laid, length-zeros}

-- ---- fields

-- A field reads again what spell writes, whatever follows.
abbrev pub IsRead : {X : Type 0} → Field X → (X → Text) → (X → Type 0) → Type 0
IsRead {X} field spell P = (x : X) (rest : List ℕ) → P x → field (spell x ++ rest) ≡ Ok (x, rest)

pub times_again : {X : Type 0} (field : Field X) (spell : X → Text) (P : X → Type 0) → IsRead field spell P → (xs : List X) (rest : List ℕ) → AllByRecursion P xs
    → times field (length xs) (flat_map spell xs ++ rest) ≡ Ok (xs, rest)
unfolding times
times_again field spell P again [] rest h = refl
times_again field spell P again (x ∷ xs) rest h =
    let regrouped : flat_map spell (x ∷ xs) ++ rest ≡ spell x ++ (flat_map spell xs ++ rest) = ap (λ t. t ++ rest) (flat_map-cons spell x xs) ∙ append_assoc (spell x) (flat_map spell xs) rest in
    ap (times field (suc (length xs))) regrouped ∙ rw (again x (flat_map spell xs ++ rest) h.0, times_again field spell P again xs rest h.1) refl

pub whole_again : {X : Type 0} (field : Field X) (text : Text) (x : X) → field (text ++ []) ≡ Ok (x, []) → whole field text ≡ Ok x
whole_again field text x e = let same : field text ≡ Ok (x, []) = ap field (sym (append-nil text)) ∙ e in rw same refl

-- ---- aligned elements

none_other : (n : ℕ) → list_any (λ b. not (eqb b 0)) (replicate n 0) ≡ false
none_other zero = refl
none_other (suc n) = none_other n

pub aligned_again : (align at : ℕ) (rest : List ℕ) → aligned_at align at (replicate (padding align at) 0 ++ rest) ≡ Ok rest
unfolding aligned_at
aligned_again align at rest = by (padding align at)
  where
    by : (n : ℕ) → (must (leb n (length (replicate n 0 ++ rest)) && not (list_any (λ b. not (eqb b 0)) (take n (replicate n 0 ++ rest)))) faults.BadSection >>= λ z. Ok (drop n (replicate n 0 ++ rest))) ≡ Ok rest
    by n =
        let len : length (replicate {A = ℕ} n 0) ≡ n = length-zeros n in
        let there : leb n (length (replicate n 0 ++ rest)) ≡ true = le-leb n (length (replicate n 0 ++ rest)) (omega (arith, length-append (replicate n 0) rest)) in
        rw (there, take_at (replicate n 0) rest n len, drop_at (replicate n 0) rest n len, none_other n) refl

-- An element is read again at the place n, whatever follows: of the section that ends at the place end.
abbrev pub IsReadAt : {X : Type 0} → ℕ → ℕ → Element X → Text → X → Type 0
IsReadAt align end element text x = (n : ℕ) (rest : List ℕ) → n + padding align n + length text + length rest ≡ end → element (replicate (padding align n) 0 ++ (text ++ rest)) ≡ Ok (x, rest)

-- each text is read as the value beside it, and is not empty
abbrev pub AreReadAt : {X : Type 0} → ℕ → ℕ → Element X → List Text → List X → Type 0
AreReadAt align end element [] [] = Unit {0}
AreReadAt align end element [] (x ∷ xs) = ⊥
AreReadAt align end element (t ∷ ts) [] = ⊥
AreReadAt align end element (t ∷ ts) (x ∷ xs) = (0 < length t) × IsReadAt align end element t x × AreReadAt align end element ts xs

one_by_one : {X : Type 0} (element : Element X) (k : ℕ) (bytes rest : List ℕ) (x : X) (xs : List X) → 0 < length bytes → element bytes ≡ Ok (x, rest) → elements element k rest ≡ Ok xs → elements element (suc k) bytes ≡ Ok (x ∷ xs)
unfolding elements
one_by_one element k [] rest x xs some one more = absurd (omega arith)
one_by_one element k (b ∷ bytes) rest x xs some one more = rw (one, more) refl

none_left : {X : Type 0} (element : Element X) (k : ℕ) → elements element k [] ≡ Ok []
unfolding elements
none_left element zero = refl
none_left element (suc k) = refl

-- A section is read again: elements laid after n bytes, up to the place end.
pub elements_again : {X : Type 0} (align end : ℕ) (element : Element X) (ts : List Text) (xs : List X) (n k : ℕ) → AreReadAt align end element ts xs → n + length (laid align n ts) ≡ end → length (laid align n ts) ≤ k
    → elements element k (laid align n ts) ≡ Ok xs
unfolding laid
elements_again align end element [] [] n k h e le = none_left element k
elements_again align end element [] (x ∷ xs) n k h e le = absurd h
elements_again align end element (t ∷ ts) [] n k h e le = absurd h
elements_again align end element (t ∷ ts) (x ∷ xs) n zero h e le =
    absurd (omega (arith, h.0, le, length-append (replicate (padding align n) 0) (t ++ laid align (n + padding align n + length t) ts), length-append t (laid align (n + padding align n + length t) ts)))
elements_again align end element (t ∷ ts) (x ∷ xs) n (suc k) h e le =
    let p : ℕ = padding align n in
    let more : Text = laid align (n + padding align n + length t) ts in
    let l1 = length-append (replicate (padding align n) 0) (t ++ laid align (n + padding align n + length t) ts) in
    let l2 = length-append t (laid align (n + padding align n + length t) ts) in
    let l3 = length-zeros (padding align n) in
    one_by_one element k _ (laid align (n + padding align n + length t) ts) x xs (omega (arith, h.0, l1, l2))
    (h.1 n (laid align (n + padding align n + length t) ts) (omega (arith, e, l1, l2, l3)))
    (elements_again align end element ts xs (n + padding align n + length t) k h.2 (omega (arith, e, l1, l2, l3)) (omega (arith, le, h.0, l1, l2)))
