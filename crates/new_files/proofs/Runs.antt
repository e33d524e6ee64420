-- The calls of a list, one member after another, up to one of them.
use Rattle.std.specs.Prelude.{Result, Err, ℕ, ◌≡◌, ◌+◌, ◌<◌, List, [], ◌∷◌, ◌++◌, length, map, take, drop, refl}
use Rattle.std.specs.List.{flat_map}
use Rattle.std.proofs.Common.{ap, subst, sym, ◌∙◌, append_assoc, append-nil, get_or}
use Rattle.std.proofs.lemmas.List.{take_more, take-append-drop}
use Rattle.store.specs.Calls.{Call}
use Rattle.new_files.specs.Orders.{DidAll, DidFirst, Follows}
use Rattle.new_files.proofs.Orders.{all_both, first_behind, first_of_more, handed_on}

module _ {X Y : Type 0} (view : X → Y) (calls : Y → List Call) where
  abbrev of : List X → List Call
  of xs = flat_map calls (map view xs)

  of-append : (xs ys : List X) → of (xs ++ ys) ≡ of xs ++ of ys
  of-append [] ys = refl
  of-append (x ∷ xs) ys = ap (λ more. calls (view x) ++ more) (of-append xs ys) ∙ sym (append_assoc (calls (view x)) (of xs) (of ys))

  module _ (xs : List X) (i : ℕ) (x : X) (here : List Call) (lt : i < length xs) (is : x ≡ get_or xs i x) (h : calls (view x) ≡ here) where
    one : of (get_or xs i x ∷ []) ≡ here
    one = append-nil (calls (view (get_or xs i x))) ∙ ap (λ y. calls (view y)) (sym is) ∙ h

    pub with_one_more : of (take (i + 1) xs) ≡ of (take i xs) ++ here
    with_one_more = ap of (take_more xs i x lt) ∙ of-append (take i xs) (get_or xs i x ∷ []) ∙ ap (λ more. of (take i xs) ++ more) one

    pub with_the_rest : of xs ≡ of (take i xs) ++ (here ++ of (drop (i + 1) xs))
    with_the_rest = ap of (sym (take-append-drop (i + 1) xs)) ∙ of-append (take (i + 1) xs) (drop (i + 1) xs)
        ∙ ap (λ more. more ++ of (drop (i + 1) xs)) with_one_more ∙ append_assoc (of (take i xs)) here (of (drop (i + 1) xs))

    module _ {S : Type 0} (did : S → List Call → S → Type 0) (did_both : (old middle new : S) (first second : List Call) → did old first middle → did middle second new → did old (first ++ second) new)
        (old middle new : S) (before : DidAll did old (of (take i xs)) middle) where
      -- the member's calls were made
      pub goes_on : DidAll did middle here new → DidAll did old (of (take (i + 1) xs)) new
      goes_on done = subst (λ all. DidAll did old all new) (sym with_one_more) (all_both did did_both old middle new (of (take i xs)) here before done)

      -- one of them failed
      pub ends : {T E : Type 0} (result : Result T E) (fault : E) → result ≡ Err fault → DidFirst did middle here new → Follows did old (of xs) result new
      ends result fault is first = handed_on did old new (of xs) result fault is (subst (λ all. DidFirst did old all new) (sym with_the_rest)
          (first_behind did did_both old middle new (of (take i xs)) (here ++ of (drop (i + 1) xs)) before (first_of_more did middle new here (of (drop (i + 1) xs)) first)))
