-- The greatest of some elements.
use Rattle.std.proofs.Common.{◌≡◌, suc, ◌⊎◌, Bool, true, false, List, [], ◌∷◌, Option, Some, None, refl, sym, ap, subst, ◌∙◌, arith, inl, inr}
use Rattle.std.specs.Prelude.{Contains, if◌then◌else◌}
use Rattle.std.specs.List.{fold, AllByRecursion}
use Rattle.std.proofs.lemmas.List.Elements.{All-contains, All-from_recursion}
use Rattle.hw_bytes.specs.Lists.{greater_by, greatest_by, IsGreatest}

-- a test of an order
pub record IsOrder {A : Type 0} (less : A → A → Bool) (at_most : A → A → Type 0) : Type 0 where
  pub same : (a : A) → at_most a a
  pub under : (a b c : A) → less a b ≡ true → at_most b c → at_most a c
  pub over : (a b c : A) → less a b ≡ false → at_most a c → at_most b c
  pub both : (a b : A) → at_most a b → at_most b a → a ≡ b

module _ {A : Type 0} (less : A → A → Bool) (at_most : A → A → Type 0) (order : IsOrder less at_most) where
  -- of these elements and one before them, the greatest
  record GreatestFrom (x : A) (xs : List A) : Type 0 where
    g : A
    is : fold (greater_by less) (Some x) xs ≡ Some g
    first : at_most x g
    rest : AllByRecursion (λ y. at_most y g) xs
    one : (g ≡ x) ⊎ Contains xs g

  here : (xs : List A) (y g : A) → (g ≡ y) ⊎ Contains xs g → Contains (y ∷ xs) g
  here xs y g (inl e) = (0, omega arith, sym e)
  here xs y g (inr c) = (suc c.0, omega (arith, c.1), c.2)

  there : (xs : List A) (x y g : A) → (g ≡ x) ⊎ Contains xs g → (g ≡ x) ⊎ Contains (y ∷ xs) g
  there xs x y g (inl e) = inl e
  there xs x y g (inr c) = inr (suc c.0, omega (arith, c.1), c.2)

  greatest_from : (x : A) (xs : List A) → GreatestFrom x xs
  greatest_from x [] = record { g = x; is = refl; first = order.same x; rest = tt; one = inl refl }
  greatest_from x (y ∷ ys) = by (less x y) refl (λ z. greatest_from z ys) where
    by : (b : Bool) → less x y ≡ b → ((z : A) → GreatestFrom z ys) → GreatestFrom x (y ∷ ys)
    by true e from =
        let h = from y in
        record { g = h.g; is = ap (λ b. fold (greater_by less) (if b then Some y else Some x) ys) e ∙ h.is; first = order.under x y h.g e h.first; rest = (h.first, h.rest); one = inr (here ys y h.g h.one) }
    by false e from =
        let h = from x in
        record { g = h.g; is = ap (λ b. fold (greater_by less) (if b then Some y else Some x) ys) e ∙ h.is; first = h.first; rest = (order.over x y h.g e h.first, h.rest); one = there ys x y h.g h.one }

  pub greatest_is : (xs : List A) → IsGreatest at_most xs (greatest_by less xs)
  greatest_is [] = refl
  greatest_is (x ∷ xs) =
      let h = greatest_from x xs in
      subst (IsGreatest at_most (x ∷ xs)) (sym h.is) (here xs x h.g h.one, All-from_recursion (λ y. at_most y h.g) (x ∷ xs) (h.first, h.rest))

  none : (g : A) → Contains [] g → ⊥
  none g c = omega (arith, c.1)

  pub one_greatest : (xs : List A) (g h : Option A) → IsGreatest at_most xs g → IsGreatest at_most xs h → g ≡ h
  one_greatest xs None None p q = refl
  one_greatest xs None (Some h) p q = absurd (none h (subst (λ (ys : List A). Contains ys h) p q.0))
  one_greatest xs (Some g) None p q = absurd (none g (subst (λ (ys : List A). Contains ys g) q p.0))
  one_greatest xs (Some g) (Some h) p q = ap (λ (x : A). Some x) (order.both g h (All-contains (λ y. at_most y h) xs g q.1 p.0) (All-contains (λ y. at_most y g) xs h p.1 q.0))
