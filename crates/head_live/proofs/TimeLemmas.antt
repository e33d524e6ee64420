-- Whether one of some times is at or past a time, with one time more.
use Rattle.std.proofs.Common.{◌≡◌, Bool, true, false, List, [], ◌∷◌, ◌++◌, Option, Some, None, ap, sym, ◌∙◌, refl, arith}
use Rattle.std.specs.Prelude.{ℤ, ◌≤ℤ◌, ◌||◌, int_le, int_lt, if◌then◌else◌}
use Rattle.std.specs.List.{fold, list_any}
use Rattle.std.proofs.lemmas.Int.{ints}
use Rattle.std.proofs.lemmas.List.Folds.{list_any-append}
use Rattle.head_column.specs.Times.{greatest, later, reaches}

later_reaches : (t u : ℤ) (b : Bool) → int_lt u t ≡ b → (x : ℤ) → reaches (if b then Some t else Some u) x ≡ (int_le x u || int_le x t)
later_reaches t u true h x = grind (arith, ints)
later_reaches t u false h x = grind (arith, ints)

one_more : (g : Option ℤ) (t x : ℤ) → reaches (later g t) x ≡ (reaches g x || int_le x t)
one_more None t x = refl
one_more (Some u) t x = later_reaches t u (int_lt u t) refl x

or_assoc : (a b c : Bool) → ((a || b) || c) ≡ (a || (b || c))
or_assoc true b c = refl
or_assoc false b c = refl

from : (g : Option ℤ) (ts : List ℤ) (x : ℤ) → reaches (fold later g ts) x ≡ (reaches g x || list_any (int_le x) ts)
from g [] x = or_none (reaches g x) where
  or_none : (a : Bool) → a ≡ (a || false)
  or_none true = refl
  or_none false = refl
from g (t ∷ ts) x = from (later g t) ts x ∙ (ap (λ b. b || list_any (int_le x) ts) (one_more g t x) ∙ or_assoc (reaches g x) (int_le x t) (list_any (int_le x) ts))

-- one of the times is at or past x just where the greatest is
pub reaches_greatest : (ts : List ℤ) (x : ℤ) → list_any (int_le x) ts ≡ reaches (greatest ts) x
reaches_greatest ts x = sym (from None ts x)

one_or : (b : Bool) → (b || false) ≡ b
one_or true = refl
one_or false = refl

-- one of the times is at or past x, with one time more
pub one_time : (ts : List ℤ) (t x : ℤ) → list_any (int_le x) (ts ++ t ∷ []) ≡ (list_any (int_le x) ts || int_le x t)
one_time ts t x = list_any-append (int_le x) ts (t ∷ []) ∙ ap (λ b. list_any (int_le x) ts || b) (one_or (int_le x t))

-- a time before m is at or past none that is not
pub past_expired : (m t x : ℤ) (b : Bool) → int_lt t m ≡ true → m ≤ℤ x → (b || int_le x t) ≡ b
past_expired m t x true h k = refl
past_expired m t x false h k = grind (arith, ints)

-- a time that the last is at or past changes nothing
pub past_stale : (last : Option ℤ) (t x : ℤ) → reaches last t ≡ true → (reaches last x || int_le x t) ≡ reaches last x
past_stale None t x h = cc
past_stale (Some u) t x h = grind (arith, ints)

-- a time past the last is the last
pub past_accepted : (last : Option ℤ) (t x : ℤ) → reaches last t ≡ false → (reaches last x || int_le x t) ≡ int_le x t
past_accepted None t x h = refl
past_accepted (Some u) t x h = grind (arith, ints)
