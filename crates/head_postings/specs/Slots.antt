-- Ascending lists of slots, and their union.
use Rattle.std.specs.Prelude.{◌≡◌, ℕ, ◌<◌, Bool, ◌||◌, List, [], ◌∷◌}
use Rattle.std.specs.List.{list_any}

-- each slot is greater than s
abbrev pub AreAbove : ℕ → List ℕ → Type 0
AreAbove s [] = Unit {0}
AreAbove s (t ∷ ts) = (s < t) × AreAbove s ts

-- each slot is less than s
abbrev pub AreBelow : ℕ → List ℕ → Type 0
AreBelow s [] = Unit {0}
AreBelow s (t ∷ ts) = (t < s) × AreBelow s ts

-- each slot is less than all that come after it
abbrev pub IsAscending : List ℕ → Type 0
IsAscending [] = Unit {0}
IsAscending (s ∷ ts) = AreAbove s ts × IsAscending ts

-- zs has the elements of both lists, and no others: a test holds of some element of zs just if it holds of some element of xs or of ys.
abbrev pub AreOfBoth : {A : Type 0} → List A → List A → List A → Type 0
AreOfBoth {A} xs ys zs = (test : A → Bool) → list_any test zs ≡ (list_any test xs || list_any test ys)

-- zs is the ascending list of the elements of both
abbrev pub IsUnion : List ℕ → List ℕ → List ℕ → Type 0
IsUnion xs ys zs = IsAscending zs × AreOfBoth xs ys zs
