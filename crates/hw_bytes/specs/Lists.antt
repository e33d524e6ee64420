-- Words on lists that several crates' definitions share.
use Rattle.std.specs.Prelude.{◌≡◌, ℕ, ◌+◌, Bool, true, List, [], ◌∷◌, ◌++◌, All, Contains, Option, None, Some, if◌then◌else◌}
use Rattle.std.specs.Option.{option_map}
use Rattle.std.specs.List.{list_any, fold}

-- what f gives for each element and those before it: `along f [a, b, c] = f [] a ++ f [a] b ++ f [a, b] c`
abbrev pub along : {A B : Type 0} → (List A → A → List B) → List A → List B
along f [] = []
along f (x ∷ xs) = f [] x ++ along (λ before. f (x ∷ before)) xs

-- [x] if no element before it is equal to it, else []
abbrev pub if_new : {A : Type 0} → (A → A → Bool) → List A → A → List A
if_new same before x = if list_any (same x) before then [] else x ∷ []

-- the elements without repeats, each where it comes first
abbrev pub distinct : {A : Type 0} → (A → A → Bool) → List A → List A
distinct same xs = along (if_new same) xs

-- the first of two options that is not `None`
abbrev pub or_else : {A : Type 0} → Option A → Option A → Option A
or_else None b = b
or_else (Some a) b = Some a

-- f of the last element for which f is not `None`
abbrev pub last_found : {A B : Type 0} → (A → Option B) → List A → Option B
last_found f [] = None
last_found f (x ∷ xs) = or_else (last_found f xs) (f x)

-- the greater of g and x, or x if there is no g
abbrev pub greater_by : {A : Type 0} → (A → A → Bool) → Option A → A → Option A
greater_by less None x = Some x
greater_by less (Some g) x = if less g x then Some x else Some g

-- the greatest of the elements, if there are any: for an order, the only one that is `IsGreatest`
abbrev pub greatest_by : {A : Type 0} → (A → A → Bool) → List A → Option A
greatest_by less xs = fold (greater_by less) None xs

-- g is one of the elements, and each is at most g; or there are no elements
abbrev pub IsGreatest : {A : Type 0} → (A → A → Type 0) → List A → Option A → Type 0
IsGreatest at_most xs None = xs ≡ []
IsGreatest at_most xs (Some g) = Contains xs g × All (λ x. at_most x g) xs

-- `same` is a test of equality
pub record IsSame {A : Type 0} (same : A → A → Bool) : Type 0 where
  pub reflexive : (a : A) → same a a ≡ true
  pub exact : (a b : A) → same a b ≡ true → a ≡ b

-- the place, from 0, of the first element that passes the test
abbrev pub place : {A : Type 0} → (A → Bool) → List A → Option ℕ
place p [] = None
place p (x ∷ xs) = if p x then Some 0 else option_map (λ n. n + 1) (place p xs)
