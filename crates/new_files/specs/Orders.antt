-- Calls in an order that was laid down before.
use Rattle.std.specs.Prelude.{◌≡◌, ◌⊎◌, List, [], ◌∷◌, Result, MatchResult}
use Rattle.store.specs.Calls.{Call, Remove}

abbrev pub IsRemoval : Call → Type 0
IsRemoval (Remove path) = Unit {0}
IsRemoval call = ⊥

-- the calls of an order, without those removals that found nothing
abbrev pub AreAll : List Call → List Call → Type 0
AreAll made [] = made ≡ []
AreAll made (call ∷ calls) = ((rest : List Call) × (made ≡ call ∷ rest) × AreAll rest calls) ⊎ (IsRemoval call × AreAll made calls)

-- the first calls of an order, without those removals that found nothing
abbrev pub AreFirst : List Call → List Call → Type 0
AreFirst made [] = made ≡ []
AreFirst made (call ∷ calls) = (made ≡ []) ⊎ (((rest : List Call) × (made ≡ call ∷ rest) × AreFirst rest calls) ⊎ (IsRemoval call × AreFirst made calls))

-- between these states of a store a whole order took effect
pub record DidAll {S : Type 0} (did : S → List Call → S → Type 0) (old : S) (calls : List Call) (new : S) : Type 0 where
  pub made : List Call
  pub done : did old made new
  pub are_all : AreAll made calls

-- between these states of a store the first calls of an order took effect
pub record DidFirst {S : Type 0} (did : S → List Call → S → Type 0) (old : S) (calls : List Call) (new : S) : Type 0 where
  pub made : List Call
  pub done : did old made new
  pub are_first : AreFirst made calls

-- the whole order after an Ok, and its first calls after an error
abbrev pub Follows : {S T E : Type 0} → (S → List Call → S → Type 0) → S → List Call → Result T E → S → Type 0
Follows did old calls result new = MatchResult result (λ _. DidAll did old calls new) (λ _. DidFirst did old calls new)
