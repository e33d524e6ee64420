-- How the changes of a window are found by their references: words of proofs and of private functions, which no public contract cites.
use Rattle.std.specs.Prelude.{◌≡◌, ℕ, suc, ◌<◌, ◌≤◌, ◌==◌, nat_eq, slice_get, Bool, true, Some, List, [], ◌∷◌, map, if◌then◌else◌}
use Rattle.std.specs.Map.{lookup}
use Rattle.std.specs.Option.{unwrap_or}
use Rattle.hw_bytes.specs.Lists.{along}
use Rattle.head_resolver.specs.Changes.{Change}

-- The number, from 1, of the last of these changes that is of the reference, or `found` if there is none. The first has the number n + 1.
abbrev pub last_from : ℕ → ℕ → List Change → ℕ → ℕ
last_from n found [] r = found
last_from n found (c ∷ cs) r = last_from (suc n) (if c.reference == r then suc n else found) cs r

-- the same of all changes, or 0 if there is none
abbrev pub last_of : List Change → ℕ → ℕ
last_of cs r = last_from 0 0 cs r

-- for each change the number of the last one before it of the same reference
abbrev pub links_of : List Change → List ℕ
links_of cs = along (λ before c. last_of before c.reference ∷ []) cs

-- A change jumps to one before it, which is of the same reference. Numbers are from 1, and 0 is for none.
abbrev pub AreJumps : List ℕ → List ℕ → Type 0
AreJumps references jumps = (k j : ℕ) → slice_get jumps k ≡ Some (suc j) → (j < k) × (slice_get references j ≡ slice_get references k)

-- no change is at a place before that of an earlier one
abbrev pub AreInOrder : List Change → Type 0
AreInOrder cs = (i j : ℕ) (c d : Change) → i ≤ j → slice_get cs i ≡ Some c → slice_get cs j ≡ Some d → c.place ≤ d.place

-- For each change the number of the last one before it of the same reference, and of one to jump to; for each reference the number of its last
-- change; and whether it is known that the places are in order.
pub record AreLinked (cs : List Change) (previous jumps : List ℕ) (lasts : List (ℕ × ℕ)) (in_order : Bool) : Type 0 where
  pub previous_are : previous ≡ links_of cs
  pub jumps_are : AreJumps (map (λ c. c.reference) cs) jumps
  pub lasts_are : (r : ℕ) → unwrap_or (lookup (nat_eq r) lasts) 0 ≡ last_of cs r
  pub order_is : in_order ≡ true → AreInOrder cs
