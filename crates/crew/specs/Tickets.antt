-- The rule of the word, which says how many numbers were drawn, and what each kind of step does to it.
use Rattle.std.specs.Prelude.{◌≡◌, ℕ, ◌+◌, ◌<◌, ◌≤◌, true, false, ◌==◌, nat_lt, if◌then◌else◌, List, [], ◌∷◌, ◌++◌, length, max, sum_by, count_by, slice_index, MatchBool}
use mathlib.Core.Option.{some}
use lib.ListN.{get_elem?}
use Rattle.atomic_table.specs.Table.{State, Me, Step}
use Rattle.atomic_table.specs.Seated.{TableId}
use Rattle.crew.specs.declared.claims.Known.{Known}

-- What contracts see of claims: which they are, and how many pieces they have.
pub record ClaimsView : Type 0 where
  pub id : TableId
  pub pieces : ℕ

-- What contracts see of a pass: the claims that it came from, the greatest word that it has seen, and the numbers that it drew.
pub record PassView : Type 0 where
  pub claims : ClaimsView
  pub seen : ℕ
  pub drawn : List ℕ

abbrev pub pass_of : ClaimsView → ℕ → List ℕ → PassView
pass_of claims seen drawn = record { claims = claims; seen = seen; drawn = drawn }

-- what a pass in use knows
abbrev pub known : ℕ → ℕ → List ℕ → Known
known pieces seen drawn = record { is_spent = false; pieces = pieces; seen = seen; drawn = drawn }

-- what is left of a pass that was joined to another
abbrev pub spent : Known
spent = record { is_spent = true; pieces = 0; seen = 0; drawn = [] }

-- how often the number is in the list
abbrev pub times : ℕ → List ℕ → ℕ
times x xs = count_by (λ y. y == x) xs

-- no number is in the list twice
abbrev pub HasNoRepeat : List ℕ → Type 0
HasNoRepeat xs = (x : ℕ) → times x xs ≤ 1

-- how often the number is in the lists of all views together
abbrev pub times_in_all : ℕ → List Known → ℕ
times_in_all x views = sum_by (λ v. times x v.drawn) views

-- the seat of this number has this view, which is what the rule knows of a pass
abbrev pub IsAt : List Known → ℕ → Known → Type 0
IsAt views seat v = get_elem? views seat ≡ some v

-- The word is at most the number of pieces, and no view in use has seen a greater word. All lists together have each number below the
-- word once, and no other number.
pub record Tickets (pieces word : ℕ) (views : List Known) : Type 0 where
  pub within : word ≤ pieces
  pub seen : (seat : ℕ) (v : Known) → IsAt views seat v → v.is_spent ≡ false → (v.pieces ≡ pieces) × (v.seen ≤ word)
  pub once : (x : ℕ) → times_in_all x views ≡ (if nat_lt x word then 1 else 0)

-- a table has just one word, and the rule holds of it and of the table's views
abbrev pub Ruled : {S : Type 0} → ℕ → State S Known → Type 0
Ruled pieces s = (length s.words ≡ 1) × Tickets pieces (slice_index s.words 0) s.views

-- the view after it drew the number n, and after it saw the greater word n
abbrev pub taking : Known → ℕ → Known
taking v n = record v { seen = n + 1; drawn = v.drawn ++ n ∷ [] }

abbrev pub seeing : Known → ℕ → Known
seeing v n = record v { seen = n }

-- a new view, which has seen as much as v and drew nothing
abbrev pub fresh : Known → Known
fresh v = record v { drawn = [] }

-- one view for two
abbrev pub joined : Known → Known → Known
joined v w = record v { seen = max v.seen w.seen; drawn = v.drawn ++ w.drawn }

-- a claim that found the word last seen drew that number; any other has seen a greater word
abbrev pub Draws : {S : Type 0} → Step S → Me S Known → ℕ → Me S Known → Type 0
Draws step me found after =
    (after.1 ≡ me.1) × (found ≤ me.0.pieces) × HasNoRepeat after.0.drawn
    × MatchBool (found == step.first) (after.0 ≡ taking me.0 found) ((step.first < found) × (after.0 ≡ seeing me.0 found))

-- a look changes nothing, and after it the list is known to have no number twice
abbrev pub Looks : {S : Type 0} → Step S → Me S Known → ℕ → Me S Known → Type 0
Looks step me found after = (after ≡ me) × HasNoRepeat after.0.drawn

-- the pass is one of some that meet the rule with this word
abbrev pub Closes : PassView → ℕ → Type 0
Closes p word = (views : List Known) × (seat : ℕ) × Tickets p.claims.pieces word views × IsAt views seat (known p.claims.pieces p.seen p.drawn)
