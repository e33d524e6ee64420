-- Items in lists for workers, before they are dealt.
use Rattle.std.specs.Prelude.{◌≡◌, ℕ, suc, ◌+◌, ◌*◌, ◌/◌, ◌<◌, ◌≤◌, List, [], ◌∷◌, ◌++◌, map, length, None, replicate, slice_index_or, if◌then◌else◌}
use Rattle.std.specs.List.{enumerate_from, flat_map}
use Rattle.head_deal.specs.Jobs.{Queued}
use Rattle.head_deal.specs.declared.parts.Due.{Due}
use Rattle.head_deal.specs.Endings.{is_of}
use Rattle.head_deal.specs.Dealing.{Dealing}
use Rattle.head_deal.specs.Joining.{scatter, filled}

-- what contracts see of a Spread: the number of workers, and each item with its slot, in order
pub record SpreadValue (I : Type 0) : Type 0 where
  pub workers : ℕ
  pub items : List (ℕ × I)

-- what contracts see of Seats: the number of workers, and of slots
pub record SeatsValue : Type 0 where
  pub workers : ℕ
  pub slots : ℕ

-- the deal after one item more, and after several, one after another
abbrev pub dealt : {B I O : Type 0} → Dealing B I O → ℕ → I → Dealing B I O
dealt d slot item = record d { jobs = d.jobs ++ record { number = length d.jobs; slot = slot; state = Queued item } ∷ [] }

abbrev pub dealt_all : {B I O : Type 0} → Dealing B I O → List (ℕ × I) → Dealing B I O
dealt_all d [] = d
dealt_all d (p ∷ ps) = dealt_all (dealt d p.0 p.1) ps

-- the worker's items, each with its place among all from n on
abbrev pub dues_of : {I : Type 0} → ℕ → ℕ → ℕ → List (ℕ × I) → List (Due I)
dues_of workers worker n [] = []
dues_of workers worker n (p ∷ ps) =
    if is_of workers worker p.0 then record { number = n; element = p.0 / workers; item = p.1 } ∷ dues_of workers worker (suc n) ps else dues_of workers worker (suc n) ps

-- the items of a worker's list, each at its number
abbrev pub placed : {I : Type 0} → ℕ → ℕ → List (Due I) → List (ℕ × (ℕ × I))
placed workers worker = map (λ due. (due.number, (worker + due.element * workers, due.item)))

-- what the lists hold, each item at its number
abbrev pub spread_items : {I : Type 0} → ℕ → ℕ → List (List (Due I)) → List (ℕ × I)
spread_items workers count lists = filled (scatter (flat_map (λ p. placed workers p.0 p.1) (enumerate_from 0 lists)) (replicate count None))

-- the lists are those of the workers
pub record IsSpread {I : Type 0} (s : SpreadValue I) (many : ℕ) (rows : List (List (Due I))) : Type 0 where
  pub some : 0 < s.workers
  pub most : s.workers ≤ 64
  pub count : length s.items ≡ many
  pub each : length rows ≡ s.workers
  pub lists : (k : ℕ) (l : List (Due I)) → k < s.workers → slice_index_or rows k l ≡ dues_of s.workers k 0 s.items
