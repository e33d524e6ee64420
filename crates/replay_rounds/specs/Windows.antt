-- What workers make of the records of a window of the log.
use Rattle.std.specs.Prelude.{◌≡◌, ℕ, ◌+◌, ℤ, List, [], ◌∷◌, ◌++◌, Option, length}
use Rattle.wal_log.specs.declared.reading.Placed.{Placed}
use Rattle.wal_log.specs.Log.{contents}
use Rattle.head_resolver.specs.Ahead.{AreSpreadAt}
use Rattle.head_resolver.specs.Steps.{no_counts}
use Rattle.replay_rounds.specs.declared.spreading.Spreading.{Spreading}

-- what no records make, for so many workers
abbrev pub IsFresh : ℕ → Spreading → Type 0
IsFresh workers made = (made.spread ≡ record { workers = workers; items = [] }) × (made.counts ≡ no_counts)

-- records from the place n of the window on make it, by the slots that references have at each place, with the least valid time m
abbrev pub IsMadeOf : ℤ → (ℕ → ℕ → Option ℕ) → ℕ → ℕ → List Placed → Spreading → Type 0
IsMadeOf m slots workers n records made = AreSpreadAt m slots n (contents records) made.spread.items made.counts × (made.spread.workers ≡ workers)

-- some of the records, from the place n on, make the first, those after them the next, and so on
abbrev pub AreMadeOf : ℤ → (ℕ → ℕ → Option ℕ) → ℕ → ℕ → List Placed → List Spreading → Type 0
AreMadeOf m slots workers n records [] = records ≡ []
AreMadeOf m slots workers n records (made ∷ more) =
    (front : List Placed) × (back : List Placed) × (records ≡ front ++ back) × IsMadeOf m slots workers n front made × AreMadeOf m slots workers (n + length front) back more
