-- A worked example of items that are applied to slots: a log of two series, of which the second takes over the reference of the first.
use Rattle.std.proofs.Common.{◌≡◌, ℕ, ℤ, pos, List, [], ◌∷◌, Option, Some, None, refl}
use Rattle.wal_record.specs.Entries.{Entry, series, sample, stone}
use Rattle.wal_record.specs.Labels.{label}
use Rattle.head_column.specs.Samples.{Sample}
use Rattle.head_column.specs.declared.items.Outcome.TheVariants.{Accepted, Stale, Hidden, EmptyStone}
use Rattle.head_column.specs.Histories.{history_after, history_outcome, no_history}
use Rattle.head_column.specs.Tallies.{latest_after, latest_outcome}
use Rattle.head_series.specs.Table.{Labels}
use Rattle.head_resolver.specs.Counts.{bound, accepted, stale, unknown, hides, empty_stone, fates}
use Rattle.head_resolver.specs.Resolved.{resolved}
use Rattle.head_core.specs.Applied.{values_after, outcomes_after, new_slots}

-- {1=2} and {1=3}
abbrev first : Labels
first = label (1 ∷ []) (2 ∷ []) ∷ []

abbrev second : Labels
second = label (1 ∷ []) (3 ∷ []) ∷ []

abbrev sample_at : ℕ → ℕ → Entry
sample_at r t = sample (record { reference = r; time = pos t; value = pos 7 })

abbrev stone_over : ℕ → ℕ → ℕ → Entry
stone_over r from to = stone (record { reference = r; min_time = pos from; max_time = pos to })

-- reference 9 has no owner
abbrev log : List Entry
log =
    series (record { reference = 5; labels = first })
    ∷ sample_at 5 10
    ∷ sample_at 5 10
    ∷ sample_at 9 20
    ∷ series (record { reference = 5; labels = second })
    ∷ sample_at 5 4
    ∷ stone_over 5 3 2
    ∷ stone_over 5 1 3
    ∷ []

abbrev kept : ℕ → Sample
kept t = record { time = pos t; value = pos 7 }

-- the first series has one sample, the second another and a hidden run
values : values_after history_after (new_slots no_history log) (resolved log)
    ≡ (0, record { samples = kept 10 ∷ []; hidden = [] }) ∷ (1, record { samples = kept 4 ∷ []; hidden = record { min_time = pos 1; max_time = pos 3 } ∷ [] }) ∷ []
values = refl

outcomes : outcomes_after history_after history_outcome (new_slots no_history log) (resolved log) ≡ Accepted ∷ Stale ∷ Accepted ∷ EmptyStone ∷ Hidden ∷ []
outcomes = refl

-- the fates of the entries, of which the outcomes are those of the items
fates_are : fates log ≡ bound ∷ accepted ∷ stale ∷ unknown ∷ bound ∷ accepted ∷ empty_stone ∷ hides ∷ []
fates_are = refl

-- so it is of the greatest times alone
latest : values_after latest_after (new_slots {V = Option ℤ} None log) (resolved log) ≡ (0, Some (pos 10)) ∷ (1, Some (pos 4)) ∷ []
latest = refl

told : outcomes_after latest_after latest_outcome (new_slots {V = Option ℤ} None log) (resolved log) ≡ Accepted ∷ Stale ∷ Accepted ∷ EmptyStone ∷ Hidden ∷ []
told = refl
