-- What the records of a log make: they are resolved, and their items dealt to workers.
use Rattle.std.specs.Prelude.{◌≡◌, ℤ, List, map}
use Rattle.wal_record.specs.declared.record.WalRecord.{WalRecord}
use Rattle.wal_record.specs.Entries.{entries_of}
use Rattle.wal_record.specs.Validity.{valid}
use Rattle.head_column.specs.declared.items.Item.{Item}
use Rattle.head_resolver.specs.declared.counts.Counts.{Counts}
use Rattle.head_resolver.specs.Taken.{taken_of}
use Rattle.head_resolver.specs.Counts.{counts_of}
use Rattle.head_resolver.specs.Resolved.{ResolverValue, IsResolved, IsResolvable, resolved}
use Rattle.head_core.specs.Resolved.{HaveOutcomes}
use Rattle.head_core.specs.Applied.{new_slots, values_after}

-- The resolver has the least valid time m, and what these records say of series and references with it in force.
pub record HasResolved (m : ℤ) (rs : List WalRecord) (r : ResolverValue) : Type 0 where
  pub time : r.min_valid ≡ m
  pub taken : IsResolved (taken_of m rs) r

-- What these records say with the least valid time m is resolved and counted, and these are the values of their series.
pub record IsWhole {V : Type 0} (after : V → Item → V) (new : V) (m : ℤ) (rs : List WalRecord) (r : ResolverValue) (values : List V) (c : Counts) : Type 0 where
  pub resolved_by : HasResolved m rs r
  pub limits : IsResolvable (taken_of m rs)
  pub values_are : values ≡ map (λ slot. slot.1) (values_after after (new_slots new (entries_of (valid m rs))) (resolved (entries_of (valid m rs))))
  pub outcomes : HaveOutcomes c (counts_of (taken_of m rs))
