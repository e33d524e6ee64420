-- What is built so far: words of the crate's contracts, and of those above it.
use Rattle.std.specs.Prelude.{◌≡◌, ◌++◌, ◌<◌, ◌^◌, ℕ, ℤ, List, [], false, length, replicate}
use Rattle.std.specs.List.{enumerate_from}
use Rattle.wal_record.specs.declared.record.WalRecord.{WalRecord}
use Rattle.wal_record.specs.Entries.{entries_of}
use Rattle.wal_record.specs.Validity.{valid}
use Rattle.head_column.specs.declared.items.Item.{Item}
use Rattle.head_column.specs.declared.items.Outcome.{Outcome}
use Rattle.head_column.specs.declared.items.Run.{Run}
use Rattle.head_resolver.specs.Taken.{taken_of}
use Rattle.head_resolver.specs.Changes.{AreBelow, Change}
use Rattle.head_resolver.specs.Ahead.{IsAhead}
use Rattle.head_resolver.specs.Resolved.{IsResolvable, resolved}
use Rattle.head_core.specs.Applied.{new_slots}
use Rattle.replay_rounds.specs.Dealt.{HasDealt, SeriesWords}
use Rattle.replay_rounds.specs.Makes.{HasResolved}
use Rattle.replay_rounds.specs.declared.building.Building.{Building}

-- the ghost words of `SeriesBuilder`, for proofs
abbrev pub words_of : {B V : Type 0} → (B → V) → (V → Item → V) → (V → Item → Outcome) → (Run → B) → SeriesWords B
words_of {B} {V} value after outcome blank = record { Value = V; value = value; after = after; outcome = outcome; blank = blank }

-- the settings of a replay: entries before this time are expired, there are so many workers, and builders that do not keep all samples keep
-- those of these times
pub record Settings : Type 0 where
  pub min_valid : ℤ
  pub workers : ℕ
  pub times : Run

-- The resolver has what these records say with the least valid time of the settings, and the deal ends with what their valid items make of a
-- new slot for each series. The deal has as many workers as the settings say.
pub record HasBuilt {B : Type 0} (b : SeriesWords B) (settings : Settings) (rs : List WalRecord) (building : Building B Item Outcome) : Type 0 where
  pub resolved_by : HasResolved settings.min_valid rs building.resolver
  pub sound : building.resolver.failed ≡ false
  pub limits : IsResolvable (taken_of settings.min_valid rs)
  pub workers : building.rounds.deal.workers ≡ settings.workers
  pub times : building.times ≡ settings.times
  pub slots : length building.rounds.deal.builders ≡ length building.resolver.table.series
  pub ends : HasDealt b.value b.after b.outcome (new_slots (b.value (b.blank settings.times)) (entries_of (valid settings.min_valid rs))) (resolved (entries_of (valid settings.min_valid rs))) building.rounds

-- The resolver has what the records rs say with the least valid time of the settings, and a window of records after them: those in `front`
-- were applied too, and of those in `back` only the bindings were made, with these changes. The deal has a slot for each series, and ends with
-- what the valid items of the records that were applied make of new slots. It has as many workers as the settings say.
pub record HasBuiltAhead {B : Type 0} (b : SeriesWords B) (settings : Settings) (rs front back : List WalRecord) (cs : List Change) (building : Building B Item Outcome) : Type 0 where
  pub time : building.resolver.min_valid ≡ settings.min_valid
  pub ahead : IsAhead (taken_of settings.min_valid rs) front back cs building.resolver
  pub sound : building.resolver.failed ≡ false
  pub limits : back ≡ [] → IsResolvable (taken_of settings.min_valid (rs ++ front))
  pub below : AreBelow (length building.resolver.table.series) cs
  pub few : length building.resolver.table.series < 2 ^ 32
  pub workers : building.rounds.deal.workers ≡ settings.workers
  pub times : building.times ≡ settings.times
  pub slots : length building.rounds.deal.builders ≡ length building.resolver.table.series
  pub ends : HasDealt b.value b.after b.outcome (enumerate_from 0 (replicate (length building.resolver.table.series) (b.value (b.blank settings.times)))) (resolved (entries_of (valid settings.min_valid (rs ++ front)))) building.rounds
