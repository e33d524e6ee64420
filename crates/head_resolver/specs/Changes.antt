-- The bindings of a window of a log, which are all made before the samples and deletions of the window are resolved.
use Rattle.std.specs.Prelude.{ℕ, ◌+◌, ◌<◌, ◌==◌, ◌&&◌, nat_le, All, IfSome, List, [], ◌∷◌, ◌++◌, Option, map, if◌then◌else◌}
use Rattle.std.specs.List.{flat_map}
use Rattle.wal_record.specs.declared.record.SeriesEntry.{SeriesEntry}
use Rattle.wal_record.specs.declared.record.WalRecord.{WalRecord}
use Rattle.wal_record.specs.Entries.{Entry, series, entries_in}
use Rattle.wal_record.specs.Validity.{series_in}
use Rattle.head_resolver.specs.Resolved.{slot_behind}

-- A reference that was bound at a place of a window, and the slot that it named before, if it named one.
pub record Change : Type 0 where
  pub reference : ℕ
  pub place : ℕ
  pub before : Option ℕ

-- The slot of a reference at a place of a window: what it was before the first change of the reference at the place or after it, or else
-- what it is after all changes.
abbrev pub slot_before : List Change → (ℕ → Option ℕ) → ℕ → ℕ → Option ℕ
slot_before [] after p r = after r
slot_before (c ∷ cs) after p r = if (c.reference == r) && nat_le p c.place then c.before else slot_before cs after p r

-- the series entries of records, each with the place of its record: the places are n, n + 1 and so on
abbrev pub placed_series : ℕ → List WalRecord → List (ℕ × SeriesEntry)
placed_series n [] = []
placed_series n (r ∷ rs) = map (λ e. (n, e)) (flat_map series_in (entries_in r)) ++ placed_series (n + 1) rs

-- the changes that series entries make, one after another, after the entries es
abbrev pub changes_of : List Entry → List (ℕ × SeriesEntry) → List Change
changes_of es [] = []
changes_of es (d ∷ ds) = record { reference = d.1.reference; place = d.0; before = slot_behind es d.1.reference } ∷ changes_of (es ++ series d.1 ∷ []) ds

-- the slots before these changes are among the first n
abbrev pub AreBelow : ℕ → List Change → Type 0
AreBelow n cs = All (λ c. IfSome c.before (λ s. s < n)) cs
