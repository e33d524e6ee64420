-- Which references of samples no series entry binds.
use Rattle.std.specs.Prelude.{◌≡◌, ℕ, ℤ, Bool, List, [], not, map, filter, length, nat_eq, slice_get}
use Rattle.std.specs.List.{flat_map, list_any}
use Rattle.hw_bytes.specs.Lists.{distinct}
use Rattle.wal_record.specs.declared.record.SampleEntry.{SampleEntry}
use Rattle.wal_record.specs.declared.record.SeriesEntry.{SeriesEntry}
use Rattle.wal_record.specs.declared.record.WalRecord.{WalRecord}
use Rattle.wal_record.specs.declared.record.WalRecord.TheVariants.{Series, Samples, Stones, Other}
use Rattle.wal_record.specs.Validity.{valid_sample}
use Rattle.wal_log.specs.declared.reading.Place.{Place}
use Rattle.wal_log.specs.declared.reading.Placed.{Placed}
use Rattle.wal_survey.specs.ReferenceSets.{ReferenceSetValue, has}
use Rattle.wal_survey.specs.declared.references.Unbound.{Unbound}
use Rattle.wal_survey.specs.declared.references.UnboundReference.{UnboundReference}

abbrev pub series_references : List SeriesEntry → List ℕ
series_references entries = map (λ e. e.reference) entries

abbrev pub sample_references : List SampleEntry → List ℕ
sample_references entries = map (λ s. s.reference) entries

-- the references that a record binds: those of its series entries
abbrev pub bound_by : WalRecord → List ℕ
bound_by (Series entries) = series_references entries
bound_by (Samples entries) = []
bound_by (Stones entries) = []
bound_by (Other kind) = []

-- the references that a record's samples name, in order, without the samples before the least valid time m
abbrev pub named_by : ℤ → WalRecord → List ℕ
named_by m (Series entries) = []
named_by m (Samples entries) = sample_references (flat_map (valid_sample m) entries)
named_by m (Stones entries) = []
named_by m (Other kind) = []

-- these references, each with this place
abbrev pub at_place : Place → List ℕ → List UnboundReference
at_place place references = map (λ r. record { reference = r; place = place }) references

-- whether a series entry of one of these records has the reference
abbrev pub is_bound_in : List Placed → ℕ → Bool
is_bound_in placed r = list_any (nat_eq r) (flat_map (λ p. bound_by p.content) placed)

-- the references that the samples of these records from m on name, in order, each with the place of its record
abbrev pub named_in : ℤ → List Placed → List UnboundReference
named_in m placed = flat_map (λ p. at_place p.place (named_by m p.content)) placed

abbrev pub same_reference : UnboundReference → UnboundReference → Bool
same_reference a b = nat_eq a.reference b.reference

-- the references that samples of these records from m on name and that no series entry of any of them has, each once, where it comes first
abbrev pub unbound_in : ℤ → List Placed → List UnboundReference
unbound_in m placed = distinct same_reference (filter (λ u. not (is_bound_in placed u.reference)) (named_in m placed))

-- The references of samples in these records, of times from m on, that no series entry binds: their number, and the first of them.
pub record IsUnboundIn (m : ℤ) (placed : List Placed) (u : Unbound) : Type 0 where
  pub references : u.references ≡ length (unbound_in m placed)
  pub first : u.first ≡ slice_get (unbound_in m placed) 0

-- What is kept of records: the references that are bound, references that samples named before they were bound, in order, and the least
-- valid time.
pub record ReferencesValue : Type 0 where
  pub bound : ReferenceSetValue
  pub noted : List UnboundReference
  pub min_valid : ℤ

-- This is kept of these records with the least valid time m: what they bind is bound, and what is noted and not bound is what they leave
-- unbound.
pub record AreReferencesOf (m : ℤ) (placed : List Placed) (s : ReferencesValue) : Type 0 where
  pub min_valid : s.min_valid ≡ m
  pub bound : (r : ℕ) → has s.bound r ≡ is_bound_in placed r
  pub noted : filter (λ u. not (has s.bound u.reference)) s.noted ≡ unbound_in m placed
