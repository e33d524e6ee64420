-- Worked surveys, by computation.
use Rattle.std.proofs.Common.{◌≡◌, ℤ, pos, negsuc, List, [], ◌∷◌, Some, None, refl, arith}
use Rattle.std.specs.Prelude.{◌≤ℤ◌}
use Rattle.std.specs.Int.Signed.{le_z_yes}
use Rattle.std.specs.List.{filter_map}
use Rattle.std.proofs.lemmas.Int.{ints}
use Rattle.std.proofs.lemmas.List.Elements.{All-cons, All-nil}
use Rattle.wal_record.specs.declared.record.SampleEntry.{SampleEntry}
use Rattle.wal_record.specs.declared.record.WalRecord.{WalRecord}
use Rattle.wal_record.specs.declared.record.WalRecord.TheVariants.{Series, Samples, Other}
use Rattle.wal_survey.specs.Surveys.{AreEnds, IsCountOf, counts_of, other_kind, sample_entries, series_entries, stone_entries, times_of}

abbrev sample : ℤ → SampleEntry
sample time = record { reference = 7; time = time; value = pos 0 }

-- three samples in two records, a record of no series, and three records of two other types
abbrev records : List WalRecord
records = Other (Some 6) ∷ Samples (sample (pos 5) ∷ sample (negsuc 2) ∷ []) ∷ Series [] ∷ Other None ∷ Other (Some 6) ∷ Samples (sample (pos 4) ∷ []) ∷ []

series : IsCountOf (filter_map series_entries records) (record { records = 1; entries = 0 })
series = record { records = refl; entries = refl }

samples : IsCountOf (filter_map sample_entries records) (record { records = 2; entries = 3 })
samples = record { records = refl; entries = refl }

stones : IsCountOf (filter_map stone_entries records) (record { records = 0; entries = 0 })
stones = record { records = refl; entries = refl }

skipped : counts_of (filter_map other_kind records) ≡ record { kind = Some 6; records = 2 } ∷ record { kind = None; records = 1 } ∷ []
skipped = refl

abbrev IsBetween : ℤ → Type 0
IsBetween t = (negsuc 2 ≤ℤ t) × (t ≤ℤ pos 5)

times : AreEnds (times_of (filter_map sample_entries records)) (Some (negsuc 2, pos 5))
times =
    ((1, omega arith, refl), (0, omega arith, refl), All-cons IsBetween (pos 5) (negsuc 2 ∷ pos 4 ∷ []) (le_z_yes tt, le_z_yes tt) (All-cons IsBetween (negsuc 2) (pos 4 ∷ []) (le_z_yes tt, le_z_yes tt) (All-cons IsBetween (pos 4) [] (le_z_yes tt, le_z_yes tt) (All-nil IsBetween))))

-- not the other way round
exchanged : AreEnds (times_of (filter_map sample_entries records)) (Some (pos 5, negsuc 2)) → ⊥
exchanged h = (let k = (h.2 0 (pos 0) (omega arith)).1 in omega (arith, ints, k))

none : AreEnds (times_of (filter_map sample_entries (Samples [] ∷ []))) None
none = refl
