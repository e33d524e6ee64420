use Rattle.std.proofs.Common.{◌≡◌, take}
use Rattle.std.specs.List.{flat_map}
use Rattle.wal_record.specs.Validity.{valid_sample}
use Rattle.wal_survey.specs.Keeping.{noted_with_all, notes_of}
use Rattle.wal_survey.specs.Unbound.{sample_references}
use Rattle.wal_survey.proofs.references.note_all.Given as goal

abbrev pub invariant-loop-sample : goal.invariant-loop-sample
invariant-loop-sample l = notes_of l.noted.entries ≡ noted_with_all l.bound (notes_of l.fn.noted.entries) l.place (sample_references (flat_map (valid_sample l.min_valid) (take l.sample-index l.samples)))
