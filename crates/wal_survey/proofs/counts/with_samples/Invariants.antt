use Rattle.std.proofs.Common.{◌++◌, ℤ, List, map, take}
use Rattle.wal_record.specs.declared.record.SampleEntry.{SampleEntry}
use Rattle.wal_survey.specs.Surveys.{AreEnds}
use Rattle.wal_survey.proofs.counts.with_samples.Given as goal

abbrev pub invariant-loop-sample : goal.invariant-loop-sample
invariant-loop-sample l = (times : List ℤ) → AreEnds times l.fn.ends → AreEnds (times ++ map (λ (s : SampleEntry). s.time) (take l.sample-index l.samples)) l.ends
