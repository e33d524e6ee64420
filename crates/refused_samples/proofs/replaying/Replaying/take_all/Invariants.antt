use Rattle.std.proofs.Common.{take}
use Rattle.wal_record.specs.declared.record.WalRecord.TheVariants.{Samples}
use Rattle.refused_samples.specs.Replaying.{Replays, left_in}
use Rattle.refused_samples.proofs.replaying.Replaying.take_all.Given as goal

abbrev pub invariant-loop-sample : goal.invariant-loop-sample
invariant-loop-sample l = Replays l.fn.self (λ m. left_in m (Samples (take l.sample-index l.samples))) l.self
