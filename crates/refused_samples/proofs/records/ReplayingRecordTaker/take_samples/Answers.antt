use Rattle.std.proofs.Common.{◌++◌, ◌∷◌, []}
use Rattle.wal_record.specs.declared.record.WalRecord.TheVariants.{Samples}
use Rattle.head_intervals.proofs.Counted.{on_ok}
use Rattle.refused_samples.specs.Replaying.{HasReplayed, Replays, left_in}
use Rattle.refused_samples.proofs.Replayed.{took_more}
use Rattle.refused_samples.proofs.records.ReplayingRecordTaker.take_samples.Goals as goal

pub returns : goal.returns
returns c = λ first before so_far.
    on_ok c.take_all.result (Replays c.args.self.now (λ m. left_in m (Samples c.args.samples.now)) c.take_all.new.self) (HasReplayed first (before ++ record { place = c.args._place; content = Samples c.args.samples.now } ∷ []) c.take_all.new.self) c.take_all.ensures (λ next.
    took_more first c.args.self.now c.take_all.new.self before (record { place = c.args._place; content = Samples c.args.samples.now }) so_far next)
