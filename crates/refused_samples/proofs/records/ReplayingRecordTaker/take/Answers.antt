use Rattle.std.proofs.Common.{◌≡◌, ◌++◌, ◌∷◌, ◌∙◌, [], ap, subst, sym}
use Rattle.wal_record.specs.declared.record.WalRecord.{WalRecord}
use Rattle.wal_record.specs.declared.record.WalRecord.TheVariants.{Samples}
use Rattle.head_intervals.proofs.Counted.{on_ok}
use Rattle.refused_samples.specs.Replaying.{HasReplayed, Replays, left_in}
use Rattle.refused_samples.proofs.Replayed.{took_more}
use Rattle.refused_samples.proofs.records.ReplayingRecordTaker.take.Goals as goal

pub returns-in-Samples : goal.returns-in-Samples
returns-in-Samples c = λ first before so_far.
    let old = c.args.self.now in
    let new = c.take_all.new.self in
    let read = c.as_slice.result.now in
    let is : Samples read ≡ c.args.record.now.content = ap Samples c.as_slice.ensures ∙ sym c.in-Samples.is in
    on_ok c.take_all.result (Replays old (λ m. left_in m (Samples read)) new) (HasReplayed first (before ++ c.args.record.now ∷ []) new) c.take_all.ensures (λ next.
    took_more first old new before c.args.record.now so_far (subst (λ (r : WalRecord). Replays old (λ m. left_in m r) new) is next))

pub returns-in-Series : goal.returns-in-Series
returns-in-Series c = λ first before so_far.
    let old = c.args.self.now in
    let new = c.take_other.new.self in
    on_ok c.take_other.result (Replays old (λ m. left_in m c.args.record.now.content) new) (HasReplayed first (before ++ c.args.record.now ∷ []) new) c.take_other.ensures (took_more first old new before c.args.record.now so_far)
