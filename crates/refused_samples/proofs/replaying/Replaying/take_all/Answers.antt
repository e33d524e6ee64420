use Rattle.std.proofs.Common.{◌++◌, ◌∷◌, ◌∙◌, [], List, ap, append_assoc, arith, get_or, pos, subst, sym, take}
use Rattle.std.proofs.lemmas.List.{take_all}
use Rattle.wal_record.specs.declared.record.SampleEntry.{SampleEntry}
use Rattle.wal_record.specs.declared.record.WalRecord.TheVariants.{Samples}
use Rattle.wal_record.specs.Entries.{Entry}
use Rattle.refused_samples.specs.Replaying.{IsReplaying, left_in}
use Rattle.refused_samples.proofs.Replayed.{left_more}
use Rattle.refused_samples.proofs.replaying.Replaying.take_all.Goals as goal

pub loop-sample-preserved : goal.loop-sample-preserved
loop-sample-preserved c = λ i m es before.
    let n = c.loop-sample.sample-index in
    let ss : List SampleEntry = c.args.samples.now in
    let none : SampleEntry = record { reference = 0; time = pos 0; value = pos 0 } in
    let front = left_in m (Samples (take n ss)) in
    let next = c.in_ok-take_one.ensures i m (es ++ front) (c.loop-sample.invariant i m es before) in
    subst (λ (fs : List Entry). IsReplaying i m fs c.take_one.new.self) (append_assoc es front (left_in m (Samples (get_or ss n none ∷ []))) ∙ ap (λ (fs : List Entry). es ++ fs) (sym (left_more m ss n none c.loop-sample-test.true))) next

pub returns : goal.returns
returns c = λ i m es before.
    subst (λ (ss : List SampleEntry). IsReplaying i m (es ++ left_in m (Samples ss)) c.loop-sample.self) (take_all c.loop-sample.sample-index c.args.samples.now (omega arith)) (c.loop-sample.invariant i m es before)
