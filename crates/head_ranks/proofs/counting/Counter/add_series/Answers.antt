use Rattle.std.proofs.Common.{◌++◌, ◌∷◌, [], sym, subst, take, arith}
use Rattle.std.proofs.lemmas.List.{take_all}
use Rattle.hw_bytes.proofs.Places.{take_more}
use Rattle.wal_record.specs.Labels.{Labels, label}
use Rattle.head_column.specs.Histories.{History}
use Rattle.head_series.specs.Table.{labels_at}
use Rattle.head_core.specs.Heads.{history_at}
use Rattle.head_ranks.specs.Counting.{IsCountOf}
use Rattle.head_ranks.proofs.Sets.{first_there}
use Rattle.head_ranks.proofs.Told.{begun}
use Rattle.head_ranks.proofs.counting.Counter.add_series.Goals as goal

pub loop-i-init : goal.loop-i-init
loop-i-init c = λ before is. begun before (history_at c.args.head.now.content c.args.slot) c.args.self.now is

pub loop-i-preserved : goal.loop-i-preserved
loop-i-preserved c = λ before is.
    let ls : Labels = labels_at c.args.head.now.content.table c.args.slot in
    let h : History = history_at c.args.head.now.content c.args.slot in
    let l = label c.pair.result.0.now c.pair.result.1.now in
    let i = c.loop-i.i in
    subst (λ (ms : Labels). IsCountOf (before ++ (ms, h) ∷ []) c.add_label.new.self) (sym (take_more ls i l c.pair.ensures))
    (c.in_ok-add_label.ensures before (take i ls) h c.sample_count-samples.ensures (first_there ls i l c.requires.set c.pair.ensures) (c.loop-i.invariant before is))

pub returns : goal.returns
returns c = λ before is.
    let ls : Labels = labels_at c.args.head.now.content.table c.args.slot in
    let h : History = history_at c.args.head.now.content c.args.slot in
    let pairs = c.pairs-i-end.ensures in
    subst (λ (ms : Labels). IsCountOf (before ++ (ms, h) ∷ []) c.loop-i.self) (take_all c.loop-i.i ls (omega (arith, pairs))) (c.loop-i.invariant before is)
