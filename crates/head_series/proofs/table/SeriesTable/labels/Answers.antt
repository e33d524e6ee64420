use Rattle.std.proofs.Common.{◌++◌, ◌∷◌, [], Err, ap, sym, subst, ◌∙◌, arith}
use Rattle.std.specs.List.{All}
use Rattle.wal_record.specs.Labels.{IsLabelSet, IsNext}
use Rattle.head_series.specs.Rows.{label}
use Rattle.head_series.specs.Table.{labels_at}
use Rattle.head_series.proofs.CopyLemmas.{name_at, next_at}
use Rattle.head_series.proofs.TextLemmas.{take_more}
use Rattle.head_series.proofs.table.SeriesTable.labels.Goals as goal

pub unreachable-requires : goal.unreachable-requires
unreachable-requires c =
    let ls = labels_at c.args.self.now c.args.slot in
    let all : All IsLabelSet c.args.self.now.series = subst (All IsLabelSet) (ap (λ t. t.series) c.self.view_is) c.self.invariant.ordered in
    let set = all c.args.slot [] c.requires in
    let some = name_at ls c.loop-i.i (label c.pair.result.0.now c.pair.result.1.now) set c.pair.ensures in
    let none = c.push.ensures.empty.0 (c.in-Err-EmptyName.is ∙ ap Err c.in-Err-EmptyName.field-0-is) in
    absurd (omega (arith, some, none))

pub unreachable-requires-in-Err-NotAscending : goal.unreachable-requires-in-Err-NotAscending
unreachable-requires-in-Err-NotAscending c =
    let ls = labels_at c.args.self.now c.args.slot in
    let all : All IsLabelSet c.args.self.now.series = subst (All IsLabelSet) (ap (λ t. t.series) c.self.view_is) c.self.invariant.ordered in
    let set = all c.args.slot [] c.requires in
    let l = label c.pair.result.0.now c.pair.result.1.now in
    let next = next_at ls c.loop-i.i l set c.pair.ensures in
    (c.push.ensures.order.0 (c.in-Err-NotAscending.is ∙ ap Err c.in-Err-NotAscending.field-0-is)).1 (subst (λ ms. IsNext ms c.pair.result.0.now) (sym c.loop-i.invariant) next)

pub loop-i-preserved : goal.loop-i-preserved
loop-i-preserved c =
    let ls = labels_at c.args.self.now c.args.slot in
    let l = label c.pair.result.0.now c.pair.result.1.now in
    c.in-Ok.ensures.ok ∙ ap (λ ms. ms ++ l ∷ []) c.loop-i.invariant ∙ sym (take_more ls c.loop-i.i l c.pair.ensures)
