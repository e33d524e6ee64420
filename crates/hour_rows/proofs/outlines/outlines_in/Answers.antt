use Rattle.std.proofs.Common.{ℕ, All, subst}
use Rattle.std.specs.List.{range_with_len}
use Rattle.head_core.specs.Heads.{history_at}
use Rattle.hour_rows.specs.Outlined.{IsHistory}
use Rattle.hour_rows.proofs.Outlining.{picked_outlines}
use Rattle.hour_rows.proofs.Picked.{rows_are_rows, rows_ascend}
use Rattle.hour_rows.proofs.outlines.outlines_in.Goals as goal

pub returns-clause-rows : goal.returns-clause-rows
returns-clause-rows g c =
    picked_outlines c.args.encoding c.args.hour c.args.head.now.content c.series-series.result c.in_ok-each_outline.field-0.items c.in_ok-outlines.outlines.items c.sort_outlines.new.outlines.items c.series-series.ensures.count c.series-series.ensures.one_each
    c.series-series.ensures.distinct c.in_ok-each_outline.ensures.outlines c.in_ok-outlines.ensures c.sort_outlines.ensures.permutation c.in_ok-sort_outlines.ensures.sorted

pub returns-clause-each : goal.returns-clause-each
returns-clause-each g c =
    let content = c.args.head.now.content in
    rows_are_rows c.args.hour content c.series-series.ensures.one_each c.series-series.ensures.ordered
    (subst (λ (n : ℕ). All (λ (slot : ℕ). IsHistory (history_at content slot)) (range_with_len 0 n)) c.series-series.ensures.count c.in_ok-each_outline.ensures.held)

pub returns-clause-ascending : goal.returns-clause-ascending
returns-clause-ascending g c = rows_ascend c.args.hour c.args.head.now.content
