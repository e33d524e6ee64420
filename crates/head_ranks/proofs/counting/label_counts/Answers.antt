use Rattle.std.proofs.Common.{◌++◌, ◌∷◌, [], ◌<◌, ◌≤◌, ℕ, List, length, sym, ap, subst, take, arith}
use Rattle.std.specs.Prelude.{Vec}
use Rattle.std.specs.Global.{Global}
use Rattle.wal_record.specs.Labels.{Labels}
use Rattle.head_column.specs.Histories.{History}
use Rattle.head_series.specs.Table.{labels_at}
use Rattle.head_core.specs.Heads.{history_at}
use Rattle.head_ranks.specs.declared.counts.LabelCount.{LabelCount}
use Rattle.head_ranks.specs.Counting.{IsCountOf, series_of}
use Rattle.head_ranks.specs.Ranks.{AreLabelCounts}
use Rattle.head_ranks.proofs.Told.{series_all, series_more, told}
use Rattle.head_ranks.proofs.counting.label_counts.Goals as goal

pub loop-number-preserved : goal.loop-number-preserved
loop-number-preserved c =
    let content = c.args.head.now.content in
    let n = c.loop-number.number in
    let count = c.series-series.ensures.count in
    let within : n < length content.table.series = omega (arith, count) in
    subst (λ (ss : List (Labels × History)). IsCountOf ss c.add_series.new.self) (sym (series_more content n within c.series-series.ensures.one_each))
    (subst (λ (m : ℕ). IsCountOf (take n (series_of content) ++ (labels_at content.table m, history_at content m) ∷ []) c.add_series.new.self) c.new.ensures
    (c.in_ok-add_series.ensures (take n (series_of content)) c.loop-number.invariant))

pub returns : goal.returns
returns c =
    let content = c.args.head.now.content in
    let n = c.loop-number.number in
    let count = c.series-series.ensures.count in
    let beyond : length content.table.series ≤ n = omega (arith, count) in
    let is : IsCountOf (series_of content) c.loop-number.counter =
    subst (λ (ss : List (Labels × History)). IsCountOf ss c.loop-number.counter) (series_all content n beyond c.series-series.ensures.one_each) c.loop-number.invariant in
    subst (λ (ks : List LabelCount). AreLabelCounts content ks) (sym (ap (λ (v : Vec LabelCount Global). v.items) c.into_counts.ensures)) (told content c.loop-number.counter c.series-series.ensures.one_each is)
