use Rattle.std.proofs.Common.{ap, sym, subst, ◌∙◌, length}
use Rattle.wal_record.specs.Labels.{compare_labels}
use Rattle.head_series.specs.Rows.{AreWithin, labels_in}
use Rattle.head_series.specs.declared.rows.Row.{Row}
use Rattle.head_series.specs.Table.{labels_at}
use Rattle.head_series.proofs.RowLemmas.{row_labels, row_within}
use Rattle.head_series.proofs.table.SeriesTable.compare.Goals as goal

pub compare_numbers-requires-clause-first : goal.compare_numbers-requires-clause-first
compare_numbers-requires-clause-first c =
    subst (AreWithin (length c.self.inside.texts.texts)) (sym c.deref.ensures.value)
    (row_within c.self.inside.rows.items (λ (r : Row). r.numbers.items) c.self.inside.texts.texts c.args.self.now.series c.index.result c.args.first c.index-left.result.now (ap (λ t. t.series) c.self.view_is) c.self.invariant.within c.requires.first c.index.ensures c.index-left.ensures)

pub compare_numbers-requires-clause-second : goal.compare_numbers-requires-clause-second
compare_numbers-requires-clause-second c =
    subst (AreWithin (length c.self.inside.texts.texts)) (sym c.deref-2.ensures.value)
    (row_within c.self.inside.rows.items (λ (r : Row). r.numbers.items) c.self.inside.texts.texts c.args.self.now.series c.index-2.result c.args.second c.index-right.result.now (ap (λ t. t.series) c.self.view_is) c.self.invariant.within c.requires.second c.index-2.ensures c.index-right.ensures)

pub returns : goal.returns
returns c =
    let ts = c.self.inside.texts.texts in
    let left = row_labels c.self.inside.rows.items (λ (r : Row). r.numbers.items) ts c.args.self.now.series c.index.result c.args.first c.index-left.result.now (ap (λ t. t.series) c.self.view_is) c.requires.first c.index.ensures c.index-left.ensures in
    let right = row_labels c.self.inside.rows.items (λ (r : Row). r.numbers.items) ts c.args.self.now.series c.index-2.result c.args.second c.index-right.result.now (ap (λ t. t.series) c.self.view_is) c.requires.second c.index-2.ensures c.index-right.ensures in
    c.compare_numbers.ensures
    ∙ ap (λ ls. compare_labels ls (labels_in ts c.deref-2.result.now)) (ap (labels_in ts) c.deref.ensures.value ∙ sym left)
    ∙ ap (compare_labels (labels_at c.args.self.now c.args.first)) (ap (labels_in ts) c.deref-2.ensures.value ∙ sym right)
