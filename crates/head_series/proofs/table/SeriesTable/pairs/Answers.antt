use Rattle.std.proofs.Common.{◌≡◌, ap, sym, ◌∙◌, length}
use Rattle.std.proofs.lemmas.List.{length-map}
use Rattle.head_series.specs.Rows.{labels_in}
use Rattle.head_series.specs.declared.rows.Row.{Row}
use Rattle.head_series.proofs.RowLemmas.{row_labels}
use Rattle.head_series.proofs.table.SeriesTable.pairs.Goals as goal

pub returns : goal.returns
returns c =
    let row = c.index-2.result.now in
    let labels = row_labels c.self.inside.rows.items (λ (r : Row). r.numbers.items) c.self.inside.texts.texts c.args.self.now.series c.index.result c.args.slot row (ap (λ t. t.series) c.self.view_is) c.requires c.index.ensures c.index-2.ensures in
    let many : length (labels_in c.self.inside.texts.texts row.numbers.items) ≡ length row.numbers.items = (simp length-map) in
    c.len.ensures ∙ row.numbers.ok.0 ∙ sym many ∙ ap length (sym labels)
