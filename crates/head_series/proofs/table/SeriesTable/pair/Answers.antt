use Rattle.std.proofs.Common.{ap, ◌∙◌, arith, length, Some, []}
use Rattle.std.specs.Prelude.{slice_index_or}
use Rattle.std.proofs.lemmas.List.{length-map}
use Rattle.head_series.specs.Rows.{label}
use Rattle.head_series.specs.declared.rows.Row.{Row}
use Rattle.head_series.proofs.RowLemmas.{row_labels, row_number, text_is}
use Rattle.head_series.proofs.table.SeriesTable.pair.Goals as goal

pub index-number-requires : goal.index-number-requires
index-number-requires c =
    let row = c.index-2.result.now in
    let labels = row_labels c.self.inside.rows.items (λ (r : Row). r.numbers.items) c.self.inside.texts.texts c.args.self.now.series c.index.result c.args.slot row (ap (λ t. t.series) c.self.view_is) c.requires.slot c.index.ensures c.index-2.ensures in
    let many = simp length-map at (ap length labels) in
    omega (arith, c.requires.place, many, row.numbers.ok.0)

pub bytes-requires : goal.bytes-requires
bytes-requires c =
    (row_number c.self.inside.rows.items (λ (r : Row). r.numbers.items) c.self.inside.texts.texts c.args.self.now.series c.index.result c.args.slot c.args.i c.index-2.result.now c.index-number.result.now (ap (λ t. t.series) c.self.view_is) c.self.invariant.within c.requires.slot c.index.ensures c.index-2.ensures c.requires.place c.index-number.ensures).1

pub bytes-requires-2 : goal.bytes-requires-2
bytes-requires-2 c =
    (row_number c.self.inside.rows.items (λ (r : Row). r.numbers.items) c.self.inside.texts.texts c.args.self.now.series c.index.result c.args.slot c.args.i c.index-2.result.now c.index-number.result.now (ap (λ t. t.series) c.self.view_is) c.self.invariant.within c.requires.slot c.index.ensures c.index-2.ensures c.requires.place c.index-number.ensures).2

pub returns : goal.returns
returns c =
    let ts = c.self.inside.texts.texts in
    let n = c.index-number.result.now in
    (row_number c.self.inside.rows.items (λ (r : Row). r.numbers.items) ts c.args.self.now.series c.index.result c.args.slot c.args.i c.index-2.result.now n (ap (λ t. t.series) c.self.view_is) c.self.invariant.within c.requires.slot c.index.ensures c.index-2.ensures c.requires.place c.index-number.ensures).3
    ∙ ap Some (ap (λ z. label z (slice_index_or ts n.1 [])) (text_is ts n.0 c.bytes.result.now c.bytes.ensures) ∙ ap (λ z. label c.bytes.result.now z) (text_is ts n.1 c.bytes-2.result.now c.bytes-2.ensures))
