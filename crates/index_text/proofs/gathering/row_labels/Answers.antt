use Rattle.std.proofs.Common.{ap, sym, ◌∙◌, ◌++◌, ◌∷◌, [], map, take, arith}
use Rattle.std.proofs.lemmas.List.{take_all, take_more}
use Rattle.wal_record.specs.declared.labels.Label.{Label}
use Rattle.index_text.specs.Index.{labels_from}
use Rattle.index_text.proofs.Gathered.{labels_from-more}
use Rattle.index_text.proofs.gathering.row_labels.Goals as goal

pub loop-place-preserved : goal.loop-place-preserved
loop-place-preserved c =
    let row = c.index-rows-place.result in
    let more = take_more c.args.rows.now c.loop-place.place row c.loop-place-test.true in
    c.in_ok-push_row_labels.ensures
    ∙ ap (λ t. t ++ map (λ (l : Label). (l, c.loop-place.place)) row.labels) c.loop-place.invariant
    ∙ labels_from-more c.args.rows.now c.loop-place.place row c.loop-place-test.true (more ∙ ap (λ r. take c.loop-place.place c.args.rows.now ++ r ∷ []) (sym c.index-rows-place.is))

pub returns : goal.returns
returns c = c.loop-place.invariant ∙ ap (labels_from 0) (take_all c.loop-place.place c.args.rows.now (omega (arith, c.loop-place-test.false)))
