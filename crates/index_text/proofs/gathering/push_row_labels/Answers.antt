use Rattle.std.proofs.Common.{ap, ◌∙◌, ◌++◌, map, arith}
use Rattle.std.proofs.lemmas.List.{take_all, map-append}
use Rattle.wal_record.specs.declared.labels.Label.{Label}
use Rattle.wal_record.specs.Labels.{label}
use Rattle.index_text.specs.Lent.{row_label_of}
use Rattle.hw_bytes.proofs.Places.{take_more}
use Rattle.index_text.proofs.Gathered.{gathered_more}
use Rattle.index_text.proofs.gathering.push_row_labels.Goals as goal

pub loop-i-preserved : goal.loop-i-preserved
loop-i-preserved c =
    let read = label c.pair.result.0.now c.pair.result.1.now in
    ap (map row_label_of) c.in_ok-push.ensures.items
    ∙ map-append row_label_of c.loop-i.labels.items _
    ∙ gathered_more (λ (x : Label). (x, c.args.place)) (map row_label_of c.args.labels.now.items) (map row_label_of c.loop-i.labels.items) c.args.row.now.labels c.loop-i.i read (take_more c.args.row.now.labels c.loop-i.i read c.pair.ensures) c.loop-i.invariant

pub returns : goal.returns
returns c =
    c.loop-i.invariant ∙ ap (λ ls. map row_label_of c.args.labels.now.items ++ map (λ (x : Label). (x, c.args.place)) ls) (take_all c.loop-i.i c.args.row.now.labels (omega (arith, c.loop-i-test.false, c.len-i-end.ensures.count)))
