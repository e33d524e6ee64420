use Rattle.std.proofs.Common.{ap, sym, ◌∙◌, ◌++◌, take, arith}
use Rattle.std.specs.List.{flat_map}
use Rattle.std.proofs.lemmas.List.{append_assoc, take_all}
use Rattle.hw_bytes.proofs.Lists.{flat_map-push}
use Rattle.wal_record.specs.Labels.{label}
use Rattle.index_text.specs.Gives.{nows}
use Rattle.index_text.specs.Index.{label_refs}
use Rattle.hw_bytes.proofs.Places.{take_more}
use Rattle.index_text.proofs.writer.put_labels.Goals as goal

pub loop-i-preserved : goal.loop-i-preserved
loop-i-preserved c =
    let refs = label_refs (nows c.args.table.now) in
    let ls = c.args.labels.now in
    let read = label c.pair.result.0.now c.pair.result.1.now in
    c.in_ok-put_refs.ensures
    ∙ ap (λ t. t ++ refs read) c.loop-i.invariant
    ∙ append_assoc c.args.out.now.items (flat_map refs (take c.loop-i.i ls)) (refs read)
    ∙ ap (λ t. c.args.out.now.items ++ t) (sym (flat_map-push refs (take c.loop-i.i ls) read) ∙ ap (flat_map refs) (sym (take_more ls c.loop-i.i read c.pair.ensures)))

pub returns : goal.returns
returns c =
    c.loop-i.invariant ∙ ap (λ ls. c.args.out.now.items ++ flat_map (label_refs (nows c.args.table.now)) ls) (take_all c.loop-i.i c.args.labels.now (omega (arith, c.loop-i-test.false, c.len-i-end.ensures.count)))
