use Rattle.std.proofs.Common.{rules, ap, ◌∙◌, arith}
use Rattle.std.proofs.lemmas.List.{take_all}
use Rattle.index_text.specs.Gives.{nows}
use Rattle.index_text.specs.Reading.{labels_at}
use Rattle.index_text.proofs.StoredLaws.{label_added, label_refused}
use Rattle.index_text.proofs.rows.labels_of.Goals as goal

pub returns-clause-found : goal.returns-clause-found
returns-clause-found c = c.loop-i.invariant ∙ ap (labels_at (nows c.args.symbols.now)) (take_all c.loop-i.i c.args.references.now (omega (arith, c.loop-i-test.false)))

pub returns-in_err-push_label-clause-bad : goal.returns-in_err-push_label-clause-bad
returns-in_err-push_label-clause-bad c =
    let refused = label_refused (nows c.args.symbols.now) c.args.references.now c.loop-i.i c.element_at-reference.result c.loop-i.labels c.element_at-reference.ensures c.loop-i.invariant in
    search (rules, refused)

pub loop-i-preserved : goal.loop-i-preserved
loop-i-preserved c = label_added (nows c.args.symbols.now) c.args.references.now c.loop-i.i c.element_at-reference.result c.loop-i.labels c.push_label.new.labels c.loop-i-test.true c.element_at-reference.ensures c.loop-i.invariant c.in_ok-push_label.ensures.added
