use Rattle.std.proofs.Common.{rules, ◌<◌, length}
use Rattle.std.proofs.lemmas.Result.{err_from_is_err_and}
use Rattle.index_text.specs.Reading.{elements_done, framed_done}
use Rattle.index_text.proofs.PassLaws.{pass_on, pass_fails, pass_none, pass_done}
use Rattle.index_text.proofs.passed.pass_section.Goals as goal

pub returns-then-is_empty : goal.returns-then-is_empty
returns-then-is_empty g c = pass_none (framed_done (g.C.Contents.done c.args.form.now) c.args.stop) _ c.loop.rest.now (elements_done (framed_done (g.C.Contents.done c.args.form.now) c.args.stop) (length c.args.section.now) c.args.section.now) (search (rules, c.if-is_empty.ensures)) c.loop.invariant

pub returns-in_err-rest : goal.returns-in_err-rest
returns-in_err-rest g c =
    let p = err_from_is_err_and c.from_residual.result c.from_residual.ensures.1 in
    let some : 0 < length c.loop.rest.now = search (rules, c.if-is_empty.ensures) in
    rw (p.1, p.2) (pass_fails (framed_done (g.C.Contents.done c.args.form.now) c.args.stop) c.in_err-rest.field-0.0 (length c.args.section.now) c.loop.counter c.loop.rest.now (elements_done (framed_done (g.C.Contents.done c.args.form.now) c.args.stop) (length c.args.section.now) c.args.section.now) c.loop-test.true some c.in_err-rest.ensures c.loop.invariant)

pub loop-preserved : goal.loop-preserved
loop-preserved g c =
    let some : 0 < length c.loop.rest.now = search (rules, c.if-is_empty.ensures) in
    pass_on (framed_done (g.C.Contents.done c.args.form.now) c.args.stop) (length c.args.section.now) c.loop.counter c.loop.rest.now c.in_ok-rest.rest.now (elements_done (framed_done (g.C.Contents.done c.args.form.now) c.args.stop) (length c.args.section.now) c.args.section.now) c.loop-test.true some c.in_ok-rest.ensures c.loop.invariant

pub returns : goal.returns
returns g c = pass_done (framed_done (g.C.Contents.done c.args.form.now) c.args.stop) (length c.args.section.now) c.loop.counter c.loop.rest.now (elements_done (framed_done (g.C.Contents.done c.args.form.now) c.args.stop) (length c.args.section.now) c.args.section.now) c.loop-test.false c.loop.invariant
