use Rattle.std.proofs.lemmas.Result.{err_from_is_err_and}
use Rattle.index_text.specs.Gives.{rest_of}
use Rattle.index_text.specs.Fields.{times}
use Rattle.index_text.proofs.SkipLaws.{skip_on, skip_fails, skip_done}
use Rattle.index_text.proofs.skips.skip_all.Goals as goal

pub loop-preserved : goal.loop-preserved
loop-preserved g c = skip_on (g.F.Skipped.field c.args.form.now) c.args.count c.loop.counter c.loop.rest.now c.in_ok-rest.rest.now (rest_of (times (g.F.Skipped.field c.args.form.now) c.args.count c.args.bytes.now)) c.loop-test.true c.in_ok-rest.ensures c.loop.invariant

pub returns : goal.returns
returns g c = skip_done (g.F.Skipped.field c.args.form.now) c.args.count c.loop.counter c.loop.rest.now (rest_of (times (g.F.Skipped.field c.args.form.now) c.args.count c.args.bytes.now)) c.loop-test.false c.loop.invariant

pub returns-in_err-rest : goal.returns-in_err-rest
returns-in_err-rest g c =
    let p = err_from_is_err_and c.from_residual.result c.from_residual.ensures.1 in
    rw (p.1, p.2) (skip_fails (g.F.Skipped.field c.args.form.now) c.in_err-rest.field-0.0 c.args.count c.loop.counter c.loop.rest.now (rest_of (times (g.F.Skipped.field c.args.form.now) c.args.count c.args.bytes.now)) c.loop-test.true c.in_err-rest.ensures c.loop.invariant)
