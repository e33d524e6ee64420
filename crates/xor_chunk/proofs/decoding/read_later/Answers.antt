use Rattle.std.proofs.lemmas.Result.{err_from_is_err_and}
use Rattle.xor_chunk.proofs.Reading.{sample_short, sample_bad, sample_found}
use Rattle.xor_chunk.proofs.decoding.read_later.Goals as goal

pub returns-in_default-clause-exact : goal.returns-in_default-clause-exact
returns-in_default-clause-exact c = sample_short c.args.before c.args.bits.now c.in_default.ensures

pub returns-in_err-value-clause-exact : goal.returns-in_err-value-clause-exact
returns-in_err-value-clause-exact c =
    let p = err_from_is_err_and c.from_residual.result c.from_residual.ensures.1 in
    rw (p.1, p.2) (sample_bad c.args.before c.args.bits.now c.read_step.new.bits c.in-Some.step c.in_err-value.field-0.0 c.in-Some.ensures c.in_err-value.ensures.exact)

pub returns-clause-exact : goal.returns-clause-exact
returns-clause-exact c = sample_found c.args.before c.args.bits.now c.read_step.new.bits c.read_value.new.bits c.in-Some.step c.in_ok-value.value c.in_ok-value.window c.in-Some.ensures c.in_ok-value.ensures.exact
