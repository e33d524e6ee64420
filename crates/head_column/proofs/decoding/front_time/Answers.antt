use Rattle.std.specs.Prelude.{FitsSigned}
use Rattle.std.specs.Int.{w64}
use Rattle.std.proofs.Common.{rules}
use Rattle.head_column.proofs.SampleCodes.{first_none, next_none}
use Rattle.head_column.proofs.decoding.front_time.Goals as goal

pub returns-in-None-clause-none : goal.returns-in-None-clause-none
returns-in-None-clause-none c = first_none c.varint_at.result c.args.before c.args.bytes.now c.in-None.is c.varint_at.ensures.none

pub returns-in-Some-clause-none : goal.returns-in-Some-clause-none
returns-in-Some-clause-none c =
    let fits : FitsSigned w64 c.in-Some.before = search rules in
    next_none c.front_step.result c.args.before c.in-Some.before c.args.bytes.now c.in-Some.is fits c.front_step.ensures.none
