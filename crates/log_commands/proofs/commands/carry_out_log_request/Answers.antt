use Rattle.std.proofs.Common.{Result, subst, sym}
use Rattle.std.specs.Prelude.{MatchResult}
use Rattle.answers.specs.Faults.{TellsNoDamage}
use Rattle.answers.specs.declared.answer.Answer.{Answer}
use Rattle.answers.specs.declared.fault.Fault.{Fault}
use Rattle.store.specs.Views.{view_of}
use Rattle.log_commands.specs.Printed.{Prints}
use Rattle.log_commands.proofs.Answered.{refused_prints}
use Rattle.log_commands.proofs.commands.carry_out_log_request.Goals as goal

pub returns-in-Ok : goal.returns-in-Ok
returns-in-Ok g c =
    let view = view_of (g.S.Store.holds c.args.store.now) in
    record { printed = subst (λ (r : Result Answer Fault). MatchResult r (Prints g.O.Output.printed c.args.out c.execute-answer.result.1 view c.args.request) TellsNoDamage) c.in-Ok.is c.execute-answer.ensures }

pub returns-in-Err : goal.returns-in-Err
returns-in-Err g c =
    let view = view_of (g.S.Store.holds c.args.store.now) in
    let told = subst (λ (r : Result Answer Fault). MatchResult r (Prints g.O.Output.printed c.args.out c.execute-answer.result.1 view c.args.request) TellsNoDamage) c.in-Err.is c.execute-answer.ensures in
    record { printed = refused_prints g.O.Output.printed c.args.out c.execute-answer.result.1 view c.args.request c.failed.result c.failed.ensures.fails (λ bad. told (c.failed.ensures.damaged bad)) }
