use Rattle.std.proofs.Common.{List, subst, sym, ℕ, ◌∙◌}
use Rattle.std.specs.Prelude.{IfSome}
use Rattle.unpack_command.specs.Told.{EndsWith}
use Rattle.unpack_command.proofs.Endings.{tells_unpacked}
use Rattle.unpack_command.proofs.report.log_answer.Goals as goal

pub returns-clause-told : goal.returns-clause-told
returns-clause-told c =
    tells_unpacked c.args.damage c.done.result (λ is. c.status_of.ensures.done (sym c.done.ensures.status ∙ is)) (λ is. c.status_of.ensures.damaged (sym c.done.ensures.status ∙ is))
    (subst (λ (t : List ℕ). IfSome c.args.damage (λ bad. EndsWith bad t)) (sym c.done.ensures.printed) c.in_ok-text.ensures)
