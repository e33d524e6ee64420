use Rattle.std.proofs.Common.{List, refl, subst, sym, ℕ}
use Rattle.std.specs.Prelude.{string_bytes}
use Rattle.answers.specs.Faults.{TellsNoDamage}
use Rattle.answers.specs.Outputs.{MakesText}
use Rattle.query_commands.specs.Dumps.{IsDump}
use Rattle.answers.proofs.Answered.{tells_up_to}
use Rattle.log_directory.proofs.Told.{told_err}
use Rattle.query_commands.proofs.dumping.dumped.Goals as goal

pub returns-in_err-rest : goal.returns-in_err-rest
returns-in_err-rest g c = told_err _ _ c.from_residual.result c.from_residual.ensures.1 (λ fault is. is.1)

-- the text is that of the series that were looked up
pub returns : goal.returns
returns g c =
    let printed = g.O.Output.printed in
    let content = c.args.replayed.now.head.content in
    let made = λ (slots : List ℕ) (rest : List ℕ). MakesText printed c.args.out.now c.print_dump.new.out rest (IsDump c.args.floats c.args.selection.now content slots) in
    tells_up_to _ c.up_to.result c.args.replayed.now.flaw c.up_to.ensures.done c.up_to.ensures.damaged c.up_to.ensures.fault
    (refl, subst (λ (ss : List ℕ). made ss (string_bytes c.up_to.result.printed)) c.slots_of.ensures.slots (subst (λ (t : List ℕ). made c.slots_of.result.now t) (sym c.up_to.ensures.printed) c.in_ok-rest.ensures))
