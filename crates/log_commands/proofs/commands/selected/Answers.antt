use Rattle.std.proofs.Common.{List, ap, refl, ◌∙◌, ℕ}
use Rattle.std.specs.List.{flat_map}
use Rattle.log_commands.specs.Printed.{series_line}
use Rattle.answers.proofs.Answered.{tells_up_to}
use Rattle.log_directory.proofs.Told.{told_err}
use Rattle.log_directory.proofs.Unread.{no_memory}
use Rattle.log_commands.proofs.commands.selected.Goals as goal

pub returns-in_err-text : goal.returns-in_err-text
returns-in_err-text c = told_err _ _ c.from_residual.result c.from_residual.ensures.1 no_memory

pub returns : goal.returns
returns c =
    tells_up_to _ c.up_to.result c.args.replayed.now.flaw c.up_to.ensures.done c.up_to.ensures.damaged c.up_to.ensures.fault
    (refl, c.up_to.ensures.printed ∙ c.in_ok-text.ensures ∙ ap (flat_map (series_line c.args.replayed.now.head.content)) c.slots_of.ensures.slots)
