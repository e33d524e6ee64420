use Rattle.std.proofs.Common.{ap, refl, ◌∙◌}
use Rattle.std.specs.List.{flat_map}
use Rattle.answers.proofs.Answered.{tells_up_to}
use Rattle.log_directory.proofs.Told.{told_err}
use Rattle.log_directory.proofs.Unread.{no_memory}
use Rattle.block_commands.specs.Printed.{range_line}
use Rattle.block_commands.proofs.ranges.listed.Goals as goal

pub returns-in_err-hours : goal.returns-in_err-hours
returns-in_err-hours c = told_err _ _ c.from_residual.result c.from_residual.ensures.1 no_memory

pub returns-in_err-text : goal.returns-in_err-text
returns-in_err-text c = told_err _ _ c.from_residual-in_err-text.result c.from_residual-in_err-text.ensures.1 no_memory

pub returns : goal.returns
returns c =
    tells_up_to _ c.up_to.result c.args.replayed.now.flaw c.up_to.ensures.done c.up_to.ensures.damaged c.up_to.ensures.fault
    (refl, c.in_ok-hours.hours.items, c.in_ok-hours.ensures.ascending, c.in_ok-hours.ensures.exact, c.up_to.ensures.printed ∙ c.in_ok-text.ensures ∙ ap (flat_map range_line) c.deref.ensures.value)
