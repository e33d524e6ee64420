use Rattle.std.proofs.Common.{refl, ◌∙◌}
use Rattle.answers.proofs.Answered.{tells_log}
use Rattle.log_directory.proofs.Told.{told_err}
use Rattle.log_directory.proofs.Unread.{no_memory}
use Rattle.log_commands.proofs.commands.listed.Goals as goal

pub returns-in_err-push_damage : goal.returns-in_err-push_damage
returns-in_err-push_damage c = told_err _ _ c.from_residual.result c.from_residual.ensures.1 no_memory

pub returns : goal.returns
returns c = tells_log _ c.told.result c.args.flaw c.told.ensures.done.0 c.told.ensures.damaged c.told.ensures.fault (refl, c.told.ensures.printed ∙ c.in_ok-push_damage.ensures)
