use Rattle.std.proofs.Common.{◌∙◌}
use Rattle.std.specs.Prelude.{string_bytes}
use Rattle.unpack_command.proofs.Endings.{damage_told}
use Rattle.unpack_command.proofs.report.damage_answer.Goals as goal

pub returns-clause-told : goal.returns-clause-told
returns-clause-told c = damage_told c.args.found c.done.result c.done.ensures.status (string_bytes c.new-text.result) c.in_ok-push_damage.ensures.0 (c.done.ensures.printed ∙ c.in_ok-push_damage.ensures.1)
