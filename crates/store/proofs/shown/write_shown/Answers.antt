use Rattle.std.proofs.Common.{sym, ◌∙◌}
use Rattle.std.proofs.Output.{has_written_of_eq}
use Rattle.store.proofs.Showing.{plain_char}
use Rattle.store.proofs.shown.write_shown.Goals as goal

pub returns-then-not-is_ascii_control : goal.returns-then-not-is_ascii_control
returns-then-not-is_ascii_control g c = λ plain well. has_written_of_eq _ _ _ _ _ (sym (plain_char c.args.c (sym c.is_ascii_control.ensures.value ∙ c.if-not-is_ascii_control.true))) (c.write_char.ensures.writes plain well)
