use Rattle.std.proofs.Common.{sym}
use Rattle.std.proofs.Output.{has_written_of_eq}
use Rattle.html_text.proofs.Characters.{plain_char}
use Rattle.html_text.proofs.escaped.write_escaped.Goals as goal

pub returns-else-c-eq39 : goal.returns-else-c-eq39
returns-else-c-eq39 g c = λ plain well. has_written_of_eq _ _ _ _ _ (sym (plain_char c.args.c c.if-c-eq38.false c.if-c-eq60.false c.if-c-eq62.false c.if-c-eq34.false c.if-c-eq39.false)) (c.write_char.ensures.writes plain well)
