use Rattle.std.proofs.Common.{◌∙◌, ap}
use Rattle.std.proofs.Output.{has_written_of_eq}
use Rattle.std.specs.Fmt.{styled_decimal}
use Rattle.answers.proofs.Numbers.{eight}
use Rattle.answers.proofs.damage.FileNumberDisplay.fmt.Goals as goal

pub returns-clause-writes : goal.returns-clause-writes
returns-clause-writes g c = λ plain well. has_written_of_eq _ _ _ _ _ (ap (λ s. styled_decimal s c.args.self.now.0) c.laid_out.ensures ∙ eight c.args.self.now.0) (c.write.ensures.writes plain well)
