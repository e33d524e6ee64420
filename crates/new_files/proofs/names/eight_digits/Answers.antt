use Rattle.std.proofs.Common.{◌∙◌, ap}
use Rattle.std.proofs.lemmas.Result.{IfOk-weaker}
use Rattle.std.specs.Fmt.{styled_decimal}
use Rattle.new_files.proofs.Digits.{eight}
use Rattle.new_files.proofs.names.eight_digits.Goals as goal

pub returns : goal.returns
returns c = IfOk-weaker c.format.result _ _ (λ name is. is ∙ ap (λ s. styled_decimal s c.args.number) c.laid_out.ensures ∙ eight c.args.number) c.format.ensures.ok
