use Rattle.std.proofs.Common.{◌∙◌, sym}
use Rattle.std.specs.Int.{w64}
use Rattle.std.proofs.lemmas.Int.{to_z-of_z}
use Rattle.head_column.proofs.Windows.{last_is}
use Rattle.head_column.proofs.encoding.put_samples.Goals as goal

pub returns-clause-last : goal.returns-clause-last
returns-clause-last c = to_z-of_z w64 c.time_of.result (record { sfits = c.time_of.type_inv }) ∙ c.time_of.ensures ∙ sym (last_is c.args.samples.now _ c.requires)
