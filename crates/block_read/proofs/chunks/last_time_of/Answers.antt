use Rattle.std.proofs.Common.{◌∙◌, sym}
use Rattle.std.specs.Int.{w64}
use Rattle.std.proofs.lemmas.Int.{to_z-of_z}
use Rattle.block_read.proofs.Columns.{last_is}
use Rattle.block_read.proofs.chunks.last_time_of.Goals as goal

pub returns : goal.returns
returns c = to_z-of_z w64 c.time_of.result (record { sfits = c.time_of.type_inv }) ∙ c.time_of.ensures ∙ sym (last_is c.args.samples.now _ c.requires)
