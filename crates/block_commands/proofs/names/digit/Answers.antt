use Rattle.std.proofs.Common.{refl}
use Rattle.block_commands.proofs.names.digit.Goals as goal

pub returns : goal.returns
returns c = refl
