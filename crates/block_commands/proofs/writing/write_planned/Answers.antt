use Rattle.block_commands.proofs.Folders.{ulid_is_name}
use Rattle.block_commands.proofs.writing.write_planned.Goals as goal

pub new-requires : goal.new-requires
new-requires g c = ulid_is_name c.args.name.now (record { long = c.requires.long; digits = c.requires.digits; low = c.requires.low })
