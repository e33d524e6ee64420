use Rattle.std.proofs.Common.{◌≡◌, map}
use Rattle.std.specs.List.{range_with_len}
use Rattle.block_commands.specs.Names.{digit_at}
use Rattle.block_commands.proofs.names.new_name.Given as goal

abbrev pub invariant-loop-place : goal.invariant-loop-place
invariant-loop-place l = l.name.items ≡ map (digit_at l.number) (range_with_len 0 l.place)
