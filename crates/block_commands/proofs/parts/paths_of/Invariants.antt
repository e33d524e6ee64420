use Rattle.std.proofs.Common.{◌≡◌, map, string_bytes}
use Rattle.block_commands.specs.Folders.{numbered}
use Rattle.block_commands.proofs.parts.paths_of.Given as goal

-- the paths so far
abbrev pub invariant-loop-before : goal.invariant-loop-before
invariant-loop-before l = map string_bytes l.paths.items ≡ numbered l.dir 1 l.before
