use Rattle.std.proofs.Common.{take}
use Rattle.std.specs.Prelude.{⊤}
use Rattle.rescue_commands.specs.Rescues.{HaveBlocks}
use Rattle.rescue_commands.specs.Steps.{IsBlockOfHead}
use Rattle.rescue_commands.proofs.writing.write_missing_of.Given as goal

-- the blocks of the hours so far
abbrev pub invariant-loop-hour : goal.invariant-loop-hour
invariant-loop-hour g l = HaveBlocks g.S.Store.did g.S.Store.holds l.shelf.out.now (IsBlockOfHead l.head.content) l.initial.store (take l.hour-index l.hours) ⊤ l.store
