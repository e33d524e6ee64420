use Rattle.std.proofs.Common.{take}
use Rattle.std.specs.Prelude.{⊤}
use Rattle.rescue_commands.specs.Rescues.{HaveBlocks}
use Rattle.rescue_commands.specs.Steps.{IsBlockOfHead}
use Rattle.rescue_commands.proofs.writing.write_blocks.Given as goal

-- the blocks so far
abbrev pub invariant-loop-named : goal.invariant-loop-named
invariant-loop-named g l = HaveBlocks g.S.Store.did g.S.Store.holds l.shelf.out.now (IsBlockOfHead l.head.content) l.initial.store (take l.named-index l.hours) ⊤ l.store
