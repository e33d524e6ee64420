use Rattle.std.proofs.Common.{map, take}
use Rattle.std.specs.Prelude.{string_bytes}
use Rattle.store.specs.Views.{view_of}
use Rattle.log_directory.specs.Servers.{AreBlocksOf}
use Rattle.log_directory.proofs.server.blocks_of.Given as goal

-- the blocks among the names so far
abbrev pub invariant-loop-name : goal.invariant-loop-name
invariant-loop-name g l = AreBlocksOf (view_of (g.S.Store.holds l.store)) l.dir (map string_bytes (take l.name-index l.names)) l.blocks.items
