use Rattle.std.proofs.Common.{List, map, take}
use Rattle.wal_log.specs.declared.input.Segment.{Segment}
use Rattle.wal_log.specs.Plan.{named as name_of}
use Rattle.store.specs.Views.{view_of}
use Rattle.log_directory.proofs.Whole.{AreWhole}
use Rattle.unpack_command.proofs.reading.first_damage.Given as goal

-- the files so far are whole
abbrev pub invariant-loop-named : goal.invariant-loop-named
invariant-loop-named g l = (files : List Segment) × AreWhole (view_of (g.S.Store.holds l.store)) l.files.dir.now (map name_of (take l.named-index l.named-items)) files
