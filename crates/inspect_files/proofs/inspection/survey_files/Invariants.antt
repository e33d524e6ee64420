use Rattle.std.proofs.Common.{map, take}
use Rattle.wal_log.specs.Plan.{named as name_of}
use Rattle.store.specs.Views.{view_of}
use Rattle.inspect_files.specs.Files.{HaveSurveyed}
use Rattle.inspect_files.specs.Inspections.{AreSurveysIn}
use Rattle.inspect_files.proofs.inspection.survey_files.Given as goal

-- the surveys of the files so far
abbrev pub invariant-loop-named : goal.invariant-loop-named
invariant-loop-named g l = HaveSurveyed (AreSurveysIn (view_of (g.S.Store.holds l.store)) l.dir l.in_checkpoint (map name_of (take l.named-index l.names))) l.files.items l.fn.references l.references
