use Rattle.std.proofs.Common.{false, map, List, subst}
use Rattle.std.specs.Option.{option_map}
use Rattle.wal_log.specs.declared.plan.Named.{Named}
use Rattle.wal_log.specs.Plan.{named as name_of}
use Rattle.store.specs.Views.{view_of}
use Rattle.inspect_files.specs.Files.{HaveSurveyed}
use Rattle.inspect_files.specs.Inspections.{AreSurveysIn}
use Rattle.inspect_files.proofs.Surveyed.{both_surveyed}
use Rattle.inspect_files.proofs.inspection.survey_listed.Goals as goal

-- the segments follow the files of the checkpoint
pub returns : goal.returns
returns g c =
    let view = view_of (g.S.Store.holds c.args.store.now) in
    let later = subst (λ (ns : List Named). HaveSurveyed (AreSurveysIn view c.args.dir.now false (map name_of ns)) c.in_ok-segments.segments.items c.in_ok-files.references c.in_ok-segments.references)
    c.deref.ensures.value c.in_ok-segments.ensures in
    both_surveyed view c.args.dir.now (option_map name_of c.args.listing.now.checkpoint) (map name_of c.args.listing.now.segments.items) c.in_ok-files.files.items c.in_ok-segments.segments.items c.append.new.self.items
    c.args.references c.in_ok-files.references c.in_ok-segments.references c.in_ok-append.ensures.items c.in_ok-files.ensures later
