use Rattle.store.specs.Views.{view_of}
use Rattle.inspect_files.proofs.Surveyed.{more_surveyed, none_surveyed}
use Rattle.inspect_files.proofs.inspection.survey_files.Goals as goal

pub loop-named-init : goal.loop-named-init
loop-named-init g c = none_surveyed (view_of (g.S.Store.holds c.args.store.now)) c.args.dir.now c.args.in_checkpoint c.new-files.result.items c.args.references c.new-files.ensures.items

pub loop-named-preserved : goal.loop-named-preserved
loop-named-preserved g c =
    more_surveyed (view_of (g.S.Store.holds c.args.store.now)) c.args.dir.now c.args.in_checkpoint c.args.names.now c.loop-named.named-index _ c.loop-named.files.items c.push.new.self.items c.in_ok-file.file
    c.args.references c.loop-named.references c.in_ok-file.kept c.loop-named-test.true c.in_ok-push.ensures.items c.loop-named.invariant c.in_ok-file.ensures
