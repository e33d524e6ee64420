use Rattle.std.proofs.Common.{◌∙◌, ap}
use Rattle.store.specs.Disk.{is_in}
use Rattle.new_files.proofs.Paths.{joined_in}
use Rattle.new_files.proofs.target.Target.new.Goals as goal

pub invariant_of-result : goal.invariant_of-result
invariant_of-result c =
    (ap (is_in c.args.parent.now) c.in_ok-path.ensures ∙ joined_in c.args.parent.now c.args.name.now (record { some = c.requires.some; no_slash = c.requires.no_slash }), c.in_ok-unfinished.ensures.ok)
