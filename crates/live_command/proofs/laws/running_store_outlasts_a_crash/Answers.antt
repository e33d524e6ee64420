use Rattle.std.proofs.Common.{subst}
use Rattle.std.specs.Path.{path_join}
use Rattle.store.specs.Disk.{CanTakeAll, MayLeave, after_all, disk_of}
use Rattle.new_files.specs.Growing.{growing_file}
use Rattle.new_files.specs.Targets.{zero_filled}
use Rattle.live_log.specs.Running.{path_of}
use Rattle.live_command.proofs.laws.running_store_outlasts_a_crash.Goals as goal

pub returns : goal.returns
returns g c = record {
  reads = λ r log synced more small number had.
      let steps = had.grown.steps in
      record {
        calls = growing_file r.dir (path_of r) steps;
        made = had.grown.calls;
        reads = λ before left leads there can may.
            c.growing_segment_outlasts_a_crash.ensures.reads r.dir before left leads log steps synced more small there had.grown.spelled had.grown.written had.grown.kept
            (subst (λ n. CanTakeAll (disk_of before) (growing_file r.dir (path_join r.dir (zero_filled 8 n)) steps)) number can)
            (subst (λ n. MayLeave (after_all (disk_of before) (growing_file r.dir (path_join r.dir (zero_filled 8 n)) steps)) leads left) number may);
      };
}
