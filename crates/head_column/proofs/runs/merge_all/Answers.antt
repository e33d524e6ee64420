use Rattle.std.proofs.Common.{◌≡◌, ◌∙◌, [], ap, get_or, subst, sym}
use Rattle.std.specs.Prelude.{pos}
use Rattle.head_column.specs.declared.items.Run.{Run}
use Rattle.head_column.specs.Runs.{AreApart}
use Rattle.head_column.specs.Merging.{with_run}
use Rattle.head_column.proofs.Gathered.{with_runs-more}
use Rattle.head_column.proofs.Merged.{AreApart-with_run}
use Rattle.head_column.proofs.runs.merge_all.Goals as goal

pub loop-run-preserved : goal.loop-run-preserved
loop-run-preserved c =
    let runs = c.args.runs.now in
    let i = c.loop-run.run-index in
    let d : Run = record { min_time = pos 0; max_time = pos 0 } in
    let made : c.merge.new.runs.items ≡ with_run c.loop-run.merged.items (get_or runs i d) = c.in_ok-merge.ensures.merged in
    record {
      apart = subst AreApart (sym made) (AreApart-with_run c.loop-run.merged.items (get_or runs i d) c.loop-run.invariant.apart (c.requires i d c.loop-run-test.true));
      merged = made ∙ ap (λ ms. with_run ms (get_or runs i d)) c.loop-run.invariant.merged ∙ sym (with_runs-more [] runs i d c.loop-run-test.true);
    }
