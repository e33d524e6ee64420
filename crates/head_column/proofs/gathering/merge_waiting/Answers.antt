use Rattle.std.proofs.Common.{◌≡◌, rules, subst, sym}
use Rattle.head_column.specs.Runs.{AreApart}
use Rattle.head_column.specs.Merging.{with_runs}
use Rattle.head_column.proofs.Gathered.{AreApart-with_runs}
use Rattle.head_column.proofs.gathering.merge_waiting.Goals as goal

pub replace_hidden-requires : goal.replace_hidden-requires
replace_hidden-requires c =
    let joined : c.in_ok-hidden.hidden.items ≡ with_runs c.hidden.result.now c.args.waiting.now.items = search rules in
    subst AreApart (sym joined) (AreApart-with_runs c.hidden.result.now c.args.waiting.now.items c.hidden.ensures.apart c.requires)
