use Rattle.std.proofs.Common.{List, sym, ap, subst}
use Rattle.std.specs.Prelude.{Vec}
use Rattle.std.specs.Global.{Global}
use Rattle.std.proofs.lemmas.List.{take_all}
use Rattle.head_ranks.specs.declared.counts.LabelCount.{LabelCount}
use Rattle.head_ranks.specs.declared.counts.NameCount.{NameCount}
use Rattle.head_ranks.specs.Counts.{AreNameCounts}
use Rattle.head_ranks.specs.Counting.{AreNamed}
use Rattle.head_ranks.proofs.NameTallies.{named}
use Rattle.head_ranks.proofs.Values.{value_counts}
use Rattle.head_ranks.proofs.naming.name_counts.Goals as goal

pub returns-clause-counts : goal.returns-clause-counts
returns-clause-counts c =
    let all = take_all c.loop-label.label-index c.args.labels.now c.loop-label-test.false in
    let is : AreNamed c.args.labels.now c.loop-label.namer = subst (λ (ls : List LabelCount). AreNamed ls c.loop-label.namer) all c.loop-label.invariant in
    subst (λ (ns : List NameCount). AreNameCounts c.args.labels.now ns) (sym (ap (λ (v : Vec NameCount Global). v.items) c.into_counts.ensures)) (named c.args.labels.now c.loop-label.namer is)

pub returns-clause-values : goal.returns-clause-values
returns-clause-values c = λ content are. value_counts content c.args.labels.now c.into_counts.result.items are (returns-clause-counts c)
