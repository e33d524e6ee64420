use Rattle.std.proofs.Common.{◌≡◌, ◌++◌, drop}
use Rattle.std.specs.List.{fold, scan}
use Rattle.head_tests.proofs.columns.take_all.Given as goal

-- what the items so far made, and what is left makes of it, is what all of them make
abbrev pub invariant-loop-item : goal.invariant-loop-item
invariant-loop-item g l =
    let b = g.B.Builder in
    record {
      value : fold b.after (b.value l.builder) (drop l.item-index l.items) ≡ fold b.after (b.value l.fn.builder) l.items;
      outcomes : l.outcomes.items ++ scan b.after b.outcome (b.value l.builder) (drop l.item-index l.items) ≡ scan b.after b.outcome (b.value l.fn.builder) l.items;
    }
