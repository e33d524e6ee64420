use Rattle.std.proofs.Common.{rules, ◌<◌, length}
use Rattle.std.proofs.lemmas.List.Sorted.{IsPermutation-swap, IsPermutation-trans}
use Rattle.index_text.proofs.arranging.arrange.Goals.{then-at-count, else-at-count}
use Rattle.index_text.proofs.arranging.arrange.Goals as goal

pub loop-preserved : goal.loop-preserved
loop-preserved c = elim c.if-at-count.branch [
  | then-at-count w ↦ rw w.labels-is c.loop.invariant
  | else-at-count w ↦ rw w.labels-is (
      let here : c.loop.at < length c.loop.labels.items = search rules in
      let there : c.replace-from.result < length c.loop.labels.items = search rules in
      IsPermutation-trans _ _ _ c.loop.invariant (IsPermutation-swap _ _ c.loop.at c.replace-from.result here there w.swap.ensures.items))
]
