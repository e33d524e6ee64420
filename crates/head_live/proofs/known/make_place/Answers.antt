use Rattle.std.proofs.Common.{suc, ◌∙◌}
use Rattle.head_live.proofs.KnownLemmas.{longer_more}
use Rattle.head_live.proofs.known.make_place.Goals as goal

pub loop-list-preserved : goal.loop-list-preserved
loop-list-preserved g c = (suc c.loop-list.invariant.0, c.in_ok-push.ensures.items ∙ longer_more _ _ c.loop-list.invariant.0 c.loop-list.invariant.1)
