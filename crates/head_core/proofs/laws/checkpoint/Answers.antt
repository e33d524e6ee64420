use Rattle.head_core.proofs.Truncating.{checkpoint_alike}
use Rattle.head_core.proofs.laws.checkpoint.Goals as goal

pub returns : goal.returns
returns c = checkpoint_alike c.slot_is_place.ensures c.columns_follow_items.ensures.one_history
