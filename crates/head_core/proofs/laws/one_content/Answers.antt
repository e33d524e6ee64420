use Rattle.head_core.proofs.OneContent.{one_content}
use Rattle.head_core.proofs.laws.one_content.Goals as goal

pub returns : goal.returns
returns c = one_content c.slot_is_place.ensures c.columns_follow_items.ensures.one_history
