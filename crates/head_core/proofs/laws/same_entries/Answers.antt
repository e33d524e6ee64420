use Rattle.head_core.proofs.Truncating.{same_entries}
use Rattle.head_core.proofs.laws.same_entries.Goals as goal

pub returns : goal.returns
returns c = same_entries c.slot_is_place.ensures c.columns_follow_items.ensures.one_history
