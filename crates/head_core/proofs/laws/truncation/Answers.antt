use Rattle.head_core.proofs.Truncating.{taken_truncated, taken_of-push, truncated_alike}
use Rattle.head_core.proofs.Validity.{shown_valid, fate_valid}
use Rattle.head_core.proofs.laws.truncation.Goals as goal

pub returns : goal.returns
returns c = record { shown = shown_valid; fates = fate_valid; taken = taken_truncated; record_by_record = taken_of-push; replayed = truncated_alike c.slot_is_place.ensures c.columns_follow_items.ensures.one_history }
