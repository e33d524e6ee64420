use Rattle.head_series.proofs.BindLemmas.{slot_place}
use Rattle.head_series.proofs.laws.slot_is_place.Goals as goal

pub returns : goal.returns
returns c = slot_place
