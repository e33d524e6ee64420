use Rattle.head_resolver.proofs.Limits.{later_series, series_split}
use Rattle.head_resolver.proofs.Slots.{items_of_slot, slots_stay}
use Rattle.head_resolver.proofs.laws.slots_stay.Goals as goal

pub returns-clause-series : goal.returns-clause-series
returns-clause-series c = λ es more. (later_series es more, series_split es more)

pub returns-clause-places : goal.returns-clause-places
returns-clause-places c = slots_stay

pub returns-clause-items : goal.returns-clause-items
returns-clause-items c = items_of_slot
