-- A worker's items, in the lists in which they came. Each list has its numbers counted from a base.
use Rattle.std.specs.Prelude.{ℕ, ◌+◌, List, [], map}
use Rattle.std.specs.List.{flat_map}
use Rattle.head_deal.specs.Jobs.{Job}
use Rattle.head_deal.specs.Entries.{entries}
use Rattle.head_deal.specs.declared.parts.Due.{Due}
use Rattle.head_deal.specs.declared.batches.ItemBatch.{ItemBatch}

-- the due with its number counted from the base
abbrev pub shifted : {I : Type 0} → ℕ → Due I → Due I
shifted base due = record { number = base + due.number; element = due.element; item = due.item }

-- the dues of a batch, and of all batches, one after another
abbrev pub dues_in : {I : Type 0} → ItemBatch I → List (Due I)
dues_in batch = map (shifted batch.base) batch.dues.items

abbrev pub flat : {I : Type 0} → List (ItemBatch I) → List (Due I)
flat = flat_map dues_in

-- the dues as jobs of the worker that wait for their turn
abbrev pub queued_as : {I O : Type 0} → ℕ → ℕ → ℕ → List (Due I) → List (Job I O)
queued_as worker workers base dues = entries worker workers (map (shifted base) dues) []
