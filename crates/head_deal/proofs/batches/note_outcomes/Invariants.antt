use Rattle.std.proofs.Common.{◌≡◌, ◌≤◌, ◌+◌, ◌++◌, length, drop}
use Rattle.head_deal.specs.Entries.{entries}
use Rattle.head_deal.specs.Batches.{dues_in, flat}
use Rattle.head_deal.specs.Joining.{written, numbered}
use Rattle.head_deal.proofs.batches.note_outcomes.Given as goal

abbrev pub invariant-loop-number : goal.invariant-loop-number
invariant-loop-number g l =
    (written (numbered (entries l.worker l.workers (flat (drop l.number l.batches.items)) (drop l.done l.outcomes.items))) l.all.items ≡ written (numbered (entries l.worker l.workers (flat l.batches.items) l.outcomes.items)) l.fn.all.items)
    × (l.done ≤ length l.outcomes.items)

abbrev pub invariant-loop-place : goal.invariant-loop-place
invariant-loop-place g l =
    written (numbered (entries l.worker l.workers (drop l.place (dues_in l.batch) ++ flat (drop (l.number + 1) l.batches.items)) (drop (l.done + l.place) l.outcomes.items))) l.all.items ≡ written (numbered (entries l.worker l.workers (flat l.batches.items) l.outcomes.items)) l.fn.all.items
