use Rattle.std.proofs.Common.{◌≡◌, ◌+◌, ◌-◌, ◌%◌, length, take}
use Rattle.head_postings.specs.Postings.{IsPostingsOf}
use Rattle.head_core.specs.Content.{by_slot}
use Rattle.head_replay.specs.Partial.{belonging}
use Rattle.head_replay.proofs.postings.partial.Given as goal

abbrev pub invariant-loop-number : goal.invariant-loop-number
invariant-loop-number l = (l.number % l.workers.number ≡ l.worker) × IsPostingsOf (belonging l.workers.number l.worker (l.worker + 1) (take l.number (by_slot l.table.series))) l.postings

abbrev pub decreases-loop-number : goal.decreases-loop-number
decreases-loop-number l = length l.table.series - l.number
