use Rattle.std.proofs.Common.{take}
use Rattle.head_postings.specs.Postings.{IsPostingsOf}
use Rattle.head_core.specs.Content.{by_slot}
use Rattle.head_core.proofs.postings.postings_of.Given as goal

abbrev pub invariant-loop-number : goal.invariant-loop-number
invariant-loop-number l = IsPostingsOf (take l.number (by_slot l.table.series)) l.postings
