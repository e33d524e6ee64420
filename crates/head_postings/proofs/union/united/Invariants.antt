use Rattle.std.proofs.Common.{◌+◌, ◌-◌, ◌≤◌, drop, length}
use Rattle.head_postings.proofs.Unions.{IsPart}
use Rattle.head_postings.proofs.union.united.Given as goal

abbrev pub invariant-loop-i : goal.invariant-loop-i
invariant-loop-i l = (l.i ≤ length l.first) × (l.j ≤ length l.second) × IsPart l.first l.second l.union.items (drop l.i l.first) (drop l.j l.second)

abbrev pub decreases-loop-i : goal.decreases-loop-i
decreases-loop-i l = (length l.first - l.i) + (length l.second - l.j)
