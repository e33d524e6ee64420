use Rattle.block_read.proofs.Apart.{ApartTo}
use Rattle.block_read.proofs.hidden.are_apart.Given as goal

abbrev pub invariant-loop-i : goal.invariant-loop-i
invariant-loop-i l = ApartTo l.i l.runs
