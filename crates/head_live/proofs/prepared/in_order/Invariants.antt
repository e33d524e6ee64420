use Rattle.std.proofs.Common.{◌≡◌, take}
use Rattle.head_live.specs.Sets.{again_from}
use Rattle.head_live.proofs.prepared.in_order.Given as goal

abbrev pub invariant-loop-place : goal.invariant-loop-place
invariant-loop-place l = l.again.items ≡ again_from 0 (take l.place l.rows)
