use Rattle.std.proofs.Common.{◌≡◌, ◌+◌, ◌-◌, ◌≤◌, length, vec_len}
use Rattle.head_live.specs.InUse.{AreIndexed}
use Rattle.head_live.proofs.in_use.InUse.make_place.Given as goal

abbrev pub invariant-loop-self : goal.invariant-loop-self
invariant-loop-self l = record {
  numbers : l.self-inside.numbers ≡ l.initial.self-inside.numbers;
  longer : length l.initial.self-inside.indices.items ≤ length l.self-inside.indices.items;
  indexed : AreIndexed l.self-inside.indices.items l.self-inside.numbers.items;
}

abbrev pub decreases-loop-self : goal.decreases-loop-self
decreases-loop-self l = l.number + 1 - vec_len l.self-inside.indices
