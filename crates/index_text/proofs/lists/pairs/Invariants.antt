use Rattle.std.proofs.Common.{◌≡◌, ◌-◌}
use Rattle.index_text.specs.Fields.{times, pair_field}
use Rattle.index_text.specs.Gives.{with_front}
use Rattle.index_text.proofs.lists.pairs.Given as goal

abbrev pub invariant-loop : goal.invariant-loop
invariant-loop l = with_front l.items.items (times (pair_field l.limit) (l.count - l.counter) l.rest) ≡ times (pair_field l.limit) l.count l.bytes
