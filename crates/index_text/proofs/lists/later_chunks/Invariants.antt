use Rattle.std.proofs.Common.{◌≡◌, ◌-◌}
use Rattle.index_text.specs.Gives.{with_front}
use Rattle.index_text.specs.Fields.{next_chunks}
use Rattle.index_text.proofs.lists.later_chunks.Given as goal

abbrev pub invariant-loop : goal.invariant-loop
invariant-loop l = with_front l.chunks.items (next_chunks (l.count - l.counter) l.last l.rest) ≡ with_front l.fn.chunks.items (next_chunks l.count l.fn.last l.bytes)
