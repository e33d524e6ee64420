use Rattle.std.proofs.Common.{◌≡◌, ◌-◌}
use Rattle.index_text.specs.Gives.{nows}
use Rattle.index_text.specs.Fields.{times, text_field}
use Rattle.index_text.specs.Gives.{with_front}
use Rattle.index_text.proofs.lists.texts.Given as goal

abbrev pub invariant-loop : goal.invariant-loop
invariant-loop l = with_front (nows l.items.items) (times text_field (l.count - l.counter) l.rest) ≡ times text_field l.count l.bytes
