use Rattle.std.proofs.Common.{◌≡◌, ◌-◌, length}
use Rattle.std.specs.Prelude.{map}
use Rattle.index_text.proofs.Loops.{with_items}
use Rattle.index_text.specs.Reading.{series_element_at, elements}
use Rattle.index_text.specs.Stored.{stored}
use Rattle.index_text.proofs.stored.series_section.Given as goal

abbrev pub invariant-loop : goal.invariant-loop
invariant-loop l = with_items (map stored l.found.items) (elements (series_element_at l.limit l.stop) (length l.section - l.counter) l.rest) ≡ elements (series_element_at l.limit l.stop) (length l.section) l.section
