use Rattle.std.proofs.Common.{◌≡◌, ◌-◌, length}
use Rattle.index_text.specs.Reading.{elements_done, framed_done}
use Rattle.index_text.proofs.passed.pass_section.Given as goal

abbrev pub invariant-loop : goal.invariant-loop
invariant-loop g l = elements_done (framed_done (g.C.Contents.done l.form) l.stop) (length l.section - l.counter) l.rest ≡ elements_done (framed_done (g.C.Contents.done l.form) l.stop) (length l.section) l.section
