use Rattle.html_text.proofs.Writing.{nothing}
use Rattle.html_text.proofs.writer.HtmlWriter.new.Goals as goal

pub invariant_of-result : goal.invariant_of-result
invariant_of-result c = rw (c.in_ok-from_str.ensures.ok, c.new.ensures.items) nothing
