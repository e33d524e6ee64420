use Rattle.html_text.proofs.Writing.{ended_of}
use Rattle.html_text.proofs.writer.HtmlWriter.end.Goals as goal

pub invariant_of-self : goal.invariant_of-self
invariant_of-self c = rw (c.in_ok-push_end.ensures) (ended_of _ _ _ c.in-Some.tag c.in-Some.ensures.items c.self.invariant)
