use Rattle.html_text.proofs.Writing.{worded}
use Rattle.html_text.proofs.writer.HtmlWriter.words.Goals as goal

pub invariant_of-self : goal.invariant_of-self
invariant_of-self c = rw (c.in_ok-write.ensures.bytes) (worded _ c.args.words.now _ c.self.invariant)
