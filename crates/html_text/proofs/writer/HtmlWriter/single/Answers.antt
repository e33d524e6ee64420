use Rattle.html_text.specs.Html.{named}
use Rattle.html_text.proofs.Writing.{single}
use Rattle.html_text.proofs.writer.HtmlWriter.single.Goals as goal

pub invariant_of-self : goal.invariant_of-self
invariant_of-self c = rw (c.in_ok-push_start.ensures) (single _ _ c.args.tag (named c.args.attributes.now) c.self.invariant)
