use Rattle.html_text.specs.Html.{named}
use Rattle.html_text.proofs.Writing.{started}
use Rattle.html_text.proofs.writer.HtmlWriter.start.Goals as goal

pub invariant_of-self : goal.invariant_of-self
invariant_of-self c = rw (c.in_ok-push_start.ensures, c.in_ok-push.ensures.items) (started _ _ c.args.tag (named c.args.attributes.now) c.self.invariant)
