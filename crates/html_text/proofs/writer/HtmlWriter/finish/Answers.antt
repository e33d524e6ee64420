use Rattle.std.proofs.Common.{◌∙◌}
use Rattle.html_text.proofs.Writing.{ended_of, ends_of}
use Rattle.html_text.proofs.writer.HtmlWriter.finish.Goals as goal

pub loop-tag-preserved : goal.loop-tag-preserved
loop-tag-preserved c = rw (c.in_ok-push_end.ensures) (ended_of _ _ _ c.in-Some.tag c.in-Some.ensures.items c.loop-tag.invariant.0, ends_of _ _ _ c.in-Some.tag c.in-Some.ensures.items ∙ c.loop-tag.invariant.1)
