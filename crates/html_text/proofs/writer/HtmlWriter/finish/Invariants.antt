use Rattle.std.proofs.Common.{◌≡◌, ◌++◌, length, string_bytes}
use Rattle.html_text.specs.Html.{IsWritten, ends_text}
use Rattle.html_text.proofs.writer.HtmlWriter.finish.Given as goal

abbrev pub invariant-loop-tag : goal.invariant-loop-tag
invariant-loop-tag l = IsWritten (record { text = string_bytes l.text; around = l.around.items }) × (string_bytes l.text ++ ends_text l.around.items ≡ string_bytes l.initial.text ++ ends_text l.initial.around.items)

abbrev pub decreases-loop-tag : goal.decreases-loop-tag
decreases-loop-tag l = length l.around.items
