use Rattle.std.proofs.Common.{◌++◌, encode_utf8, sym, ap, ◌∙◌, append_assoc, rules}
use Rattle.std.proofs.lemmas.Grind.{flat_map-append}
use Rattle.std.proofs.Output.{has_written_append}
use Rattle.html_text.specs.Html.{escaped, escaped_byte}
use Rattle.html_text.proofs.escaped.EscapedDisplay.fmt.Goals as goal

pub loop-c-preserved : goal.loop-c-preserved
loop-c-preserved g c =
    λ plain.
    let so_far = c.loop-c.invariant plain in
    let ch = c.in-Some.c in (
      so_far.0 ++ escaped (encode_utf8 ch),
      has_written_append _ _ _ _ _ _ so_far.1 (search rules),
      append_assoc so_far.0 (escaped (encode_utf8 ch)) _ ∙ ap (λ l. so_far.0 ++ l) (sym (flat_map-append escaped_byte (encode_utf8 ch) _) ∙ ap escaped (sym c.in-Some.ensures.steps.0)) ∙ so_far.2,
    )
