use Rattle.std.proofs.Common.{Some, ap, sym, ◌∙◌}
use Rattle.std.specs.Float.{inf}
use Rattle.float_text.proofs.Words.{appended_word, infinite, infinity_graphic, infinity_read, minus_infinity_graphic, minus_infinity_read, number_graphic, number_spelled}
use Rattle.float_text.proofs.writing.push_number.Goals as goal

pub returns-then-is_finite : goal.returns-then-is_finite
returns-then-is_finite c =
    appended_word c.push_str.result _ _ _ _ c.push_str.ensures.bytes
    (number_spelled c.format_finite.result.now c.args.number c.requires c.format_finite.ensures.parses)
    (number_graphic c.format_finite.result.now c.format_finite.ensures.plain)

pub returns-then-is_sign_negative : goal.returns-then-is_sign_negative
returns-then-is_sign_negative c =
    let call = c.push_str-then-is_sign_negative in
    let is = infinite c.args.number c.requires (sym c.is_finite.ensures.value ∙ c.if-is_finite.false) ∙ ap inf (sym c.is_sign_negative.ensures ∙ c.if-is_sign_negative.true) in
    appended_word call.result _ _ _ _ call.ensures.bytes (number_spelled _ c.args.number c.requires (minus_infinity_read ∙ ap Some (sym is))) minus_infinity_graphic

pub returns-else-is_sign_negative : goal.returns-else-is_sign_negative
returns-else-is_sign_negative c =
    let call = c.push_str-else-is_sign_negative in
    let is = infinite c.args.number c.requires (sym c.is_finite.ensures.value ∙ c.if-is_finite.false) ∙ ap inf (sym c.is_sign_negative.ensures ∙ c.if-is_sign_negative.false) in
    appended_word call.result _ _ _ _ call.ensures.bytes (number_spelled _ c.args.number c.requires (infinity_read ∙ ap Some (sym is))) infinity_graphic
