use Rattle.std.proofs.Common.{Some, [], ◌∷◌, ap, sym, ◌∙◌}
use Rattle.std.specs.Fmt.{option_append}
use Rattle.float_text.proofs.Words.{appended_output, appended_word, digits_spelled, name_graphic, stale_graphic, stale_spelled, normal_graphic, normal_spelled}
use Rattle.float_text.proofs.writing.push_name.Goals as goal

pub returns-in-9221120237041090561-clause-word : goal.returns-in-9221120237041090561-clause-word
returns-in-9221120237041090561-clause-word c =
    appended_word c.push_str.result _ _ _ _ c.push_str.ensures.bytes (normal_spelled ∙ ap Some (sym c.in-9221120237041090561.is)) normal_graphic

pub returns-in-9218868437227405314-clause-word : goal.returns-in-9218868437227405314-clause-word
returns-in-9218868437227405314-clause-word c =
    let call = c.push_str-in-9218868437227405314 in
    appended_word call.result _ _ _ _ call.ensures.bytes (stale_spelled ∙ ap Some (sym c.in-9218868437227405314.is)) stale_graphic

pub returns-in_default-clause-word : goal.returns-in_default-clause-word
returns-in_default-clause-word c =
    appended_output c.write.result _ _ _ _ _ (ap (option_append (Some (78 ∷ 97 ∷ 78 ∷ 58 ∷ []))) c.in_radix.ensures) c.write.ensures.bytes
    (digits_spelled c.args.bits c.ranges.bits.fits c.requires) (name_graphic c.args.bits c.ranges.bits.fits)
