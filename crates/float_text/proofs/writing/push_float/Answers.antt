use Rattle.std.proofs.Common.{rules, ◌≡◌, of_z, to_z, w64, Some, Bool, true, false, refl, ap, sym, ◌∙◌}
use Rattle.std.proofs.lemmas.Int.{to_z-of_z}
use Rattle.std.specs.Float.Ieee.{binary64, nan_bits}
use Rattle.float_text.specs.FloatText.{normal_nan, stale_nan}
use Rattle.float_text.proofs.Words.{appended_weaker, bits_kept, not_nan, read_signed}
use Rattle.float_text.proofs.writing.push_float.Goals as goal

clash : (b : Bool) → b ≡ true → b ≡ false → ⊥
clash true e k = cc
clash false e k = cc

pub push_number-requires : goal.push_number-requires
push_number-requires c = not_nan _ (sym c.is_nan.ensures ∙ c.if-is_nan.false)

pub returns-else-is_nan-clause-word : goal.returns-else-is_nan-clause-word
returns-else-is_nan-clause-word c =
    let n = c.cast_unsigned-bits.result in
    let number = not_nan n (sym c.is_nan.ensures ∙ c.if-is_nan.false) in
    appended_weaker c.push_number.result _ _ _ _
    (λ word spelled. read_signed word c.args.bits n c.ranges.bits c.cast_unsigned-bits.ensures (spelled ∙ ap Some (bits_kept n c.cast_unsigned-bits.type_inv number)))
    c.push_number.ensures

pub returns-else-is_nan-clause-normal : goal.returns-else-is_nan-clause-normal
unfolding nan_bits
returns-else-is_nan-clause-normal c e =
    let back : to_z w64 (of_z w64 c.args.bits) ≡ c.args.bits = search (rules, to_z-of_z) in
    let no : nan_bits binary64 normal_nan ≡ false = ap (nan_bits binary64) (sym (c.cast_unsigned-bits.ensures ∙ ap (of_z w64) back ∙ e)) ∙ sym c.is_nan.ensures ∙ c.if-is_nan.false in
    absurd (clash (nan_bits binary64 normal_nan) refl no)

pub returns-else-is_nan-clause-stale : goal.returns-else-is_nan-clause-stale
unfolding nan_bits
returns-else-is_nan-clause-stale c e =
    let back : to_z w64 (of_z w64 c.args.bits) ≡ c.args.bits = search (rules, to_z-of_z) in
    let no : nan_bits binary64 stale_nan ≡ false = ap (nan_bits binary64) (sym (c.cast_unsigned-bits.ensures ∙ ap (of_z w64) back ∙ e)) ∙ sym c.is_nan.ensures ∙ c.if-is_nan.false in
    absurd (clash (nan_bits binary64 stale_nan) refl no)
