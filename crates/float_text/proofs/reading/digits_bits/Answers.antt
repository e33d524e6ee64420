use Rattle.std.proofs.Common.{◌≡◌, None, true, sym, ◌∙◌, arith}
use Rattle.std.specs.Float.{binary64}
use Rattle.std.specs.Float.Ieee.{nan_bits}
use Rattle.std.specs.Result.{result_ok}
use Rattle.float_text.proofs.Words.{digits_refused, digits_taken}
use Rattle.float_text.proofs.reading.digits_bits.Goals as goal

pub returns-in_err-bits : goal.returns-in_err-bits
returns-in_err-bits c =
    let none : result_ok c.from_str_radix.result ≡ None = sym c.ok.ensures.value ∙ c.in_err-bits.was in
    c.from_residual.ensures ∙ sym (digits_refused c.args.digits.now c.from_str_radix.result c.from_str_radix.ensures.value none)

pub returns : goal.returns
returns c =
    let marked : nan_bits binary64 c.in_ok-bits.bits ≡ true = cc in
    digits_taken c.args.digits.now c.from_str_radix.result c.in_ok-bits.bits c.from_str_radix.ensures.value (sym c.ok.ensures.value ∙ c.in_ok-bits.was)
    (omega arith) marked
