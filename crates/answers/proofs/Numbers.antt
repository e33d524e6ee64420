-- The number of a file, as it is printed.
use Rattle.std.specs.Prelude.{ℕ, ◌≡◌, ◌-◌, ◌^◌, refl}
use Rattle.std.specs.Fmt.{decimal, format_spec, styled_decimal}
use Rattle.std.proofs.Padding.{padded_integral_zeros}
use Rattle.answers.specs.Damages.{file_number}

pub eight : (n : ℕ) → styled_decimal (format_spec 32 0 4 8 (2 ^ 64 - 1)) n ≡ file_number n
eight n = padded_integral_zeros (format_spec 32 0 4 8 (2 ^ 64 - 1)) (decimal n) refl refl
