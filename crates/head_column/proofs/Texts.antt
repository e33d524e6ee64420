-- The texts of samples.
use Rattle.std.proofs.Common.{◌≡◌, ℕ, List, ◌++◌, Option, Result, Ok, Err, ap, ◌∙◌, append_assoc}
use Rattle.std.specs.Prelude.{ℤ, FitsSigned}
use Rattle.std.specs.Int.{w64, cast_signed, cast_unsigned}
use Rattle.std.specs.Result.{OnOk}
use Rattle.std.proofs.lemmas.Int.{to_z-of_z}
use Rattle.hw_bytes.specs.Writing.{big_bytes}
use Rattle.head_column.specs.Chunks.{time_text, value_text}

on_ok : {X E P Q : Type 0} (r : Result X E) → (P → Q) → OnOk r P → OnOk r Q
on_ok (Ok x) f p = f p
on_ok (Err e) f p = tt

-- a time and a value that were put one after the other
pub put_both : {X E : Type 0} (r : Result X E) (old mid new : List ℕ) (before : Option ℤ) (time value : ℤ) (bits : ℕ) → FitsSigned w64 time → FitsSigned w64 value
    → mid ≡ old ++ time_text before (cast_signed w64 (cast_unsigned w64 time)) → bits ≡ cast_unsigned w64 (cast_signed w64 (cast_unsigned w64 value))
    → OnOk r (new ≡ mid ++ big_bytes 8 bits) → OnOk r (new ≡ old ++ (time_text before time ++ value_text value))
put_both r old mid new before time value bits f g m b p =
    let here : mid ≡ old ++ time_text before time = m ∙ ap (λ (t : ℤ). old ++ time_text before t) (to_z-of_z w64 time f) in
    let same : bits ≡ cast_unsigned w64 value = b ∙ ap (cast_unsigned w64) (to_z-of_z w64 value g) in
    on_ok r (λ (e : new ≡ mid ++ big_bytes 8 bits). e ∙ ap (λ (n : ℕ). mid ++ big_bytes 8 n) same ∙ ap (λ (t : List ℕ). t ++ value_text value) here ∙ append_assoc old (time_text before time) (value_text value)) p
