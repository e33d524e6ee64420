-- Characters that are no markup, written as they are.
use Rattle.std.specs.Prelude.{◌≡◌, ℕ, ◌+◌, ◌/◌, ◌%◌, ◌<◌, ◌==◌, Bool, true, false, if◌then◌else◌, nat_lt, List, [], ◌∷◌, ◌++◌, encode_utf8, refl}
use Rattle.std.proofs.Common.{ap, arith, cond, ◌∙◌}
use Rattle.std.proofs.Math.Utf8.{encode}
use Rattle.std.proofs.lemmas.Bool.{ne_eqb, true≢false}
use Rattle.html_text.specs.Html.{escaped, escaped_byte}

-- the byte is none that is written as a reference
record IsPlain (byte : ℕ) : Type 0 where
  pub amp : (byte == 38) ≡ false
  pub lt : (byte == 60) ≡ false
  pub gt : (byte == 62) ≡ false
  pub quot : (byte == 34) ≡ false
  pub apos : (byte == 39) ≡ false

none_of : (a b c d e : Bool) (v w x y z last : List ℕ) → a ≡ false → b ≡ false → c ≡ false → d ≡ false → e ≡ false
    → (if a then v else (if b then w else (if c then x else (if d then y else (if e then z else last))))) ≡ last
none_of true b c d e v w x y z last p q r s t = absurd (true≢false p)
none_of false true c d e v w x y z last p q r s t = absurd (true≢false q)
none_of false false true d e v w x y z last p q r s t = absurd (true≢false r)
none_of false false false true e v w x y z last p q r s t = absurd (true≢false s)
none_of false false false false true v w x y z last p q r s t = absurd (true≢false t)
none_of false false false false false v w x y z last p q r s t = refl

as_itself : (byte : ℕ) → IsPlain byte → escaped_byte byte ≡ byte ∷ []
as_itself byte plain = none_of (byte == 38) (byte == 60) (byte == 62) (byte == 34) (byte == 39) _ _ _ _ _ (byte ∷ []) plain.amp plain.lt plain.gt plain.quot plain.apos

-- a byte of a character past ASCII
wide : (byte : ℕ) → 127 < byte → IsPlain byte
wide byte far = record {
  amp = ne_eqb byte 38 (λ e. omega (arith, far, e));
  lt = ne_eqb byte 60 (λ e. omega (arith, far, e));
  gt = ne_eqb byte 62 (λ e. omega (arith, far, e));
  quot = ne_eqb byte 34 (λ e. omega (arith, far, e));
  apos = ne_eqb byte 39 (λ e. omega (arith, far, e));
}

-- and what is after it is written after it
behind : (byte : ℕ) (bytes : List ℕ) → IsPlain byte → escaped bytes ≡ bytes → escaped (byte ∷ bytes) ≡ byte ∷ bytes
behind byte bytes plain rest = ap (λ (front : List ℕ). front ++ escaped bytes) (as_itself byte plain) ∙ ap (λ (bs : List ℕ). byte ∷ bs) rest

last : (byte : ℕ) → IsPlain byte → escaped (byte ∷ []) ≡ byte ∷ []
last byte plain = behind byte [] plain refl

next : (bits : ℕ) → 127 < 128 + bits % 64
next bits = omega arith

two : (c : ℕ) → escaped ((128 + c / 64 % 64) ∷ (128 + c % 64) ∷ []) ≡ (128 + c / 64 % 64) ∷ (128 + c % 64) ∷ []
two c = behind (128 + c / 64 % 64) ((128 + c % 64) ∷ []) (wide (128 + c / 64 % 64) (next (c / 64))) (last (128 + c % 64) (wide (128 + c % 64) (next c)))

by_size : (c : ℕ) (one pair three : Bool) → IsPlain c
    → let bytes = cond one (c ∷ []) (cond pair ((192 + c / 64) ∷ (128 + c % 64) ∷ []) (cond three ((224 + c / 4096) ∷ (128 + c / 64 % 64) ∷ (128 + c % 64) ∷ []) ((240 + c / 262144) ∷ (128 + c / 4096 % 64) ∷ (128 + c / 64 % 64) ∷ (128 + c % 64) ∷ []))) in
    escaped bytes ≡ bytes
by_size c true pair three plain = last c plain
by_size c false true three plain = behind (192 + c / 64) ((128 + c % 64) ∷ []) (wide (192 + c / 64) (omega arith)) (last (128 + c % 64) (wide (128 + c % 64) (next c)))
by_size c false false true plain = behind (224 + c / 4096) ((128 + c / 64 % 64) ∷ (128 + c % 64) ∷ []) (wide (224 + c / 4096) (omega arith)) (two c)
by_size c false false false plain =
    behind (240 + c / 262144) ((128 + c / 4096 % 64) ∷ (128 + c / 64 % 64) ∷ (128 + c % 64) ∷ []) (wide (240 + c / 262144) (omega arith))
    (behind (128 + c / 4096 % 64) ((128 + c / 64 % 64) ∷ (128 + c % 64) ∷ []) (wide (128 + c / 4096 % 64) (next (c / 4096))) (two c))

-- a character that is none of the five is written as it is
pub plain_char : (c : ℕ) → (c ≡ 38 → ⊥) → (c ≡ 60 → ⊥) → (c ≡ 62 → ⊥) → (c ≡ 34 → ⊥) → (c ≡ 39 → ⊥) → escaped (encode_utf8 c) ≡ encode_utf8 c
unfolding encode
plain_char c p q r s t = by_size c (nat_lt c 128) (nat_lt c 2048) (nat_lt c 65536) (record { amp = ne_eqb c 38 p; lt = ne_eqb c 60 q; gt = ne_eqb c 62 r; quot = ne_eqb c 34 s; apos = ne_eqb c 39 t })
