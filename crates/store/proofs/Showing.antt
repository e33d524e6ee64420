-- A path, as a fault prints it, character by character.
use Rattle.std.specs.Prelude.{◌≡◌, ℕ, ◌+◌, ◌/◌, ◌%◌, ◌<◌, ◌||◌, ◌&&◌, Bool, true, false, if◌then◌else◌, nat_le, nat_lt, List, [], ◌∷◌, ◌++◌, encode_utf8, refl}
use Rattle.std.specs.Char.{is_ascii_control}
use Rattle.std.proofs.Common.{ap, arith, cond, ◌∙◌}
use Rattle.std.proofs.Math.Utf8.{encode}
use Rattle.std.proofs.lemmas.Bool.{lt-leb, true≢false}
use Rattle.store.specs.Shown.{digit_of, shown, shown_byte}

-- a byte that is no control character is shown as itself
as_itself : (byte : ℕ) → is_ascii_control byte ≡ false → shown_byte byte ≡ byte ∷ []
as_itself byte plain = ap (λ (b : Bool). if b then 92 ∷ 120 ∷ digit_of (byte / 16) ∷ digit_of (byte % 16) ∷ [] else byte ∷ []) plain

neither : (a b c d : Bool) → b ≡ false → d ≡ false → (a && b || c && d) ≡ false
neither a true c d p q = absurd (true≢false p)
neither a b c true p q = absurd (true≢false q)
neither true false true false p q = refl
neither true false false false p q = refl
neither false false true false p q = refl
neither false false false false p q = refl

-- a byte of a character past ASCII is none
wide : (byte : ℕ) → 127 < byte → is_ascii_control byte ≡ false
wide byte far = neither (nat_le 0 byte) (nat_le byte 31) (nat_le 127 byte) (nat_le byte 127) (lt-leb byte 31 (omega (arith, far))) (lt-leb byte 127 far)

-- and what is after it is shown after it
behind : (byte : ℕ) (bytes : List ℕ) → is_ascii_control byte ≡ false → shown bytes ≡ bytes → shown (byte ∷ bytes) ≡ byte ∷ bytes
behind byte bytes plain rest = ap (λ (front : List ℕ). front ++ shown bytes) (as_itself byte plain) ∙ ap (λ (bs : List ℕ). byte ∷ bs) rest

last : (byte : ℕ) → is_ascii_control byte ≡ false → shown (byte ∷ []) ≡ byte ∷ []
last byte plain = behind byte [] plain refl

next : (bits : ℕ) → 127 < 128 + bits % 64
next bits = omega arith

two : (c : ℕ) → shown ((128 + c / 64 % 64) ∷ (128 + c % 64) ∷ []) ≡ (128 + c / 64 % 64) ∷ (128 + c % 64) ∷ []
two c = behind (128 + c / 64 % 64) ((128 + c % 64) ∷ []) (wide (128 + c / 64 % 64) (next (c / 64))) (last (128 + c % 64) (wide (128 + c % 64) (next c)))

by_size : (c : ℕ) (one pair three : Bool) → is_ascii_control c ≡ false
    → let bytes = cond one (c ∷ []) (cond pair ((192 + c / 64) ∷ (128 + c % 64) ∷ []) (cond three ((224 + c / 4096) ∷ (128 + c / 64 % 64) ∷ (128 + c % 64) ∷ []) ((240 + c / 262144) ∷ (128 + c / 4096 % 64) ∷ (128 + c / 64 % 64) ∷ (128 + c % 64) ∷ []))) in
    shown bytes ≡ bytes
by_size c true pair three plain = last c plain
by_size c false true three plain = behind (192 + c / 64) ((128 + c % 64) ∷ []) (wide (192 + c / 64) (omega arith)) (last (128 + c % 64) (wide (128 + c % 64) (next c)))
by_size c false false true plain = behind (224 + c / 4096) ((128 + c / 64 % 64) ∷ (128 + c % 64) ∷ []) (wide (224 + c / 4096) (omega arith)) (two c)
by_size c false false false plain =
    behind (240 + c / 262144) ((128 + c / 4096 % 64) ∷ (128 + c / 64 % 64) ∷ (128 + c % 64) ∷ []) (wide (240 + c / 262144) (omega arith))
    (behind (128 + c / 4096 % 64) ((128 + c / 64 % 64) ∷ (128 + c % 64) ∷ []) (wide (128 + c / 4096 % 64) (next (c / 4096))) (two c))

-- a character that is no control character of ASCII is shown as itself
pub plain_char : (c : ℕ) → is_ascii_control c ≡ false → shown (encode_utf8 c) ≡ encode_utf8 c
unfolding encode
plain_char c plain = by_size c (nat_lt c 128) (nat_lt c 2048) (nat_lt c 65536) plain
