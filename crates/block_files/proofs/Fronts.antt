-- What is spelled at the front of some bytes is what was written there.
use Rattle.std.proofs.Common.{◌≡◌, ℕ, ◌<◌, ◌^◌, List, ◌++◌, drop, ap, ◌∙◌}
use Rattle.std.specs.Prelude.{ℤ, FitsSigned}
use Rattle.std.specs.Int.{w64, cast_signed, cast_unsigned}
use Rattle.std.proofs.lemmas.Int.{to_z-of_z}
use Rattle.hw_bytes.specs.Spellings.{IsAt, IsNowhere}
use Rattle.hw_bytes.specs.Numbers.{IsUvarint, IsVarint}
use Rattle.hw_bytes.specs.Writing.{uvarint, varint}
use Rattle.hw_bytes.proofs.Codes.{after}
use Rattle.hw_bytes.proofs.Groups.{uvarint_code}
use Rattle.hw_bytes.proofs.Varints.{varint_code}
use Rattle.hw_bytes.proofs.Shortest.{uvarint_shortest, varint_shortest}

pub uvarint_front : (bytes more rest : List ℕ) (m n len : ℕ) → IsAt IsUvarint bytes m len → more ≡ drop len bytes → n < 2 ^ 64 → bytes ≡ uvarint n ++ rest → (m ≡ n) × (more ≡ rest)
uvarint_front bytes more rest m n len at i h e =
    let a = after IsUvarint uvarint_code.one bytes (uvarint n) rest m n len at (uvarint_shortest n h).spelled e in
    (a.0, i ∙ a.1)

pub uvarint_nowhere : (bytes rest : List ℕ) (n : ℕ) → IsNowhere IsUvarint bytes → n < 2 ^ 64 → bytes ≡ uvarint n ++ rest → ⊥
uvarint_nowhere bytes rest n none h e = none (uvarint n) rest n (uvarint_shortest n h).spelled e

-- the number as the code passes it on
pub varint_front : (bytes more rest : List ℕ) (y z : ℤ) (len : ℕ) → IsAt IsVarint bytes y len → more ≡ drop len bytes → FitsSigned w64 z → bytes ≡ varint z ++ rest
    → (cast_signed w64 (cast_unsigned w64 y) ≡ z) × (more ≡ rest)
varint_front bytes more rest y z len at i h e =
    let a = after IsVarint varint_code.one bytes (varint z) rest y z len at (varint_shortest z h).spelled e in
    (ap (λ (x : ℤ). cast_signed w64 (cast_unsigned w64 x)) a.0 ∙ to_z-of_z w64 z h, i ∙ a.1)

pub varint_nowhere : (bytes rest : List ℕ) (z : ℤ) → IsNowhere IsVarint bytes → FitsSigned w64 z → bytes ≡ varint z ++ rest → ⊥
varint_nowhere bytes rest z none h e = none (varint z) rest z (varint_shortest z h).spelled e
