-- Numbers of fixed width.
use Rattle.std.proofs.Common.{◌≡◌, ℕ, zero, suc, ◌^◌, ◌<◌, List, ◌++◌, length, drop, refl, sym, ap, ◌∙◌, arith}
use Rattle.std.specs.Int.{byte_at}
use Rattle.std.proofs.lemmas.List.{drop_at, length-append}
use Rattle.byteorder.specs.Endian.{big_number}
use Rattle.byteorder.specs.Numbers.{big_number-reads_back, length-bytes_high_first}
use Rattle.hw_bytes.specs.Spellings.{IsBytes, IsCode, IsNowhere}
use Rattle.hw_bytes.specs.Numbers.{IsFixed}
use Rattle.hw_bytes.specs.Writing.{big_bytes, IsShortest}
use Rattle.hw_bytes.proofs.Codes.{bytes_cons}

fixed_again : (width : ℕ) (front rest : List ℕ) (n : ℕ) → IsFixed width front n → big_number width (front ++ rest) ≡ n
fixed_again width front rest n h = ap (λ (t : List ℕ). big_number width (t ++ rest)) h.0 ∙ big_number-reads_back width n rest h.1

fixed_length : (width : ℕ) (front : List ℕ) (n : ℕ) → IsFixed width front n → length front ≡ width
fixed_length width front n h = ap length h.0 ∙ length-bytes_high_first width n

pub fixed_code : (width : ℕ) → 0 < width → IsCode (IsFixed width)
fixed_code width some = record {
  one = λ f r g s x y p q e. (
    sym (fixed_again width f r x p) ∙ ap (big_number width) e ∙ fixed_again width g s y q,
    sym (drop_at f r width (fixed_length width f x p)) ∙ ap (drop width) e ∙ drop_at g s width (fixed_length width g y q),
  );
  some = λ front n h. omega (arith, fixed_length width front n h);
}

-- fewer bytes spell nothing
pub fixed_nowhere : (width : ℕ) (bytes : List ℕ) → length bytes < width → IsNowhere (IsFixed width) bytes
fixed_nowhere width bytes few front rest n h e = omega (arith, ap length e, length-append front rest, fixed_length width front n h)

byte_small : (i n : ℕ) → byte_at i n < 256
byte_small zero n = omega arith
byte_small (suc i) n = omega arith

fixed_bytes : (width n : ℕ) → IsBytes (big_bytes width n)
fixed_bytes zero n = λ i. omega arith
fixed_bytes (suc k) n = bytes_cons (byte_at k n) (big_bytes k n) (byte_small k n) (fixed_bytes k n)

pub fixed_shortest : (width n : ℕ) → n < 256 ^ width → IsShortest (IsFixed width) (big_bytes width n) n
fixed_shortest width n fits = record {
  small = fixed_bytes width n;
  spelled = (refl, fits);
  least = λ others h. omega (arith, ap length h.0);
  only = λ others small h short. h.0;
}
