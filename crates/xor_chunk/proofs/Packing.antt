-- A chunk is the bytes that hold its bits.
use Rattle.std.proofs.Common.{◌≡◌, ℕ, suc, ◌+◌, ◌-◌, ◌*◌, ◌^◌, ◌<◌, ◌≤◌, Bool, true, false, cond, List, [], ◌∷◌, ◌++◌, sym, ap, ◌∙◌, subst, arith, append_assoc, length, length-append, map}
use Rattle.std.specs.Prelude.{replicate}
use Rattle.std.specs.List.{flat_map}
use Rattle.std.proofs.lemmas.List.{append-nil, length-replicate}
use Rattle.std.proofs.lemmas.Nat.{pow-add}
use Rattle.hw_bytes.specs.Spellings.{IsBytes}
use Rattle.hw_bytes.proofs.Codes.{bytes_cons}
use Rattle.xor_chunk.specs.Parts.{AreFull, parts}
use Rattle.xor_chunk.proofs.Parts.{parts_are}
use Rattle.xor_chunk.specs.declared.sample.Sample.{Sample}
use Rattle.xor_chunk.specs.Bits.{bits_of, bits_in, number_of, byte_of, bytes_of}
use Rattle.xor_chunk.specs.Private.{IsPacked}
use Rattle.xor_chunk.specs.Chunks.{chunk_bits, is_whole_chunk, xor_text}
use Rattle.xor_chunk.proofs.Bits.{bits_of-join, bits_in-cons, no_bits, no_bytes, one_bit}
use Rattle.xor_chunk.proofs.Cut.{one_packing}

-- ---- the number of some bits

digit : Bool → ℕ
digit false = 0
digit true = 1

digit_bit : (b : Bool) → bits_of 1 (digit b) ≡ b ∷ []
unfolding digit
digit_bit false = one_bit 0 (omega arith)
digit_bit true = one_bit 1 (omega arith)

number_cons : (b : Bool) (more : List Bool) → number_of (b ∷ more) ≡ digit b * 2 ^ length more + number_of more
unfolding number_of digit
number_cons false more = omega arith
number_cons true more = omega arith

number_small : (bits : List Bool) → number_of bits < 2 ^ length bits
unfolding number_of
number_small [] = omega arith
number_small (b ∷ more) = by b (number_small more)
  where
    twice : 2 ^ suc (length more) ≡ 2 ^ length more + 2 ^ length more
    twice = let place : suc (length more) ≡ 1 + length more = omega arith in ap (λ (k : ℕ). 2 ^ k) place ∙ pow-add 2 1 (length more) ∙ omega arith

    by : (b : Bool) → number_of more < 2 ^ length more → number_of (b ∷ more) < 2 ^ suc (length more)
    by false h = omega (arith, h, twice)
    by true h = omega (arith, h, twice)

number_bits : (bits : List Bool) → bits_of (length bits) (number_of bits) ≡ bits
number_bits [] = no_bits (number_of [])
number_bits (b ∷ more) =
    let k : ℕ = length more in
    let place : suc k ≡ 1 + k = omega arith in
    ap (bits_of (suc k)) (number_cons b more) ∙ ap (λ (n : ℕ). bits_of n (digit b * 2 ^ k + number_of more)) place ∙ bits_of-join 1 k (digit b) (number_of more) (number_small more)
    ∙ ap (λ (bs : List Bool). bs ++ bits_of k (number_of more)) (digit_bit b) ∙ ap (λ (bs : List Bool). b ∷ bs) (number_bits more)

-- ---- the byte of at most eight bits

eight : (p : List Bool) → length p ≤ 8 → length (p ++ replicate (8 - length p) false) ≡ 8
eight p few = length-append p (replicate (8 - length p) false) ∙ omega (arith, length-replicate {A = Bool} (8 - length p) false)

byte_small : (p : List Bool) → length p ≤ 8 → byte_of p < 256
byte_small p few = let h = number_small (p ++ replicate (8 - length p) false) in let e = eight p few in omega (arith, subst (λ (k : ℕ). byte_of p < 2 ^ k) e h)

byte_bits : (p : List Bool) → length p ≤ 8 → bits_of 8 (byte_of p) ≡ p ++ replicate (8 - length p) false
byte_bits p few = ap (λ (k : ℕ). bits_of k (byte_of p)) (sym (eight p few)) ∙ number_bits (p ++ replicate (8 - length p) false)

-- ---- bits as bytes

joined : List (List Bool) → List Bool
joined ps = flat_map (λ p. p) ps

parts_packed : (ps : List (List Bool)) → AreFull 8 ps → IsPacked (map byte_of ps) false (joined ps)
unfolding joined
parts_packed [] full = record { pad = 0; short = omega arith; filled = no_bytes }
parts_packed (p ∷ []) full = record {
  pad = 8 - length p;
  short = omega (arith, full.0);
  filled = bits_in-cons (byte_of p) [] ∙ ap (λ (bs : List Bool). bits_of 8 (byte_of p) ++ bs) no_bytes ∙ append-nil (bits_of 8 (byte_of p)) ∙ byte_bits p full.1 ∙ ap (λ (bs : List Bool). bs ++ replicate (8 - length p) false) (sym (append-nil p));
}
parts_packed (p ∷ q ∷ more) full =
    let rest = parts_packed (q ∷ more) full.1 in
    let none : 8 - length p ≡ 0 = omega (arith, full.0) in
    let first : bits_of 8 (byte_of p) ≡ p = byte_bits p (omega (arith, full.0)) ∙ ap (λ (k : ℕ). p ++ replicate k false) none ∙ append-nil p in
    record {
      pad = rest.pad;
      short = rest.short;
      filled = bits_in-cons (byte_of p) (map byte_of (q ∷ more)) ∙ ap (λ (bs : List Bool). bs ++ bits_in (map byte_of (q ∷ more))) first ∙ ap (λ (bs : List Bool). p ++ bs) rest.filled ∙ sym (append_assoc p (joined (q ∷ more)) (replicate rest.pad false));
    }

parts_small : (ps : List (List Bool)) → AreFull 8 ps → IsBytes (map byte_of ps)
parts_small [] full = λ i. omega arith
parts_small (p ∷ []) full = bytes_cons (byte_of p) [] (byte_small p full.1) (λ i. omega arith)
parts_small (p ∷ q ∷ more) full = bytes_cons (byte_of p) (map byte_of (q ∷ more)) (byte_small p (omega (arith, full.0))) (parts_small (q ∷ more) full.1)

pub bytes_packed : (bits : List Bool) → IsPacked (bytes_of bits) false bits
unfolding bytes_of joined
bytes_packed bits = let h = parts_are {A = Bool} 8 (omega arith) bits in subst (IsPacked (bytes_of bits) false) h.joined (parts_packed (parts 8 bits) h.full)

pub bytes_small : (bits : List Bool) → IsBytes (bytes_of bits)
unfolding bytes_of
bytes_small bits = let h = parts_are {A = Bool} 8 (omega arith) bits in parts_small (parts 8 bits) h.full

one_more : (bits : List Bool) (pad : ℕ) → (bits ++ false ∷ []) ++ replicate pad false ≡ bits ++ replicate (suc pad) false
one_more bits pad = append_assoc bits (false ∷ []) (replicate pad false)

ended : (whole : Bool) (bits : List Bool) → IsPacked (bytes_of (bits ++ cond whole (false ∷ []) [])) whole bits
ended false bits = subst (λ (bs : List Bool). IsPacked (bytes_of bs) false bits) (sym (append-nil bits)) (bytes_packed bits)
ended true bits =
    let h = bytes_packed (bits ++ false ∷ []) in
    record { pad = suc h.pad; short = (omega arith, omega (arith, h.short)); filled = h.filled ∙ one_more bits h.pad }

-- ---- the chunk of some samples

pub xor_packed : (samples : List Sample) → IsPacked (xor_text samples) (is_whole_chunk samples) (chunk_bits samples)
unfolding xor_text
xor_packed samples = ended (is_whole_chunk samples) (chunk_bits samples)

pub xor_small : (samples : List Sample) → IsBytes (xor_text samples)
unfolding xor_text
xor_small samples = bytes_small (chunk_bits samples ++ cond (is_whole_chunk samples) (false ∷ []) [])

-- the bytes that hold the bits are the chunk
pub xor_is : (text : List ℕ) (samples : List Sample) → IsBytes text → IsPacked text (is_whole_chunk samples) (chunk_bits samples) → text ≡ xor_text samples
xor_is text samples small packed = one_packing text (xor_text samples) (is_whole_chunk samples) (chunk_bits samples) small (xor_small samples) packed (xor_packed samples)
