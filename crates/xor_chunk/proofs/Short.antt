-- How long a chunk is.
use Rattle.std.proofs.Common.{◌≡◌, ℕ, zero, suc, ◌+◌, ◌*◌, ◌/◌, ◌%◌, ◌^◌, ◌≤◌, Bool, true, false, cond, eqb, ltb, List, [], ◌∷◌, ◌++◌, Option, Some, None, sym, ap, ◌∙◌, arith, length, length-append}
use Rattle.std.specs.Prelude.{replicate, bit_xor}
use Rattle.std.proofs.lemmas.List.{length-replicate}
use Rattle.byteorder.specs.Numbers.{length-bytes_high_first}
use Rattle.hw_bytes.specs.Writing.{big_bytes, uvarint, uvarint_in, varint}
use Rattle.xor_chunk.specs.declared.sample.Sample.{Sample}
use Rattle.xor_chunk.specs.Bits.{bits_of, bits_in}
use Rattle.xor_chunk.specs.Private.{IsPad}
use Rattle.xor_chunk.specs.Chunks.{pattern, minus, is_near, step_bits, opened, width, within, opening, reused, changed_bits, value_bits, sample_bits, after, samples_bits, second, count_bytes, first_bytes, delta_bytes, head_bytes, behind_head, chunk_bits, is_whole_chunk, xor_text}
use Rattle.xor_chunk.specs.declared.before.BitWindow.{BitWindow}
use Rattle.xor_chunk.specs.declared.before.Before.{Before}
use Rattle.xor_chunk.proofs.Bits.{bits_of-length}
use Rattle.xor_chunk.proofs.Cut.{bits_in-length}
use Rattle.xor_chunk.proofs.Packing.{xor_packed}

either : {A : Type 0} (b : Bool) (x y : List A) (m : ℕ) → length x ≤ m → length y ≤ m → length (cond b x y) ≤ m
either false x y m h k = k
either true x y m h k = h

-- ---- bytes

groups_most : (k n : ℕ) → length (uvarint_in k n) ≤ k + 1
unfolding uvarint_in
groups_most zero n = omega arith
groups_most (suc k) n = either (ltb n 128) (n ∷ []) ((n % 128 + 128) ∷ uvarint_in k (n / 128)) (suc k + 1) (omega arith) (let h = groups_most k (n / 128) in omega (arith, h))

uvarint_most : (n : ℕ) → length (uvarint n) ≤ 10
unfolding uvarint
uvarint_most n = groups_most 9 n

first_most : (a : Sample) → length (first_bytes a) ≤ 18
unfolding first_bytes
first_most a = omega (arith, length-append (varint a.time) (big_bytes 8 (pattern a.value)), uvarint_most_of a, length-bytes_high_first 8 (pattern a.value))
  where
    uvarint_most_of : (s : Sample) → length (varint s.time) ≤ 10
    uvarint_most_of s = uvarint_most _

delta_most : (a b : Sample) → length (delta_bytes a b) ≤ 10
unfolding delta_bytes
delta_most a b = uvarint_most (minus (pattern b.time) (pattern a.time))

head_most : (samples : List Sample) → length (head_bytes samples) ≤ 28
head_most [] = omega arith
head_most (a ∷ []) = omega (arith, first_most a)
head_most (a ∷ b ∷ more) = omega (arith, length-append (first_bytes a) (delta_bytes a b), first_most a, delta_most a b)

-- ---- bits

step_most : (d : ℕ) → length (step_bits d) ≤ 68
unfolding step_bits
step_most d =
    either (eqb d 0) (false ∷ []) _ 68 (omega arith)
    (either (is_near 13 d) (true ∷ false ∷ bits_of 14 (d % 2 ^ 14)) _ 68 (omega (arith, bits_of-length 14 (d % 2 ^ 14)))
    (either (is_near 16 d) (true ∷ true ∷ false ∷ bits_of 17 (d % 2 ^ 17)) _ 68 (omega (arith, bits_of-length 17 (d % 2 ^ 17)))
    (either (is_near 19 d) (true ∷ true ∷ true ∷ false ∷ bits_of 20 (d % 2 ^ 20)) (true ∷ true ∷ true ∷ true ∷ bits_of 64 d) 68 (omega (arith, bits_of-length 20 (d % 2 ^ 20))) (omega (arith, bits_of-length 64 d)))))

within_most : (w : BitWindow) (x : ℕ) → length (within w x) ≤ 64
unfolding within
within_most w x = omega (arith, bits_of-length (width w) (x / 2 ^ w.trailing))

opening_most : (w : BitWindow) → length (opening w) ≤ 13
unfolding opening
opening_most w = omega (arith, length-append (bits_of 5 w.leading) (bits_of 6 (width w % 64)), bits_of-length 5 w.leading, bits_of-length 6 (width w % 64))

changed_most : (o : Option BitWindow) (x : ℕ) → length (changed_bits o x) ≤ 77
unfolding changed_bits
changed_most None x = omega (arith, length-append (opening (opened x)) (within (opened x) x), opening_most (opened x), within_most (opened x) x)
changed_most (Some w) x = omega (arith, within_most w x)

value_most : (o : Option BitWindow) (x : ℕ) → length (value_bits o x) ≤ 77
unfolding value_bits
value_most o x = either (eqb x 0) (false ∷ []) (changed_bits (reused o (opened x)) x) 77 (omega arith) (changed_most (reused o (opened x)) x)

sample_most : (b : Before) (s : Sample) → length (sample_bits b s) ≤ 145
sample_most b s =
    let d : ℕ = minus (minus (pattern s.time) b.time) b.delta in
    let x : ℕ = bit_xor b.value (pattern s.value) in
    omega (arith, length-append (step_bits d) (value_bits b.window x), step_most d, value_most b.window x)

samples_most : (b : Before) (samples : List Sample) → length (samples_bits b samples) ≤ 145 * length samples
unfolding samples_bits
samples_most b [] = omega arith
samples_most b (s ∷ more) = let h = samples_most (after b s) more in omega (arith, length-append (sample_bits b s) (samples_bits (after b s) more), sample_most b s, h)

behind_most : (samples : List Sample) → length samples ≤ 120 → length (behind_head samples) ≤ 17187
behind_most [] few = omega arith
behind_most (a ∷ []) few = omega arith
behind_most (a ∷ b ∷ more) few =
    let x : ℕ = bit_xor (pattern a.value) (pattern b.value) in
    omega (arith, few, length-append (value_bits None x) (samples_bits (second a b) more), value_most None x, samples_most (second a b) more)

-- ---- all of it

count_long : (n : ℕ) → length (count_bytes n) ≡ 2
unfolding count_bytes
count_long n = length-bytes_high_first 2 n

chunk_most : (samples : List Sample) → length samples ≤ 120 → length (chunk_bits samples) ≤ 17427
unfolding chunk_bits
chunk_most samples few =
    let front : List ℕ = count_bytes (length samples) ++ head_bytes samples in
    omega (arith, length-append (bits_in front) (behind_head samples), bits_in-length front, length-append (count_bytes (length samples)) (head_bytes samples), count_long (length samples), head_most samples, behind_most samples few)

pad_most : (whole : Bool) (pad : ℕ) → IsPad whole pad → pad ≤ 8
pad_most false pad h = omega (arith, h)
pad_most true pad h = h.1

pub short : (samples : List Sample) → length samples ≤ 120 → length (xor_text samples) ≤ 2180
short samples few =
    let p = xor_packed samples in
    let zeros : List Bool = replicate p.pad false in
    let long : 8 * length (xor_text samples) ≡ length (chunk_bits samples) + p.pad = sym (bits_in-length (xor_text samples)) ∙ ap length p.filled ∙ length-append (chunk_bits samples) zeros ∙ omega (arith, length-replicate {A = Bool} p.pad false) in
    omega (arith, long, chunk_most samples few, pad_most (is_whole_chunk samples) p.pad p.short)
