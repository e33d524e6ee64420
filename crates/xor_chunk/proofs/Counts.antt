-- Bytes are read as at most 65,535 samples.
use Rattle.std.proofs.Common.{◌≡◌, ℕ, zero, suc, ◌+◌, ◌-◌, ◌≤◌, Bool, true, false, cond, eqb, ltb, List, [], ◌∷◌, ◌++◌, None, Result, Ok, Err, subst, arith, length, length-append, drop}
use Rattle.std.specs.Result.{IfOk}
use Rattle.std.specs.Prelude.{ℤ}
use Rattle.std.specs.Int.{w64, cast_signed}
use Rattle.byteorder.specs.Numbers.{big_from-lt}
use Rattle.hw_bytes.specs.Spellings.{IsBytes}
use Rattle.hw_bytes.specs.Reading.{uvarint_at, varint_at}
use Rattle.hw_bytes.specs.Writing.{big_number}
use Rattle.xor_chunk.specs.Bits.{bits_in}
use Rattle.xor_chunk.specs.Chunks.{pattern}
use Rattle.xor_chunk.specs.Reading.{or_bad, ◌>>=◌, value_at, sample_at, sample_of, samples_at, second_of, tail_at, second_at, value_behind, first_at, unpacked}
use Rattle.xor_chunk.specs.declared.sample.Sample.{Sample}
use Rattle.xor_chunk.specs.declared.before.Before.{Before}
use Rattle.xor_chunk.specs.declared.fault.XorFault.{XorFault}

abbrev IsFew : Result (List Sample) XorFault → Type 0
IsFew r = IfOk r (λ samples. length samples ≤ 65535)

then_few : {A : Type 0} (r : Result A XorFault) (f : A → Result (List Sample) XorFault) → ((x : A) → IsFew (f x)) → IsFew (r >>= f)
then_few (Err fault) f h = tt
then_few (Ok x) f h = h x

either_few : (b : Bool) (x y : Result (List Sample) XorFault) → IsFew x → IsFew y → IsFew (cond b x y)
either_few false x y h k = k
either_few true x y h k = h

samples_few : (n : ℕ) (read : List Sample) (b : Before) (bits : List Bool) → length read + n ≤ 65535 → IsFew (samples_at n read b bits)
unfolding samples_at
samples_few zero read b bits h = omega (arith, h)
samples_few (suc n) read b bits h =
    then_few (sample_at b bits) (λ x. samples_at n (read ++ sample_of x.0 ∷ []) x.0 x.1) (λ x. samples_few n (read ++ sample_of x.0 ∷ []) x.0 x.1 (omega (arith, length-append read (sample_of x.0 ∷ []), h)))

tail_few : (count : ℕ) (first : Sample) (delta : ℕ) (bits : List Bool) → count ≤ 65535 → IsFew (tail_at count first delta bits)
unfolding tail_at
tail_few count first delta bits h =
    then_few (value_at None (pattern first.value) bits) _ (λ value. samples_few (count - 2) (first ∷ sample_of (second_of (pattern first.time) delta value.0 value.1) ∷ []) (second_of (pattern first.time) delta value.0 value.1) value.2 (omega (arith, h)))

second_few : (count : ℕ) (first : Sample) (bytes : List ℕ) → count ≤ 65535 → IsFew (second_at count first bytes)
unfolding second_at
second_few count first bytes h =
    either_few (eqb count 1) (Ok (first ∷ [])) _ (omega arith) (then_few (or_bad (uvarint_at bytes)) (λ delta. tail_at count first delta.0 (bits_in (drop delta.1 bytes))) (λ delta. tail_few count first delta.0 (bits_in (drop delta.1 bytes)) h))

value_few : (count : ℕ) (time : ℤ) (bytes : List ℕ) → count ≤ 65535 → IsFew (value_behind count time bytes)
unfolding value_behind
value_few count time bytes h = either_few (ltb (length bytes) 8) _ _ tt (second_few count (record { time = time; value = cast_signed w64 (big_number 8 bytes) }) (drop 8 bytes) h)

first_few : (count : ℕ) (bytes : List ℕ) → count ≤ 65535 → IsFew (first_at count bytes)
unfolding first_at
first_few count bytes h =
    either_few (eqb count 0) (Ok []) _ (omega arith) (then_few (or_bad (varint_at bytes)) (λ time. value_behind count time.0 (drop time.1 bytes)) (λ time. value_few count time.0 (drop time.1 bytes) h))

all_few : (bytes : List ℕ) → IsBytes bytes → IsFew (unpacked bytes)
unfolding unpacked
all_few bytes small = let h = big_from-lt 0 2 bytes small in either_few (ltb (length bytes) 2) _ _ tt (first_few (big_number 2 bytes) (drop 2 bytes) (omega (arith, h)))

pub unpacked_few : (bytes : List ℕ) (samples : List Sample) → IsBytes bytes → unpacked bytes ≡ Ok samples → length samples ≤ 65535
unpacked_few bytes samples small is = subst IsFew is (all_few bytes small)
