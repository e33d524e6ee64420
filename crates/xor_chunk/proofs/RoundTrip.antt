-- What is written is read.
use Rattle.std.proofs.Common.{◌≡◌, ℕ, ◌-◌, ◌≤◌, Bool, false, List, [], ◌∷◌, ◌++◌, Option, Some, None, Result, Ok, Err, refl, sym, ap, ◌∙◌, arith, append_assoc, length, drop, length-append}
use Rattle.std.specs.Prelude.{All, ◌≢◌, OnOk, IfErr, replicate, bit_xor}
use Rattle.std.specs.Int.{w64, cast_signed}
use Rattle.std.proofs.lemmas.Int.{to_z-of_z}
use Rattle.std.proofs.lemmas.List.{drop_at}
use Rattle.std.proofs.lemmas.List.Elements.{All-head, All-tail}
use Rattle.byteorder.specs.Numbers.{big_number-reads_back, length-bytes_high_first}
use Rattle.hw_bytes.specs.Spellings.{IsBytes}
use Rattle.hw_bytes.specs.Reading.{uvarint_at, varint_at}
use Rattle.hw_bytes.specs.Writing.{big_bytes, big_number, uvarint, varint}
use Rattle.hw_bytes.proofs.Codes.{bytes_append}
use Rattle.hw_bytes.proofs.Fixed.{fixed_shortest}
use Rattle.hw_bytes.proofs.Groups.{uvarint_at-again}
use Rattle.hw_bytes.proofs.Varints.{varint_at-again}
use Rattle.hw_bytes.proofs.Shortest.{uvarint_shortest, varint_shortest}
use Rattle.xor_chunk.specs.Bits.{bits_in}
use Rattle.xor_chunk.specs.Samples.{IsFit}
use Rattle.xor_chunk.specs.Chunks.{pattern, plus, minus, second, value_bits, window_after, samples_bits, tail_bits, count_bytes, first_bytes, delta_bytes, head_bytes, behind_head, chunk_bits, xor_text, IsXorChunk}
use Rattle.xor_chunk.specs.Reading.{sample_of, samples_at, tail_at, second_at, first_at, unpacked}
use Rattle.xor_chunk.specs.declared.sample.Sample.{Sample}
use Rattle.xor_chunk.specs.declared.before.BitWindow.{BitWindow}
use Rattle.xor_chunk.specs.declared.fault.XorFault.{XorFault}
use Rattle.xor_chunk.specs.declared.fault.XorFault.TheVariants.{Memory}
use Rattle.xor_chunk.proofs.Cut.{cut_front}
use Rattle.xor_chunk.proofs.Packing.{xor_packed, xor_small}
use Rattle.xor_chunk.proofs.Front.{tail_found, second_one, second_more, first_none, first_more, unpacked_more}
use Rattle.xor_chunk.proofs.Rounds.{IsBefore, plus_minus, minus_small, pattern_small, value_round, sample_back, samples_round}

-- ---- the bytes in front

first_small : (a : Sample) → IsFit a → IsBytes (first_bytes a)
unfolding first_bytes
first_small a fit = bytes_append (varint a.time) (big_bytes 8 (pattern a.value)) (varint_shortest a.time fit.time).small (fixed_shortest 8 (pattern a.value) (pattern_small a.value fit.value)).small

delta_small : (a b : Sample) → IsBytes (delta_bytes a b)
unfolding delta_bytes
delta_small a b = (uvarint_shortest (minus (pattern b.time) (pattern a.time)) (minus_small (pattern a.time) (pattern b.time))).small

pub count_small : (n : ℕ) → n ≤ 65535 → IsBytes (count_bytes n)
unfolding count_bytes
count_small n h = (fixed_shortest 2 n (omega arith)).small

pub head_small : (samples : List Sample) → All IsFit samples → IsBytes (head_bytes samples)
head_small [] fit = λ i. omega arith
head_small (a ∷ []) fit = first_small a (All-head IsFit a [] fit)
head_small (a ∷ b ∷ more) fit = bytes_append (first_bytes a) (delta_bytes a b) (first_small a (All-head IsFit a (b ∷ more) fit)) (delta_small a b)

-- ---- each is read back

pub count_back : (n : ℕ) (rest : List ℕ) → n ≤ 65535 → n ≡ big_number 2 (count_bytes n ++ rest)
unfolding count_bytes
count_back n rest h = sym (big_number-reads_back 2 n rest (omega arith))

pub count_drop : (n : ℕ) (rest : List ℕ) → rest ≡ drop 2 (count_bytes n ++ rest)
unfolding count_bytes
count_drop n rest = sym (drop_at (big_bytes 2 n) rest 2 (length-bytes_high_first 2 n))

count_length : (n : ℕ) → length (count_bytes n) ≡ 2
unfolding count_bytes
count_length n = length-bytes_high_first 2 n

first_round : (count : ℕ) (a : Sample) (rest : List ℕ) → (count ≡ 0 → ⊥) → IsFit a → first_at count (first_bytes a ++ rest) ≡ second_at count a rest
unfolding first_bytes
first_round count a rest some fit =
    let t : List ℕ = varint a.time in
    let v : List ℕ = big_bytes 8 (pattern a.value) in
    let parts : (t ++ v) ++ rest ≡ t ++ (v ++ rest) = append_assoc t v rest in
    let time : Some (a.time, length t) ≡ varint_at (t ++ (v ++ rest)) = sym (varint_at-again t (v ++ rest) a.time (varint_shortest a.time fit.time).spelled) in
    let behind : v ++ rest ≡ drop (length t) (t ++ (v ++ rest)) = sym (drop_at t (v ++ rest) (length t) refl) in
    let eight : length v ≡ 8 = length-bytes_high_first 8 (pattern a.value) in
    let long : 8 ≤ length (v ++ rest) = omega (arith, length-append v rest, eight) in
    let value : pattern a.value ≡ big_number 8 (v ++ rest) = sym (big_number-reads_back 8 (pattern a.value) rest (pattern_small a.value fit.value)) in
    let same : a.value ≡ cast_signed w64 (pattern a.value) = sym (to_z-of_z w64 a.value fit.value) in
    let after : rest ≡ drop 8 (v ++ rest) = sym (drop_at v rest 8 eight) in
    ap (first_at count) parts ∙ sym (first_more count (t ++ (v ++ rest)) (v ++ rest) rest a.time a.value (length t) (pattern a.value) some time behind long value same after)

second_round : (count : ℕ) (a b : Sample) (back : List ℕ) → (count ≡ 1 → ⊥) → second_at count a (delta_bytes a b ++ back) ≡ tail_at count a (minus (pattern b.time) (pattern a.time)) (bits_in back)
unfolding delta_bytes
second_round count a b back more =
    let d : ℕ = minus (pattern b.time) (pattern a.time) in
    let is : Some (d, length (uvarint d)) ≡ uvarint_at (uvarint d ++ back) = sym (uvarint_at-again (uvarint d) back d (uvarint_shortest d (minus_small (pattern a.time) (pattern b.time))).spelled) in
    sym (second_more count a (uvarint d ++ back) back d (length (uvarint d)) more is (sym (drop_at (uvarint d) back (length (uvarint d)) refl)))

tail_round : (a b : Sample) (more : List Sample) (zeros : List Bool) → IsFit a → IsFit b → All IsFit more
    → tail_at (length (a ∷ b ∷ more)) a (minus (pattern b.time) (pattern a.time)) (tail_bits a b more ++ zeros) ≡ Ok (a ∷ b ∷ more)
tail_round a b more zeros fa fb fit =
    let ta : ℕ = pattern a.time in
    let tb : ℕ = pattern b.time in
    let va : ℕ = pattern a.value in
    let vb : ℕ = pattern b.value in
    let d : ℕ = minus tb ta in
    let o : Option BitWindow = window_after None (bit_xor va vb) in
    let bits : List Bool = value_bits None (bit_xor va vb) in
    let rest : List Bool = samples_bits (second a b) more ++ zeros in
    let count : ℕ = length (a ∷ b ∷ more) in
    let parts : (bits ++ samples_bits (second a b) more) ++ zeros ≡ bits ++ rest = append_assoc bits (samples_bits (second a b) more) zeros in
    let value = sym (value_round None va vb rest (pattern_small a.value fa.value) (pattern_small b.value fb.value)) in
    let time : plus ta d ≡ tb = plus_minus ta tb (pattern_small a.time fa.time) (pattern_small b.time fb.time) in
    let left : count - 2 ≡ length more = omega arith in
    let before : IsBefore (second a b) = record { time = pattern_small b.time fb.time; value = pattern_small b.value fb.value; delta = minus_small ta tb } in
    ap (tail_at count a d) parts ∙ sym (tail_found count a d vb o (bits ++ rest) rest value)
    ∙ ap (λ (n : ℕ). samples_at (count - 2) (a ∷ sample_of (record { time = n; value = vb; delta = d; window = o }) ∷ []) (record { time = n; value = vb; delta = d; window = o }) rest) time
    ∙ ap (λ (x : Sample). samples_at (count - 2) (a ∷ x ∷ []) (second a b) rest) (sample_back b (second a b) fb refl refl)
    ∙ ap (λ (n : ℕ). samples_at n (a ∷ b ∷ []) (second a b) rest) left
    ∙ samples_round more (a ∷ b ∷ []) (second a b) zeros before fit

pub head_round : (samples : List Sample) (back : List ℕ) (zeros : List Bool) → All IsFit samples → bits_in back ≡ behind_head samples ++ zeros → first_at (length samples) (head_bytes samples ++ back) ≡ Ok samples
head_round [] back zeros fit e = first_none 0 back refl
head_round (a ∷ []) back zeros fit e = first_round 1 a back (λ h. omega (arith, h)) (All-head IsFit a [] fit) ∙ second_one 1 a back refl
head_round (a ∷ b ∷ more) back zeros fit e =
    let count : ℕ = length (a ∷ b ∷ more) in
    let rest = All-tail IsFit a (b ∷ more) fit in
    let fa = All-head IsFit a (b ∷ more) fit in
    let fb = All-head IsFit b more rest in
    ap (first_at count) (append_assoc (first_bytes a) (delta_bytes a b) back) ∙ first_round count a (delta_bytes a b ++ back) (λ h. omega (arith, h)) fa
    ∙ second_round count a b back (λ h. omega (arith, h)) ∙ ap (tail_at count a (minus (pattern b.time) (pattern a.time))) e ∙ tail_round a b more zeros fa fb (All-tail IsFit b more rest)

pub round_trip : (samples : List Sample) → length samples ≤ 65535 → All IsFit samples → unpacked (xor_text samples) ≡ Ok samples
unfolding chunk_bits
round_trip samples few fit =
    let n : ℕ = length samples in
    let text : List ℕ = xor_text samples in
    let packed = xor_packed samples in
    let front : List ℕ = count_bytes n ++ head_bytes samples in
    let zeros : List Bool = replicate packed.pad false in
    let small : IsBytes front = bytes_append (count_bytes n) (head_bytes samples) (count_small n few) (head_small samples fit) in
    let cut = cut_front front text (behind_head samples ++ zeros) small (xor_small samples) (packed.filled ∙ append_assoc (bits_in front) (behind_head samples) zeros) in
    let behind : List ℕ = head_bytes samples ++ cut.back in
    let parts : text ≡ count_bytes n ++ behind = cut.whole ∙ append_assoc (count_bytes n) (head_bytes samples) cut.back in
    let long : 2 ≤ length (count_bytes n ++ behind) = omega (arith, length-append (count_bytes n) behind, count_length n) in
    ap unpacked parts ∙ sym (unpacked_more (count_bytes n ++ behind) behind n long (count_back n behind few) (count_drop n behind)) ∙ head_round samples cut.back zeros fit cut.behind

pub one_list : (a b : List Sample) → length a ≤ 65535 → length b ≤ 65535 → All IsFit a → All IsFit b → xor_text a ≡ xor_text b → a ≡ b
one_list a b few less fit also same = let h = round_trip a few fit in let k = round_trip b less also in let e = ap unpacked same in cc

pub chunk_read : (text : List ℕ) (all : List Sample) → All IsFit all → IsXorChunk text all → unpacked text ≡ Ok all
chunk_read text all fit h = ap unpacked h.is ∙ round_trip all h.few fit

pub only_samples : (text : List ℕ) (samples all : List Sample) → All IsFit all → IsXorChunk text all → unpacked text ≡ Ok samples → samples ≡ all
only_samples text samples all fit h e = let r = chunk_read text all fit h in cc

pub no_samples : (text : List ℕ) (all : List Sample) (fault : XorFault) → All IsFit all → IsXorChunk text all → unpacked text ≡ Err fault → ⊥
no_samples text all fault fit h e = let r = chunk_read text all fit h in cc

-- ---- what functions return

pub only_ok : {A E : Type 0} (r : Result A E) (text : List ℕ) (samples all : List Sample) → All IsFit all → IsXorChunk text all → OnOk r (unpacked text ≡ Ok samples) → OnOk r (samples ≡ all)
only_ok (Err e) text samples all fit h p = p
only_ok (Ok a) text samples all fit h p = only_samples text samples all fit h p

pub bad_err : {A : Type 0} (r : Result A XorFault) (text : List ℕ) → IfErr r (λ fault. fault ≢ Memory → unpacked text ≡ Err fault) → IfErr r (λ fault. fault ≢ Memory → (all : List Sample) → All IsFit all → IsXorChunk text all → ⊥)
bad_err (Err e) text p = λ other all fit h. no_samples text all e fit h (p other)
bad_err (Ok a) text p = p
