-- What the decoder takes of the whole bytes in front.
use Rattle.std.proofs.Common.{◌≡◌, ℕ, ◌-◌, ◌<◌, ◌≤◌, Bool, true, false, eqb, ltb, List, [], ◌∷◌, ◌++◌, Option, Some, None, Result, Ok, Err, refl, sym, ap, ◌∙◌, length, take, drop}
use Rattle.std.specs.Prelude.{ℤ, FitsSigned, ◌≢◌, OnOk, IfErr}
use Rattle.std.specs.Int.{w64, cast_signed, cast_unsigned}
use Rattle.std.proofs.lemmas.Int.{to_z-of_z}
use Rattle.std.proofs.lemmas.Bool.{eq-eqb, ne_eqb, lt-ltb, le-ltb}
use Rattle.std.proofs.lemmas.List.{length-take-le, take-append-drop}
use Rattle.hw_bytes.specs.Spellings.{IsAt, IsNowhere}
use Rattle.hw_bytes.specs.Numbers.{IsUvarint, IsVarint}
use Rattle.hw_bytes.specs.Reading.{uvarint_at, varint_at}
use Rattle.hw_bytes.specs.Writing.{big_number}
use Rattle.hw_bytes.proofs.Groups.{uvarint_at-found, uvarint_at-again}
use Rattle.hw_bytes.proofs.Varints.{varint_at-found, varint_at-again}
use Rattle.xor_chunk.specs.Bits.{bits_in}
use Rattle.xor_chunk.specs.Chunks.{pattern}
use Rattle.xor_chunk.specs.Reading.{or_bad, ◌>>=◌, value_at, sample_of, samples_at, second_of, tail_at, second_at, value_behind, first_at, unpacked}
use Rattle.xor_chunk.specs.declared.sample.Sample.{Sample}
use Rattle.xor_chunk.specs.declared.before.BitWindow.{BitWindow}
use Rattle.xor_chunk.specs.declared.fault.XorFault.{XorFault}
use Rattle.xor_chunk.specs.declared.fault.XorFault.TheVariants.{TooShort, BadNumber, Memory}

-- ---- a number that is there is the one that is read

at_is : {X : Type 0} (P : List ℕ → X → Type 0) (read : List ℕ → Option (X × ℕ)) (again : (front rest : List ℕ) (x : X) → P front x → read (front ++ rest) ≡ Some (x, length front)) (bytes : List ℕ) (x : X) (len : ℕ)
    → IsAt P bytes x len → Some (x, len) ≡ read bytes
at_is P read again bytes x len h =
    sym (ap read (sym (take-append-drop len bytes)) ∙ again (take len bytes) (drop len bytes) x h.spelled ∙ ap (λ (n : ℕ). Some (x, n)) (length-take-le len bytes h.within))

nowhere_by : {X : Type 0} (P : List ℕ → X → Type 0) (read : List ℕ → Option (X × ℕ)) (found : (bytes : List ℕ) (x : X × ℕ) → read bytes ≡ Some x → IsAt P bytes x.0 x.1) (bytes : List ℕ) (o : Option (X × ℕ))
    → IsNowhere P bytes → read bytes ≡ o → None ≡ o
nowhere_by P read found bytes None h e = refl
nowhere_by P read found bytes (Some x) h e = absurd (h (take x.1 bytes) (drop x.1 bytes) x.0 (found bytes x e).spelled (sym (take-append-drop x.1 bytes)))

pub uvarint_is : (bytes : List ℕ) (n len : ℕ) → IsAt IsUvarint bytes n len → Some (n, len) ≡ uvarint_at bytes
uvarint_is bytes n len h = at_is IsUvarint uvarint_at uvarint_at-again bytes n len h

pub uvarint_none : (bytes : List ℕ) → IsNowhere IsUvarint bytes → None ≡ uvarint_at bytes
uvarint_none bytes h = nowhere_by IsUvarint uvarint_at uvarint_at-found bytes (uvarint_at bytes) h refl

pub varint_is : (bytes : List ℕ) (z : ℤ) (len : ℕ) → IsAt IsVarint bytes z len → Some (z, len) ≡ varint_at bytes
varint_is bytes z len h = at_is IsVarint varint_at varint_at-again bytes z len h

pub varint_none : (bytes : List ℕ) → IsNowhere IsVarint bytes → None ≡ varint_at bytes
varint_none bytes h = nowhere_by IsVarint varint_at varint_at-found bytes (varint_at bytes) h refl

-- ---- the second time and the bits after it

pub tail_bad : (count : ℕ) (first : Sample) (delta : ℕ) (bits : List Bool) (fault : XorFault) → Err fault ≡ value_at None (pattern first.value) bits → tail_at count first delta bits ≡ Err fault
unfolding tail_at
tail_bad count first delta bits fault e = sym (ap (λ (r : Result (ℕ × Option BitWindow × List Bool) XorFault). r >>= λ value. samples_at (count - 2) (first ∷ sample_of (second_of (pattern first.time) delta value.0 value.1) ∷ []) (second_of (pattern first.time) delta value.0 value.1) value.2) e)

pub tail_found : (count : ℕ) (first : Sample) (delta v : ℕ) (o : Option BitWindow) (bits new : List Bool) → Ok (v, o, new) ≡ value_at None (pattern first.value) bits
    → samples_at (count - 2) (first ∷ sample_of (second_of (pattern first.time) delta v o) ∷ []) (second_of (pattern first.time) delta v o) new ≡ tail_at count first delta bits
unfolding tail_at
tail_found count first delta v o bits new e = ap (λ (r : Result (ℕ × Option BitWindow × List Bool) XorFault). r >>= λ value. samples_at (count - 2) (first ∷ sample_of (second_of (pattern first.time) delta value.0 value.1) ∷ []) (second_of (pattern first.time) delta value.0 value.1) value.2) e

pub second_one : (count : ℕ) (first : Sample) (bytes : List ℕ) → count ≡ 1 → second_at count first bytes ≡ Ok (first ∷ [])
unfolding second_at
second_one count first bytes h = let is : eqb count 1 ≡ true = eq-eqb count 1 h in rw is refl

pub second_bad : (count : ℕ) (first : Sample) (bytes : List ℕ) → (count ≡ 1 → ⊥) → None ≡ uvarint_at bytes → second_at count first bytes ≡ Err BadNumber
unfolding second_at
second_bad count first bytes h e =
    let is : eqb count 1 ≡ false = ne_eqb count 1 h in
    rw is (sym (ap (λ (r : Option (ℕ × ℕ)). or_bad r >>= λ delta. tail_at count first delta.0 (bits_in (drop delta.1 bytes))) e))

pub second_more : (count : ℕ) (first : Sample) (bytes rest : List ℕ) (delta len : ℕ) → (count ≡ 1 → ⊥) → Some (delta, len) ≡ uvarint_at bytes → rest ≡ drop len bytes → tail_at count first delta (bits_in rest) ≡ second_at count first bytes
unfolding second_at
second_more count first bytes rest delta len h e f =
    let is : eqb count 1 ≡ false = ne_eqb count 1 h in
    rw is (ap (λ (bs : List ℕ). tail_at count first delta (bits_in bs)) f ∙ ap (λ (r : Option (ℕ × ℕ)). or_bad r >>= λ x. tail_at count first x.0 (bits_in (drop x.1 bytes))) e)

-- ---- the first sample

pub first_none : (count : ℕ) (bytes : List ℕ) → count ≡ 0 → first_at count bytes ≡ Ok []
unfolding first_at
first_none count bytes h = let is : eqb count 0 ≡ true = eq-eqb count 0 h in rw is refl

pub first_bad : (count : ℕ) (bytes : List ℕ) → (count ≡ 0 → ⊥) → None ≡ varint_at bytes → first_at count bytes ≡ Err BadNumber
unfolding first_at
first_bad count bytes h e =
    let is : eqb count 0 ≡ false = ne_eqb count 0 h in
    rw is (sym (ap (λ (r : Option (ℤ × ℕ)). or_bad r >>= λ time. value_behind count time.0 (drop time.1 bytes)) e))

first_found : (count : ℕ) (bytes behind : List ℕ) (time : ℤ) (len : ℕ) → (count ≡ 0 → ⊥) → Some (time, len) ≡ varint_at bytes → behind ≡ drop len bytes → value_behind count time behind ≡ first_at count bytes
unfolding first_at
first_found count bytes behind time len h e f =
    let is : eqb count 0 ≡ false = ne_eqb count 0 h in
    rw is (ap (value_behind count time) f ∙ ap (λ (r : Option (ℤ × ℕ)). or_bad r >>= λ x. value_behind count x.0 (drop x.1 bytes)) e)

value_short : (count : ℕ) (time : ℤ) (bytes : List ℕ) → length bytes < 8 → value_behind count time bytes ≡ Err TooShort
unfolding value_behind
value_short count time bytes h = let is : ltb (length bytes) 8 ≡ true = lt-ltb (length bytes) 8 h in rw is refl

value_found : (count : ℕ) (time : ℤ) (bytes : List ℕ) → 8 ≤ length bytes → value_behind count time bytes ≡ second_at count (record { time = time; value = cast_signed w64 (big_number 8 bytes) }) (drop 8 bytes)
unfolding value_behind
value_found count time bytes h = let is : ltb (length bytes) 8 ≡ false = le-ltb (length bytes) 8 h in rw is refl

pub first_short : (count : ℕ) (bytes behind : List ℕ) (time : ℤ) (len : ℕ) → (count ≡ 0 → ⊥) → Some (time, len) ≡ varint_at bytes → behind ≡ drop len bytes → length behind < 8 → first_at count bytes ≡ Err TooShort
first_short count bytes behind time len h e f s = sym (first_found count bytes behind time len h e f) ∙ value_short count time behind s

pub first_more : (count : ℕ) (bytes behind rest : List ℕ) (time value : ℤ) (len n : ℕ) → (count ≡ 0 → ⊥) → Some (time, len) ≡ varint_at bytes → behind ≡ drop len bytes → 8 ≤ length behind → n ≡ big_number 8 behind → value ≡ cast_signed w64 n
    → rest ≡ drop 8 behind → second_at count (record { time = time; value = value }) rest ≡ first_at count bytes
first_more count bytes behind rest time value len n h e f s is w r =
    ap (λ (bs : List ℕ). second_at count (record { time = time; value = value }) bs) r ∙ ap (λ (v : ℤ). second_at count (record { time = time; value = v }) (drop 8 behind)) (w ∙ ap (cast_signed w64) is)
    ∙ sym (value_found count time behind s) ∙ first_found count bytes behind time len h e f

pub unpacked_short : (bytes : List ℕ) → length bytes < 2 → unpacked bytes ≡ Err TooShort
unfolding unpacked
unpacked_short bytes h = let is : ltb (length bytes) 2 ≡ true = lt-ltb (length bytes) 2 h in rw is refl

pub unpacked_more : (bytes behind : List ℕ) (n : ℕ) → 2 ≤ length bytes → n ≡ big_number 2 bytes → behind ≡ drop 2 bytes → first_at n behind ≡ unpacked bytes
unfolding unpacked
unpacked_more bytes behind n h e f =
    let is : ltb (length bytes) 2 ≡ false = le-ltb (length bytes) 2 h in
    rw is (ap (λ (bs : List ℕ). first_at n bs) f ∙ ap (λ (m : ℕ). first_at m (drop 2 bytes)) e)

-- ---- what functions return

pub found_by : {A E : Type 0} (r : Result A E) (x y z : Result (List Sample) XorFault) → x ≡ y → OnOk r (x ≡ z) → OnOk r (y ≡ z)
found_by (Err e) x y z h p = p
found_by (Ok a) x y z h p = sym h ∙ p

pub fault_by : {A : Type 0} (r : Result A XorFault) (x y : Result (List Sample) XorFault) → x ≡ y → IfErr r (λ fault. fault ≢ Memory → x ≡ Err fault) → IfErr r (λ fault. fault ≢ Memory → y ≡ Err fault)
fault_by (Err e) x y h p = λ other. sym h ∙ p other
fault_by (Ok a) x y h p = p

-- a sample that the code copies
pub plain_sample : (t v : ℤ) → FitsSigned w64 t → FitsSigned w64 v → ◌≡◌ {A = Sample} (record { time = cast_signed w64 (cast_unsigned w64 t); value = cast_signed w64 (cast_unsigned w64 v) }) (record { time = t; value = v })
plain_sample t v f g = let p = to_z-of_z w64 t f in let q = to_z-of_z w64 v g in rw (p, q) refl
