-- A time and a sample at the front of some bytes.
use Rattle.std.proofs.Common.{◌≡◌, ℕ, ◌+◌, ◌<◌, List, ◌++◌, length, take, drop, Option, Some, None, IfNone, refl, sym, ap, subst, ◌∙◌, arith, append_assoc, lit<}
use Rattle.std.specs.Prelude.{ℤ, pos, negsuc, ◌+ℤ◌, ◌-ℤ◌, ◌<ℤ◌, unsigned_abs, FitsSigned}
use Rattle.std.specs.Int.{w64, cast_signed, cast_unsigned}
use Rattle.std.proofs.lemmas.Int.{ints, to_z-of_z, of_z-to_z}
use Rattle.std.proofs.lemmas.List.{length-append, length-drop}
use Rattle.hw_bytes.specs.Spellings.{IsAt, IsNowhere, IsCode}
use Rattle.hw_bytes.specs.Numbers.{IsFixed, IsUvarint, IsVarint}
use Rattle.hw_bytes.proofs.Codes.{after, take_then}
use Rattle.hw_bytes.proofs.Fixed.{fixed_code}
use Rattle.hw_bytes.proofs.Groups.{uvarint_code}
use Rattle.hw_bytes.proofs.Varints.{varint_code}
use Rattle.xor_chunk.specs.declared.sample.Sample.{Sample}
use Rattle.head_column.specs.Reading.{IsStep, IsTime, IsSample}

fixed_eight : IsCode (IsFixed 8)
fixed_eight = fixed_code 8 (lit< tt)

-- ---- the difference of two times

apart_pos : (before time : ℤ) (n : ℕ) → time ≡ before +ℤ pos n → unsigned_abs (time -ℤ before) ≡ n
apart_pos before time n e = (let d : time -ℤ before ≡ pos n = omega (arith, ints, e) in ap unsigned_abs d)

apart : (before time : ℤ) → before <ℤ time → time ≡ before +ℤ pos (unsigned_abs (time -ℤ before))
apart before time h = by (time -ℤ before) refl
  where
    by : (d : ℤ) → time -ℤ before ≡ d → time ≡ before +ℤ pos (unsigned_abs d)
    by (pos n) e = omega (arith, ints, e)
    by (negsuc n) e = absurd (omega (arith, ints, e, h))

-- ---- a time after another

step_code : (before : ℤ) → IsCode (IsStep before)
step_code before = record {
  one = λ f r g s x y p q e. (
      let a = uvarint_code.one f r g s (unsigned_abs (x -ℤ before)) (unsigned_abs (y -ℤ before)) p.spelled q.spelled e in
      (apart before x p.past ∙ ap (λ (n : ℕ). before +ℤ pos n) a.0 ∙ sym (apart before y q.past), a.1)
      );
  some = λ front x h. uvarint_code.some front (unsigned_abs (x -ℤ before)) h.spelled;
}

pub step_at : (before : ℤ) (bytes : List ℕ) (n len : ℕ) (time : ℤ) → IsAt IsUvarint bytes n len → (n ≡ 0 → ⊥) → FitsSigned w64 time → time ≡ before +ℤ pos n → IsAt (IsStep before) bytes time len
step_at before bytes n len time at some fits e = record {
  within = at.within;
  spelled = record {
    spelled = subst (IsUvarint (take len bytes)) (sym (apart_pos before time n e)) at.spelled;
    past = omega (arith, ints, e, some);
    fits = fits;
  };
}

pub step_none : (before : ℤ) (bytes : List ℕ) → IsNowhere IsUvarint bytes → IsNowhere (IsStep before) bytes
step_none before bytes none front rest x p e = none front rest (unsigned_abs (x -ℤ before)) p.spelled e

-- the time that a number found in front would make
only_time : (before : ℤ) (bytes front rest : List ℕ) (n len : ℕ) (x : ℤ) → IsAt IsUvarint bytes n len → IsStep before front x → bytes ≡ front ++ rest → x ≡ before +ℤ pos n
only_time before bytes front rest n len x at p e =
    let a = after IsUvarint uvarint_code.one bytes front rest n (unsigned_abs (x -ℤ before)) len at p.spelled e in
    apart before x p.past ∙ ap (λ (k : ℕ). before +ℤ pos k) (sym a.0)

pub step_zero : (before : ℤ) (bytes : List ℕ) (n len : ℕ) → IsAt IsUvarint bytes n len → n ≡ 0 → IsNowhere (IsStep before) bytes
step_zero before bytes n len at zero front rest x p e = (let is = only_time before bytes front rest n len x at p e in omega (arith, ints, is, zero, p.past))

pub step_far : (before : ℤ) (bytes : List ℕ) (n len : ℕ) → IsAt IsUvarint bytes n len → (FitsSigned w64 (before +ℤ pos n) → ⊥) → IsNowhere (IsStep before) bytes
step_far before bytes n len at far front rest x p e = far (subst (FitsSigned w64) (only_time before bytes front rest n len x at p e) p.fits)

pub time_code : (before : Option ℤ) → IsCode (IsTime before)
time_code None = varint_code
time_code (Some before) = step_code before

-- ---- a sample

value_is : (x y : ℤ) → FitsSigned w64 x → FitsSigned w64 y → cast_unsigned w64 x ≡ cast_unsigned w64 y → x ≡ y
value_is x y f g e = sym (to_z-of_z w64 x f) ∙ ap (cast_signed w64) e ∙ to_z-of_z w64 y g

same_sample : (s t : Sample) → s.time ≡ t.time → s.value ≡ t.value → s ≡ t
same_sample s t p q = ap (λ (a : ℤ). record { time = a; value = s.value }) p ∙ ap (λ (a : ℤ). record { time = t.time; value = a }) q

two : (a b more front : List ℕ) → front ≡ a ++ b → front ++ more ≡ a ++ (b ++ more)
two a b more front e = ap (λ (t : List ℕ). t ++ more) e ∙ append_assoc a b more

pub sample_code : (before : Option ℤ) → IsCode (IsSample before)
sample_code before = record {
  one = λ f r g s x y p q e. (
      let whole = sym (two p.time_bytes p.value_bytes r f p.whole) ∙ e ∙ two q.time_bytes q.value_bytes s g q.whole in
      let a = (time_code before).one p.time_bytes (p.value_bytes ++ r) q.time_bytes (q.value_bytes ++ s) x.time y.time p.time q.time whole in
      let b = fixed_eight.one p.value_bytes r q.value_bytes s (cast_unsigned w64 x.value) (cast_unsigned w64 y.value) p.value q.value a.1 in
      (same_sample x y a.0 (value_is x.value y.value p.fits q.fits b.0), b.1)
      );
  some = λ front x h. omega (arith, ap length h.whole, length-append h.time_bytes h.value_bytes, (time_code before).some h.time_bytes x.time h.time);
}

pub sample_at : (before : Option ℤ) (bytes second : List ℕ) (s : Sample) (bits len : ℕ) → IsAt (IsTime before) bytes s.time len → second ≡ drop len bytes → IsAt (IsFixed 8) second bits 8
    → s.value ≡ cast_signed w64 bits → FitsSigned w64 s.value → IsAt (IsSample before) bytes s (len + 8)
sample_at before bytes second s bits len a i b is fits =
    let same : cast_unsigned w64 s.value ≡ bits = ap (cast_unsigned w64) is ∙ of_z-to_z w64 bits (omega (arith, b.spelled.1)) in
    record {
      within = omega (arith, a.within, b.within, ap length i, length-drop len bytes);
      spelled = record {
        time_bytes = take len bytes;
        value_bytes = take 8 second;
        time = a.spelled;
        value = subst (IsFixed 8 (take 8 second)) (sym same) b.spelled;
        fits = fits;
        whole = take_then len 8 bytes ∙ ap (λ (t : List ℕ). take len bytes ++ take 8 t) (sym i);
      };
    }

pub sample_no_time : (before : Option ℤ) (bytes : List ℕ) → IsNowhere (IsTime before) bytes → IsNowhere (IsSample before) bytes
sample_no_time before bytes none front rest s p e = none p.time_bytes (p.value_bytes ++ rest) s.time p.time (e ∙ two p.time_bytes p.value_bytes rest front p.whole)

pub sample_no_value : (before : Option ℤ) (bytes second : List ℕ) (time : ℤ) (len : ℕ) → IsAt (IsTime before) bytes time len → second ≡ drop len bytes → length second < 8 → IsNowhere (IsSample before) bytes
sample_no_value before bytes second time len a i short front rest s p e =
    let next = after (IsTime before) (time_code before).one bytes p.time_bytes (p.value_bytes ++ rest) time s.time len a p.time (e ∙ two p.time_bytes p.value_bytes rest front p.whole) in
    omega (arith, short, ap length i, ap length next.1, length-append p.value_bytes rest, ap length p.value.0)

-- ---- what the functions at the front promise

pub varint_fits : (bytes : List ℕ) (z : ℤ) → IsVarint bytes z → FitsSigned w64 z
varint_fits bytes (pos n) h = record { sfits = omega (arith, h.fits) }
varint_fits bytes (negsuc n) h = record { sfits = omega (arith, h.fits) }

pub time_fits : (before : Option ℤ) (bytes : List ℕ) (time : ℤ) → IsTime before bytes time → FitsSigned w64 time
time_fits None bytes time h = varint_fits bytes time h
time_fits (Some before) bytes time h = h.fits

pub first_none : {X : Type 0} (r : Option X) (before : Option ℤ) (bytes : List ℕ) → before ≡ None → IfNone r (IsNowhere IsVarint bytes) → IfNone r (IsNowhere (IsTime before) bytes)
first_none r before bytes e h = subst (λ (b : Option ℤ). IfNone r (IsNowhere (IsTime b) bytes)) (sym e) h

pub next_none : {X : Type 0} (r : Option X) (before : Option ℤ) (b : ℤ) (bytes : List ℕ) → before ≡ Some b → FitsSigned w64 b
    → IfNone r (IsNowhere (IsStep (cast_signed w64 (cast_unsigned w64 b))) bytes) → IfNone r (IsNowhere (IsTime before) bytes)
next_none r before b bytes e f h =
    subst (λ (b : Option ℤ). IfNone r (IsNowhere (IsTime b) bytes)) (sym e) (subst (λ (z : ℤ). IfNone r (IsNowhere (IsStep z) bytes)) (to_z-of_z w64 b f) h)

pub sample_found : (before : Option ℤ) (bytes second : List ℕ) (time value : ℤ) (bits len : ℕ) → IsAt (IsTime before) bytes time len → second ≡ drop len bytes → IsAt (IsFixed 8) second bits 8
    → value ≡ cast_signed w64 bits → FitsSigned w64 value
    → IsAt (IsSample before) bytes (record { time = cast_signed w64 (cast_unsigned w64 time); value = cast_signed w64 (cast_unsigned w64 value) }) (len + 8)
sample_found before bytes second time value bits len a i b is fits =
    let s : Sample = record { time = time; value = value } in
    let same : s ≡ record { time = cast_signed w64 (cast_unsigned w64 time); value = cast_signed w64 (cast_unsigned w64 value) } =
    same_sample s (record { time = cast_signed w64 (cast_unsigned w64 time); value = cast_signed w64 (cast_unsigned w64 value) }) (sym (to_z-of_z w64 time (time_fits before (take len bytes) time a.spelled))) (sym (to_z-of_z w64 value fits)) in
    subst (λ (t : Sample). IsAt (IsSample before) bytes t (len + 8)) same (sample_at before bytes second s bits len a i b is fits)
