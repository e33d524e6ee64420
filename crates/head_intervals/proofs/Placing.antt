-- Which interval has a time.
use Rattle.std.proofs.Common.{◌≡◌, inl, inr, ℕ, ◌+◌, ◌*◌, ◌/◌, ◌<◌, ◌≤◌, ◌∙◌, true, false, ap, arith, sym}
use Rattle.std.specs.Prelude.{ℤ, pos, negsuc, ◌+ℤ◌, ◌-ℤ◌, ◌≤ℤ◌, ◌<ℤ◌, int_le, int_lt}
use Rattle.std.specs.Int.RustNames.{unsigned_abs}
use Rattle.std.proofs.lemmas.Bool.{and_from, and_parts, cases_order}
use Rattle.std.proofs.lemmas.Int.{ints}
use Rattle.std.proofs.lemmas.Nat.{le-div}
use Rattle.std.proofs.Math.Nat.{div-mul-le_self, lt-div-mul-add, mul-le-mul_right}
use Rattle.head_intervals.specs.declared.intervals.Intervals.{Intervals}
use Rattle.head_intervals.specs.Intervals.{IsIn, Parts, begin_of}

le_true : (a b : ℤ) → a ≤ℤ b → int_le a b ≡ true
le_true a b h = grind (arith, ints)

lt_true : (a b : ℤ) → a <ℤ b → int_lt a b ≡ true
lt_true a b h = grind (arith, ints)

le_from : (a b : ℤ) → int_le a b ≡ true → a ≤ℤ b
le_from a b h = grind (arith, ints)

lt_from : (a b : ℤ) → int_lt a b ≡ true → a <ℤ b
lt_from a b h = grind (arith, ints)

next_begin : (i : Intervals) (k : ℕ) → begin_of i (k + 1) ≡ i.first +ℤ pos (k * i.width + i.width)
next_begin i k = ap (λ (n : ℕ). i.first +ℤ pos n) (let e : (k + 1) * i.width ≡ k * i.width + i.width = omega arith in e)

begun : (i : Intervals) (k : ℕ) (t : ℤ) → IsIn i k t → (i.first +ℤ pos (k * i.width)) ≤ℤ t
begun i k t h = le_from (begin_of i k) t (and_parts (int_le (begin_of i k) t) (int_lt t (begin_of i (k + 1))) h).0

not_over : (i : Intervals) (k : ℕ) (t : ℤ) → IsIn i k t → t <ℤ (i.first +ℤ pos (k * i.width + i.width))
not_over i k t h =
    let over = lt_from t (begin_of i (k + 1)) (and_parts (int_le (begin_of i k) t) (int_lt t (begin_of i (k + 1))) h).1 in
    let next = next_begin i k in
    omega (arith, ints, over, next)

is_in-from : (i : Intervals) (k : ℕ) (t : ℤ) → (i.first +ℤ pos (k * i.width)) ≤ℤ t → t <ℤ (i.first +ℤ pos (k * i.width + i.width)) → IsIn i k t
is_in-from i k t from to =
    let next = next_begin i k in
    let end : t <ℤ begin_of i (k + 1) = omega (arith, ints, to, next) in
    and_from (int_le (begin_of i k) t) (int_lt t (begin_of i (k + 1))) (le_true (begin_of i k) t from) (lt_true t (begin_of i (k + 1)) end)

not_later : (i : Intervals) (j k : ℕ) (t : ℤ) → IsIn i j t → IsIn i k t → j < k → j ≡ k
not_later i j k t a b lt =
    let over = not_over i j t a in
    let from = begun i k t b in
    let within : (j + 1) * i.width ≤ k * i.width = mul-le-mul_right i.width (omega arith) in
    absurd (omega (arith, ints, over, from, within))

pub one : (i : Intervals) (j k : ℕ) (t : ℤ) → IsIn i j t → IsIn i k t → j ≡ k
one i j k t a b =
    elim (cases_order j k) [
      | inl same ↦ same
      | inr (inl lt) ↦ not_later i j k t a b lt
      | inr (inr lt) ↦ (let e : k ≡ j = not_later i k j t b a lt in omega (arith, e))
    ]

-- the distance from the first time tells the interval
distance : (a b : ℤ) → a ≤ℤ b → b ≡ a +ℤ pos (unsigned_abs (b -ℤ a))
distance a b h = by (b -ℤ a) (omega (arith, ints)) (omega (arith, ints)) where
  by : (d : ℤ) → pos 0 ≤ℤ d → b ≡ a +ℤ d → b ≡ a +ℤ pos (unsigned_abs d)
  by (pos n) low e = e
  by (negsuc n) low e = absurd (omega (arith, ints, low))

placed : (i : Intervals) (t : ℤ) → 0 < i.width → i.first ≤ℤ t → IsIn i (unsigned_abs (t -ℤ i.first) / i.width) t
placed i t wide from =
    let d : ℕ = unsigned_abs (t -ℤ i.first) in
    let is = distance i.first t from in
    let low : d / i.width * i.width ≤ d = div-mul-le_self d i.width in
    let high : d < d / i.width * i.width + i.width = lt-div-mul-add wide in
    is_in-from i (d / i.width) t (omega (arith, ints, is, low)) (omega (arith, ints, is, high))

not_before : (a b : ℤ) → int_lt a b ≡ false → b ≤ℤ a
not_before a b h = grind (arith, ints)

-- no interval has a time behind the last one
pub behind : (i : Intervals) (t : ℤ) (d k : ℕ) → 0 < i.width → d ≡ unsigned_abs (t -ℤ i.first) → int_lt t i.first ≡ false → i.count ≤ d / i.width → k < i.count → IsIn i k t → ⊥
behind i t d k wide is from far lt has =
    let same : k ≡ unsigned_abs (t -ℤ i.first) / i.width = one i k (unsigned_abs (t -ℤ i.first) / i.width) t has (placed i t wide (not_before t i.first from)) in
    let at : d / i.width ≡ unsigned_abs (t -ℤ i.first) / i.width = ap (λ (n : ℕ). n / i.width) is in
    omega (arith, same, at, far, lt)

-- intervals of one width, up to the one with the last time, part the times
pub parted : (first last z : ℤ) (reach width : ℕ) → z ≡ first → first ≤ℤ last → reach ≡ unsigned_abs (last -ℤ first) → 0 < width → reach / width < 240 → Parts first last (record { first = z; width = width; count = reach / width + 1 })
parted first last z reach width same ordered is wide few = record {
  begins = same;
  wide = wide;
  few = omega arith;
  each = λ t from to.
      let i : Intervals = record { first = z; width = width; count = reach / width + 1 } in
      let begins : z ≤ℤ t = omega (arith, ints, same, from) in
      let d : ℕ = unsigned_abs (t -ℤ z) in
      let near : d ≤ reach = nearer z t last reach begins to (is ∙ ap (λ (b : ℤ). unsigned_abs (last -ℤ b)) (sym same)) in
      let low : d / width * width ≤ d = div-mul-le_self d width in
      let at : d / width ≤ reach / width = le-div (d / width) reach width wide (omega arith) in
      (d / width, omega arith, placed i t wide begins);
} where
  nearer : (a t b : ℤ) (n : ℕ) → a ≤ℤ t → t ≤ℤ b → n ≡ unsigned_abs (b -ℤ a) → unsigned_abs (t -ℤ a) ≤ n
  nearer a t b n from to e =
      let here = distance a t from in
      let there = distance a b (omega (arith, ints, from, to)) in
      omega (arith, ints, here, there, to, e)
