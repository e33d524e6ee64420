-- The references of a heap, parted by their bits.
use Rattle.std.proofs.Common.{◌≡◌, ◌≢◌, ℕ, zero, suc, ◌+◌, ◌*◌, ◌/◌, ◌%◌, ◌^◌, ◌<◌, ◌≤◌, ◌⊎◌, inl, inr, Bool, true, false, max, List, [], ◌∷◌, ◌++◌, nat_eq, nat_lt, length, slice_index, ap, sym, subst, ◌∙◌, refl, arith, eqb-true, eq-eqb, min}
use Rattle.std.proofs.Math.Nat.{mod-eq_of_lt, add-mod_left}
use Rattle.std.proofs.lemmas.Bool.{ltb-false, ltb-true}
use Rattle.std.proofs.lemmas.Nat.{mod_below, mod-pow-add, pow_pos}
use Rattle.std.proofs.Math.Pow.{mod-mod-pow, pow_mono}
use Rattle.series_references.specs.Has.{has}
use Rattle.series_references.specs.Heap.{height, references, IsBelowAll, IsParted, Leaf, Node, Tree}
use Rattle.series_references.proofs.HasLemmas.{has_cons, has_either, has_here, has_later, has_left, has_right}

one_more : (d : ℕ) → 2 ^ (d + 1) ≡ 2 ^ (1 + d)
one_more d = ap (λ j. 2 ^ j) (omega arith)

whole : (r d : ℕ) → r % 2 ^ (d + 1) ≡ (r / 2 ^ d % 2) * 2 ^ d + r % 2 ^ d
whole r d = ap (λ k. r % k) (one_more d) ∙ mod-pow-add r 1 d

-- the next bit is 0
pub even_bit : (r d : ℕ) → nat_eq (r / 2 ^ d % 2) 0 ≡ true → r % 2 ^ (d + 1) ≡ r % 2 ^ d
even_bit r d e = whole r d ∙ ap (λ b. b * 2 ^ d + r % 2 ^ d) (eqb-true (r / 2 ^ d % 2) 0 e) ∙ omega arith

-- the next bit is 1
pub odd_bit : (r d : ℕ) → nat_eq (r / 2 ^ d % 2) 0 ≡ false → r % 2 ^ (d + 1) ≡ r % 2 ^ d + 2 ^ d
odd_bit r d e = whole r d ∙ ap (λ b. b * 2 ^ d + r % 2 ^ d) one ∙ omega arith where
  one : r / 2 ^ d % 2 ≡ 1
  one =
      let below = mod_below (r / 2 ^ d) 2 (omega arith) in
      let other : r / 2 ^ d % 2 ≢ 0 = λ z. (let k = eq-eqb (r / 2 ^ d % 2) 0 z in absurd (cc)) in
      omega (arith, below, other)

-- all bits of a reference
all_bits : (r d : ℕ) → r < 2 ^ 64 → 64 ≤ d → r % 2 ^ d ≡ r
all_bits r d h l = let m = pow_mono {i = 64} {j = d} l in mod-eq_of_lt (omega (arith, h, m))

-- two references that are not the same differ in a later bit
pub bit_left : (d r first : ℕ) → r < 2 ^ 64 → first < 2 ^ 64 → first % 2 ^ d ≡ r % 2 ^ d → r ≢ first → d < 64
bit_left d r first h k e n = at (nat_lt d 64) refl where
  at : (b : Bool) → nat_lt d 64 ≡ b → d < 64
  at true f = ltb-true d 64 f
  at false f =
      let l : 64 ≤ d = ltb-false d 64 f in
      absurd (n (sym (all_bits r d h l) ∙ sym e ∙ all_bits first d k l))

-- ---- one reference more

-- the one is the least, the other the greatest
in_order : (first r least greater : ℕ) → least ≡ min first r → greater ≡ max first r → ((least ≡ first) × (greater ≡ r)) ⊎ ((least ≡ r) × (greater ≡ first))
in_order first r least greater a b = at (nat_lt first r) refl where
  at : (c : Bool) → nat_lt first r ≡ c → ((least ≡ first) × (greater ≡ r)) ⊎ ((least ≡ r) × (greater ≡ first))
  at true f = let l : first < r = ltb-true first r f in inl (omega (arith, a, l), omega (arith, b, l))
  at false f = let l : r ≤ first = ltb-false first r f in inr (omega (arith, a, l), omega (arith, b, l))

both_bits : (d first r least greater : ℕ) → least ≡ min first r → greater ≡ max first r → first % 2 ^ d ≡ r % 2 ^ d → (least % 2 ^ d ≡ r % 2 ^ d) × (greater % 2 ^ d ≡ r % 2 ^ d)
both_bits d first r least greater a b e = at (in_order first r least greater a b) where
  at : ((least ≡ first) × (greater ≡ r)) ⊎ ((least ≡ r) × (greater ≡ first)) → (least % 2 ^ d ≡ r % 2 ^ d) × (greater % 2 ^ d ≡ r % 2 ^ d)
  at (inl k) = (ap (λ n. n % 2 ^ d) k.0 ∙ e, ap (λ n. n % 2 ^ d) k.1)
  at (inr k) = (ap (λ n. n % 2 ^ d) k.0, ap (λ n. n % 2 ^ d) k.1 ∙ e)

-- it is less than what was added to one of the heaps, and than all in the other
above_added : (first r least greater : ℕ) (old new other : List ℕ) → least ≡ min first r → greater ≡ max first r → r ≢ first → IsBelowAll first old → IsBelowAll first other
    → ((q : ℕ) → has new q ≡ has (greater ∷ old) q) → (q : ℕ) → (has new q ≡ true) ⊎ (has other q ≡ true) → least < q
above_added first r least greater old new other a b n h k s q (inl m) = back (has_cons old greater q (sym (s q) ∙ m)) where
  back : (q ≡ greater) ⊎ (has old q ≡ true) → least < q
  back (inl e) = omega (arith, a, b, e, n)
  back (inr e) = let l = h q e in omega (arith, a, l)
above_added first r least greater old new other a b n h k s q (inr m) = let l = k q m in omega (arith, a, l)

pub put_even : (d r first least greater : ℕ) (even new odd : Tree) → least ≡ min first r → greater ≡ max first r → r ≢ first → IsParted d (r % 2 ^ d) (Node first even odd)
    → greater % 2 ^ (d + 1) ≡ greater % 2 ^ d → ((q : ℕ) → has (references new) q ≡ has (greater ∷ references even) q) → IsParted (d + 1) (greater % 2 ^ (d + 1)) new → IsParted d (r % 2 ^ d) (Node least new odd)
put_even d r first least greater even new odd a b n h e s p = (both.0, above, subst (λ bits. IsParted (d + 1) bits new) (e ∙ both.1) p, h.3) where
  both : (least % 2 ^ d ≡ r % 2 ^ d) × (greater % 2 ^ d ≡ r % 2 ^ d)
  both = both_bits d first r least greater a b h.0

  above : IsBelowAll least (references new ++ references odd)
  above q m = above_added first r least greater (references even) (references new) (references odd) a b n (λ x k. h.1 x (has_left (references even) (references odd) x k)) (λ x k. h.1 x (has_right (references even) (references odd) x k)) s q
      (has_either (references new) (references odd) q m)

pub put_odd : (d r first least greater : ℕ) (even old new : Tree) → least ≡ min first r → greater ≡ max first r → r ≢ first → IsParted d (r % 2 ^ d) (Node first even old)
    → greater % 2 ^ (d + 1) ≡ greater % 2 ^ d + 2 ^ d → ((q : ℕ) → has (references new) q ≡ has (greater ∷ references old) q) → IsParted (d + 1) (greater % 2 ^ (d + 1)) new → IsParted d (r % 2 ^ d) (Node least even new)
put_odd d r first least greater even old new a b n h e s p = (both.0, above, h.2, subst (λ bits. IsParted (d + 1) bits new) (e ∙ ap (λ bits. bits + 2 ^ d) both.1) p) where
  both : (least % 2 ^ d ≡ r % 2 ^ d) × (greater % 2 ^ d ≡ r % 2 ^ d)
  both = both_bits d first r least greater a b h.0

  other : (q : ℕ) → (has (references even) q ≡ true) ⊎ (has (references new) q ≡ true) → (has (references new) q ≡ true) ⊎ (has (references even) q ≡ true)
  other q (inl m) = inr m
  other q (inr m) = inl m

  above : IsBelowAll least (references even ++ references new)
  above q m = above_added first r least greater (references old) (references new) (references even) a b n (λ x k. h.1 x (has_right (references even) (references old) x k)) (λ x k. h.1 x (has_left (references even) (references old) x k)) s q
      (other q (has_either (references even) (references new) q m))

-- ---- without the least

root_bits : (t : Tree) (d bits n : ℕ) → length (references t) ≡ n + 1 → IsParted d bits t → slice_index (references t) 0 % 2 ^ d ≡ bits
root_bits Leaf d bits n e p = absurd (omega (arith, e))
root_bits (Node r even odd) d bits n e p = p.0

root_here : (rs : List ℕ) (n : ℕ) → length rs ≡ n + 1 → has rs (slice_index rs 0) ≡ true
root_here [] n e = absurd (omega (arith, e))
root_here (r ∷ rs) n e = has_here rs r

fewer_bits : (r d bits : ℕ) → r % 2 ^ d ≡ bits → bits % 2 ^ d ≡ bits
fewer_bits r d bits e = let below = mod_below r (2 ^ d) (pow_pos d) in mod-eq_of_lt (omega (arith, below, e))

fewer : (q d : ℕ) → q % 2 ^ (d + 1) % 2 ^ d ≡ q % 2 ^ d
fewer q d = ap (λ k. q % k % 2 ^ d) (one_more d) ∙ mod-mod-pow q 1 d

lower_even : (r q d bits : ℕ) → r % 2 ^ d ≡ bits → q % 2 ^ (d + 1) ≡ bits → q % 2 ^ d ≡ bits
lower_even r q d bits h e = sym (fewer q d) ∙ ap (λ n. n % 2 ^ d) e ∙ fewer_bits r d bits h

lower_odd : (r q d bits : ℕ) → r % 2 ^ d ≡ bits → q % 2 ^ (d + 1) ≡ bits + 2 ^ d → q % 2 ^ d ≡ bits
lower_odd r q d bits h e = sym (fewer q d) ∙ ap (λ n. n % 2 ^ d) (e ∙ turn) ∙ add-mod_left (2 ^ d) bits ∙ fewer_bits r d bits h where
  turn : bits + 2 ^ d ≡ 2 ^ d + bits
  turn = omega arith

above_both : (r : ℕ) (xs ys : List ℕ) → IsBelowAll r xs → IsBelowAll r ys → IsBelowAll r (xs ++ ys)
above_both r xs ys h k q m = at (has_either xs ys q m) where
  at : (has xs q ≡ true) ⊎ (has ys q ≡ true) → r < q
  at (inl e) = h q e
  at (inr e) = k q e

pub above_none : (r : ℕ) → IsBelowAll r []
above_none r q m = cc

pub take_even : (d bits r first n : ℕ) (even new odd : Tree) → IsParted d bits (Node r even odd) → first ≡ slice_index (references even) 0 → length (references even) ≡ n + 1 → IsParted (d + 1) bits new
    → IsBelowAll first (references new) → IsBelowAll first (references odd) → IsParted d bits (Node first new odd)
take_even d bits r first n even new odd h e l p a b = (lower_even r first d bits h.0 (ap (λ q. q % 2 ^ (d + 1)) e ∙ root_bits even (d + 1) bits n l h.2), above_both first (references new) (references odd) a b, p, h.3)

pub take_odd : (d bits r second n : ℕ) (even odd new : Tree) → IsParted d bits (Node r even odd) → second ≡ slice_index (references odd) 0 → length (references odd) ≡ n + 1 → IsParted (d + 1) (bits + 2 ^ d) new
    → IsBelowAll second (references even) → IsBelowAll second (references new) → IsParted d bits (Node second even new)
take_odd d bits r second n even odd new h e l p a b =
    (lower_odd r second d bits h.0 (ap (λ q. q % 2 ^ (d + 1)) e ∙ root_bits odd (d + 1) (bits + 2 ^ d) n l h.3), above_both second (references even) (references new) a b, h.2, p)

-- the two heaps below a reference do not have the same least one
pub differ : (d bits r first second n m : ℕ) (even odd : Tree) → IsParted d bits (Node r even odd) → first ≡ slice_index (references even) 0 → second ≡ slice_index (references odd) 0
    → length (references even) ≡ n + 1 → length (references odd) ≡ m + 1 → first ≢ second
differ d bits r first second n m even odd h a b k l same = let p = pow_pos d in omega (arith, p, bad) where
  bad : bits ≡ bits + 2 ^ d
  bad = sym (root_bits even (d + 1) bits n k h.2) ∙ ap (λ q. q % 2 ^ (d + 1)) (sym a ∙ same ∙ b) ∙ root_bits odd (d + 1) (bits + 2 ^ d) m l h.3

-- a reference of one of the heaps was there before its least was taken
was_there : (old new : List ℕ) (n : ℕ) → length old ≡ n + 1 → ((q : ℕ) → has old q ≡ has (slice_index old 0 ∷ new) q) → (q : ℕ) → has new q ≡ true → has old q ≡ true
was_there old new n l s q m = s q ∙ has_later new (slice_index old 0) q m

pub above_even : (d bits r first n : ℕ) (even new odd : Tree) → IsParted d bits (Node r even odd) → first ≡ slice_index (references even) 0 → length (references even) ≡ n + 1
    → ((q : ℕ) → has (references even) q ≡ has (slice_index (references even) 0 ∷ references new) q) → IsBelowAll r (references (Node first new odd))
above_even d bits r first n even new odd h e l s q m = at (has_cons (references new ++ references odd) first q m) where
  deep : (has (references new) q ≡ true) ⊎ (has (references odd) q ≡ true) → r < q
  deep (inl k) = h.1 q (has_left (references even) (references odd) q (was_there (references even) (references new) n l s q k))
  deep (inr k) = h.1 q (has_right (references even) (references odd) q k)

  at : (q ≡ first) ⊎ (has (references new ++ references odd) q ≡ true) → r < q
  at (inl k) = h.1 q (has_left (references even) (references odd) q (ap (has (references even)) (k ∙ e) ∙ root_here (references even) n l))
  at (inr k) = deep (has_either (references new) (references odd) q k)

pub above_odd : (d bits r second n : ℕ) (even odd new : Tree) → IsParted d bits (Node r even odd) → second ≡ slice_index (references odd) 0 → length (references odd) ≡ n + 1
    → ((q : ℕ) → has (references odd) q ≡ has (slice_index (references odd) 0 ∷ references new) q) → IsBelowAll r (references (Node second even new))
above_odd d bits r second n even odd new h e l s q m = at (has_cons (references even ++ references new) second q m) where
  deep : (has (references even) q ≡ true) ⊎ (has (references new) q ≡ true) → r < q
  deep (inl k) = h.1 q (has_left (references even) (references odd) q k)
  deep (inr k) = h.1 q (has_right (references even) (references odd) q (was_there (references odd) (references new) n l s q k))

  at : (q ≡ second) ⊎ (has (references even ++ references new) q ≡ true) → r < q
  at (inl k) = h.1 q (has_right (references even) (references odd) q (ap (has (references odd)) (k ∙ e) ∙ root_here (references odd) n l))
  at (inr k) = deep (has_either (references even) (references new) q k)

-- ---- how many lie one below another

abbrev Fit : Tree → Type 0
Fit t = (r : ℕ) → has (references t) r ≡ true → r < 2 ^ 64

-- all 64 bits of a reference are asked above, so none but itself could lie below it
none_even : (t : Tree) (r d bits : ℕ) → 64 ≤ d → r % 2 ^ d ≡ bits → r < 2 ^ 64 → IsParted (d + 1) bits t → Fit t → IsBelowAll r (references t) → height t ≡ 0
none_even Leaf r d bits l e h p f a = refl
none_even (Node q even odd) r d bits l e h p f a =
    let here = has_here (references even ++ references odd) q in
    let x = all_bits r d h l in let y = all_bits q (d + 1) (f q here) (omega (arith, l)) in let z = a q here in let w = p.0 in absurd (omega (arith, x, y, z, e, w))

none_odd : (t : Tree) (d bits : ℕ) → 64 ≤ d → IsParted (d + 1) (bits + 2 ^ d) t → Fit t → height t ≡ 0
none_odd Leaf d bits l p f = refl
none_odd (Node q even odd) d bits l p f =
    let here = has_here (references even ++ references odd) q in
    let b = f q here in let y = all_bits q (d + 1) b (omega (arith, l)) in let w = p.0 in let m = pow_mono {i = 64} {j = d} l in absurd (omega (arith, y, b, w, m))

pub low : (t : Tree) (d bits : ℕ) → d ≤ 64 → IsParted d bits t → Fit t → height t + d ≤ 65
low Leaf d bits l p f = omega (arith, l)
low (Node r even odd) d bits l p f = at (nat_lt d 64) refl (λ k. low even (d + 1) bits k p.2 fit_even) (λ k. low odd (d + 1) (bits + 2 ^ d) k p.3 fit_odd) where
  fit_even : Fit even
  fit_even q m = f q (has_later (references even ++ references odd) r q (has_left (references even) (references odd) q m))

  fit_odd : Fit odd
  fit_odd q m = f q (has_later (references even ++ references odd) r q (has_right (references even) (references odd) q m))

  at : (b : Bool) → nat_lt d 64 ≡ b → (d + 1 ≤ 64 → height even + (d + 1) ≤ 65) → (d + 1 ≤ 64 → height odd + (d + 1) ≤ 65) → height (Node r even odd) + d ≤ 65
  at true e a b = let k : d < 64 = ltb-true d 64 e in let x = a (omega (arith, k)) in let y = b (omega (arith, k)) in omega (arith, x, y)
  at false e a b =
      let k : 64 ≤ d = ltb-false d 64 e in
      let x = none_even even r d bits k p.0 (f r (has_here (references even ++ references odd) r)) p.2 fit_even (λ q m. p.1 q (has_left (references even) (references odd) q m)) in
      let y = none_odd odd d bits k p.3 fit_odd in omega (arith, x, y, l)

-- ---- what was in a box

same_least : (a b : ℕ) (e o x y : Tree) → Node a e o ≡ Node b x y → a ≡ b
same_least a b e o x y h = cc

-- the box was looked into, and then taken apart
pub opened : (d r behind first : ℕ) (x y even odd tree : Tree) → IsParted d (r % 2 ^ d) tree → Node behind x y ≡ tree → Node first even odd ≡ tree → r ≢ behind
    → IsParted d (r % 2 ^ d) (Node first even odd) × (r ≢ first)
opened d r behind first x y even odd tree p a b n = (subst (IsParted d (r % 2 ^ d)) (sym b) p, λ e. n (e ∙ same_least first behind even odd x y (b ∙ sym a)))

-- the heaps below were found to be these
pub turned : (d bits r : ℕ) (even odd x y tree : Tree) → IsParted d bits tree → Node r even odd ≡ tree → even ≡ x → odd ≡ y → IsParted d bits (Node r x y)
turned d bits r even odd x y tree p e a b = subst (IsParted d bits) (sym e ∙ ap (λ t. Node r t odd) a ∙ ap (Node r x) b) p

-- there are some
pub some : (rs : List ℕ) (r : ℕ) → has rs r ≡ true → (n : ℕ) × (length rs ≡ n + 1)
some [] r e = cc
some (x ∷ xs) r e = (length xs, omega arith)
