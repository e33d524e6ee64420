-- Eight bytes at once: the division is linear, so each byte is divided by itself.
use Rattle.std.proofs.Common.{◌≡◌, ℕ, zero, suc, ◌+◌, ◌*◌, ◌/◌, ◌%◌, List, [], ◌∷◌, length, get_or, refl, sym, ap, ◌∙◌, arith, zero-add}
use Rattle.std.specs.Int.Bits.{bit_xor, bit_and}
use Rattle.std.proofs.lemmas.Nat.{and_mask}
use Rattle.std.specs.List.{fold}
use Rattle.std.proofs.lemmas.Nat.Bits.{bit_at_xor, same_from_bits}
use Rattle.hw_bytes.specs.Checksum.{divided, divided_times, with_byte}
use Rattle.hw_bytes.proofs.Division.{xor_assoc, xor_zero, xor_split, times_xor, times_zeros}

pub times_add : (n m r : ℕ) → divided_times n (divided_times m r) ≡ divided_times (m + n) r
unfolding divided_times
times_add n zero r = rw zero-add refl
times_add n (suc m) r = (let more : suc m + n ≡ suc (m + n) = omega arith in rw more (times_add n m (divided r)))

-- the sum of the bytes, each divided from its place
unfoldable pub sum_of : List ℕ → ℕ
sum_of [] = 0
sum_of (b ∷ bs) = bit_xor (divided_times (8 * length bs + 8) b) (sum_of bs)

pub fold_sum : (bytes : List ℕ) (r : ℕ) → fold with_byte r bytes ≡ bit_xor (divided_times (8 * length bytes) r) (sum_of bytes)
unfolding sum_of divided_times
fold_sum [] r = sym (xor_zero r)
fold_sum (b ∷ bs) r =
    let steps : 8 + 8 * length bs ≡ 8 * suc (length bs) = omega arith in
    let steps' : 8 * length bs + 8 ≡ 8 * suc (length bs) = omega arith in
    fold_sum bs (with_byte r b)
    ∙ ap (λ x. bit_xor x (sum_of bs)) (times_add (8 * length bs) 8 (bit_xor r b) ∙ ap (λ n. divided_times n (bit_xor r b)) steps ∙ times_xor (8 * suc (length bs)) r b)
    ∙ xor_assoc (divided_times (8 * suc (length bs)) r) (divided_times (8 * suc (length bs)) b) (sum_of bs)
    ∙ ap (λ n. bit_xor (divided_times (8 * suc (length bs)) r) (bit_xor (divided_times n b) (sum_of bs))) (sym steps')

-- the low byte apart from the others
pub peel : (m x : ℕ) → divided_times (8 + m) x ≡ bit_xor (divided_times m (x / 256)) (divided_times (8 + m) (x % 256))
peel m x = ap (divided_times (8 + m)) (sym (xor_split 8 x)) ∙ times_xor (8 + m) (x / 256 * 256) (x % 256) ∙ ap (λ y. bit_xor y (divided_times (8 + m) (x % 256))) (times_zeros 8 m (x / 256))

pub exchange : (a r b s : ℕ) → bit_xor (bit_xor a r) (bit_xor b s) ≡ bit_xor (bit_xor a s) (bit_xor r b)
exchange a r b s = same_from_bits _ _ (λ i. omega (arith, bit_at_xor (bit_xor a r) (bit_xor b s) i, bit_at_xor a r i, bit_at_xor b s i, bit_at_xor (bit_xor a s) (bit_xor r b) i, bit_at_xor a s i, bit_at_xor r b i))

-- the four bytes of a remainder and the eight that come
pub eight_sum : (r b0 b1 b2 b3 b4 b5 b6 b7 : ℕ) → fold with_byte r (b0 ∷ b1 ∷ b2 ∷ b3 ∷ b4 ∷ b5 ∷ b6 ∷ b7 ∷ [])
    ≡ bit_xor (bit_xor (bit_xor (bit_xor (divided_times 40 (bit_xor (r / 256 / 256 / 256) b3)) (sum_of (b4 ∷ b5 ∷ b6 ∷ b7 ∷ []))) (divided_times 48 (bit_xor (r / 256 / 256 % 256) b2))) (divided_times 56 (bit_xor (r / 256 % 256) b1))) (divided_times 64 (bit_xor (r % 256) b0))
unfolding sum_of
eight_sum r b0 b1 b2 b3 b4 b5 b6 b7 =
    let s : ℕ = sum_of (b4 ∷ b5 ∷ b6 ∷ b7 ∷ []) in
    let three = xor_assoc (divided_times 40 (r / 256 / 256 / 256)) (divided_times 40 b3) s in
    let r3 : bit_xor (divided_times 40 (r / 256 / 256 / 256)) (bit_xor (divided_times 40 b3) s) ≡ bit_xor (divided_times 40 (bit_xor (r / 256 / 256 / 256) b3)) s =
    sym three ∙ ap (λ x. bit_xor x s) (sym (times_xor 40 (r / 256 / 256 / 256) b3)) in
    let step : (m x b t : ℕ) → bit_xor (divided_times (8 + m) x) (bit_xor (divided_times (8 + m) b) t) ≡ bit_xor (bit_xor (divided_times m (x / 256)) t) (divided_times (8 + m) (bit_xor (x % 256) b)) =
    (λ m x b t. ap (λ y. bit_xor y (bit_xor (divided_times (8 + m) b) t)) (peel m x) ∙ exchange (divided_times m (x / 256)) (divided_times (8 + m) (x % 256)) (divided_times (8 + m) b) t
    ∙ ap (λ y. bit_xor (bit_xor (divided_times m (x / 256)) t) y) (sym (times_xor (8 + m) (x % 256) b))) in
    fold_sum (b0 ∷ b1 ∷ b2 ∷ b3 ∷ b4 ∷ b5 ∷ b6 ∷ b7 ∷ []) r
    ∙ step 56 r b0 (bit_xor (divided_times 56 b1) (bit_xor (divided_times 48 b2) (bit_xor (divided_times 40 b3) s)))
    ∙ ap (λ x. bit_xor x (divided_times 64 (bit_xor (r % 256) b0)))
    (step 48 (r / 256) b1 (bit_xor (divided_times 48 b2) (bit_xor (divided_times 40 b3) s))
    ∙ ap (λ x. bit_xor x (divided_times 56 (bit_xor (r / 256 % 256) b1)))
    (step 40 (r / 256 / 256) b2 (bit_xor (divided_times 40 b3) s) ∙ ap (λ x. bit_xor x (divided_times 48 (bit_xor (r / 256 / 256 % 256) b2))) r3))

pub last_four : (b4 b5 b6 b7 : ℕ) → sum_of (b4 ∷ b5 ∷ b6 ∷ b7 ∷ []) ≡ bit_xor (divided_times 32 b4) (bit_xor (divided_times 24 b5) (bit_xor (divided_times 16 b6) (divided_times 8 b7)))
unfolding sum_of
last_four b4 b5 b6 b7 = ap (λ x. bit_xor (divided_times 32 b4) (bit_xor (divided_times 24 b5) (bit_xor (divided_times 16 b6) x))) (xor_zero (divided_times 8 b7))

pub eight_cells : (xs : List ℕ) → length xs ≡ 8 → xs ≡ get_or xs 0 0 ∷ get_or xs 1 0 ∷ get_or xs 2 0 ∷ get_or xs 3 0 ∷ get_or xs 4 0 ∷ get_or xs 5 0 ∷ get_or xs 6 0 ∷ get_or xs 7 0 ∷ []
eight_cells [] e = absurd (omega arith)
eight_cells (a ∷ []) e = absurd (omega arith)
eight_cells (a ∷ b ∷ []) e = absurd (omega arith)
eight_cells (a ∷ b ∷ c ∷ []) e = absurd (omega arith)
eight_cells (a ∷ b ∷ c ∷ d ∷ []) e = absurd (omega arith)
eight_cells (a ∷ b ∷ c ∷ d ∷ f ∷ []) e = absurd (omega arith)
eight_cells (a ∷ b ∷ c ∷ d ∷ f ∷ g ∷ []) e = absurd (omega arith)
eight_cells (a ∷ b ∷ c ∷ d ∷ f ∷ g ∷ h ∷ []) e = absurd (omega arith)
eight_cells (a ∷ b ∷ c ∷ d ∷ f ∷ g ∷ h ∷ i ∷ []) e = refl
eight_cells (a ∷ b ∷ c ∷ d ∷ f ∷ g ∷ h ∷ i ∷ j ∷ more) e = absurd (omega arith)

-- what the code computes is the sum
pub eight_is : (r : ℕ) (xs : List ℕ) (e0 e1 e2 e3 e4 e5 e6 e7 l0 l1 l2 l3 : ℕ) → length xs ≡ 8
    → l0 ≡ bit_xor (bit_and r 255) (get_or xs 0 0) → l1 ≡ bit_xor (bit_and (r / 256) 255) (get_or xs 1 0) → l2 ≡ bit_xor (bit_and (r / 65536) 255) (get_or xs 2 0) → l3 ≡ bit_xor (r / 16777216) (get_or xs 3 0)
    → e0 ≡ divided_times 64 l0 → e1 ≡ divided_times 56 l1 → e2 ≡ divided_times 48 l2 → e3 ≡ divided_times 40 l3
    → e4 ≡ divided_times 32 (get_or xs 4 0) → e5 ≡ divided_times 24 (get_or xs 5 0) → e6 ≡ divided_times 16 (get_or xs 6 0) → e7 ≡ divided_times 8 (get_or xs 7 0)
    → bit_xor (bit_xor (bit_xor (bit_xor e3 (bit_xor e4 (bit_xor e5 (bit_xor e6 e7)))) e2) e1) e0 ≡ fold with_byte r xs
eight_is r xs e0 e1 e2 e3 e4 e5 e6 e7 l0 l1 l2 l3 long p0 p1 p2 p3 q0 q1 q2 q3 q4 q5 q6 q7 =
    let m0 : bit_and r 255 ≡ r % 256 = and_mask r 8 in
    let m1 : bit_and (r / 256) 255 ≡ r / 256 % 256 = and_mask (r / 256) 8 in
    let h2 : r / 65536 ≡ r / 256 / 256 = omega arith in
    let m2 : bit_and (r / 65536) 255 ≡ r / 256 / 256 % 256 = and_mask (r / 65536) 8 ∙ ap (λ x. x % 256) h2 in
    let h3 : r / 16777216 ≡ r / 256 / 256 / 256 = omega arith in
    let late = last_four (get_or xs 4 0) (get_or xs 5 0) (get_or xs 6 0) (get_or xs 7 0) in
    let all = eight_sum r (get_or xs 0 0) (get_or xs 1 0) (get_or xs 2 0) (get_or xs 3 0) (get_or xs 4 0) (get_or xs 5 0) (get_or xs 6 0) (get_or xs 7 0) in
    let whole = ap (fold with_byte r) (eight_cells xs long) in
    let f0 : e0 ≡ divided_times 64 (bit_xor (r % 256) (get_or xs 0 0)) = cc in
    let f1 : e1 ≡ divided_times 56 (bit_xor (r / 256 % 256) (get_or xs 1 0)) = cc in
    let f2 : e2 ≡ divided_times 48 (bit_xor (r / 256 / 256 % 256) (get_or xs 2 0)) = cc in
    let f3 : e3 ≡ divided_times 40 (bit_xor (r / 256 / 256 / 256) (get_or xs 3 0)) = cc in
    cc (f0, f1, f2, f3, late, all, whole)
