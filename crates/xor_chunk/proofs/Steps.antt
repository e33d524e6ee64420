-- What the encoder appends.
use Rattle.std.proofs.Common.{◌≡◌, ℕ, zero, suc, ◌+◌, ◌-◌, ◌*◌, ◌/◌, ◌%◌, ◌^◌, ◌<◌, ◌≤◌, Bool, true, false, eqb, leb, ltb, List, [], ◌∷◌, ◌++◌, Option, Some, None, ⊎_elim, refl, sym, ap, ◌∙◌, subst, arith, append_assoc}
use Rattle.std.specs.Prelude.{◌||◌}
use Rattle.std.proofs.lemmas.Bool.{eq-eqb, ne_eqb, le-leb, lt-leb, lt-ltb, le-ltb, cases_lt}
use Rattle.std.proofs.lemmas.Nat.{mod_below, one_shl, pow_below, pow_pos, shr_below}
use Rattle.hw_bytes.specs.Writing.{uvarint, uvarint_in}
use Rattle.xor_chunk.specs.Bits.{bits_of, bits_in}
use Rattle.xor_chunk.specs.Chunks.{is_near, step_bits, opening, within, value_bits, changed_bits, window_after, is_whole, reused, opened, width}
use Rattle.xor_chunk.specs.declared.before.BitWindow.{BitWindow}
use Rattle.xor_chunk.proofs.Bits.{bits_of-join, bits_in-cons, bits_in-one}

-- ---- times

-- d - 1 is compared with what is one less
less_one : (a d : ℕ) → 0 < d → ltb a (d - 1) ≡ ltb (suc a) d
less_one a d h = ⊎_elim (λ (p : suc a < d). lt-ltb a (d - 1) (omega arith) ∙ sym (lt-ltb (suc a) d p)) (λ (p : d ≤ suc a). le-ltb a (d - 1) (omega arith) ∙ sym (le-ltb (suc a) d p)) (cases_lt (suc a) d)

pub near_low : (k d : ℕ) → k < 64 → d ≤ 1 * 2 ^ k % 2 ^ 64 → leb d (1 * 2 ^ k % 2 ^ 64) ≡ is_near k d
unfolding is_near
near_low k d h p =
    let e = one_shl k 64 h in
    let q : d ≤ 2 ^ k = subst (λ (n : ℕ). d ≤ n) e p in
    le-leb d (1 * 2 ^ k % 2 ^ 64) p ∙ sym (ap (λ (b : Bool). b || ltb (2 ^ 64 - 2 ^ k) d) (le-leb d (2 ^ k) q))

pub near_high : (k d : ℕ) → k < 64 → 1 * 2 ^ k % 2 ^ 64 < d → ltb (2 ^ 64 - 1 - 1 * 2 ^ k % 2 ^ 64) (d - 1) ≡ is_near k d
unfolding is_near
near_high k d h p =
    let e = one_shl k 64 h in
    let q : 2 ^ k < d = subst (λ (n : ℕ). n < d) e p in
    let small : 2 ^ k < 2 ^ 64 = pow_below k 64 h in
    let up : suc (2 ^ 64 - 1 - 2 ^ k) ≡ 2 ^ 64 - 2 ^ k = omega arith in
    ap (λ (n : ℕ). ltb (2 ^ 64 - 1 - n) (d - 1)) e ∙ less_one (2 ^ 64 - 1 - 2 ^ k) d (omega arith) ∙ ap (λ (n : ℕ). ltb n d) up
    ∙ sym (ap (λ (b : Bool). b || ltb (2 ^ 64 - 2 ^ k) d) (lt-leb d (2 ^ k) q))

two_10 : bits_of 2 2 ≡ true ∷ false ∷ []
unfolding bits_of
two_10 = refl

three_110 : bits_of 3 6 ≡ true ∷ true ∷ false ∷ []
unfolding bits_of
three_110 = refl

four_1110 : bits_of 4 14 ≡ true ∷ true ∷ true ∷ false ∷ []
unfolding bits_of
four_1110 = refl

four_1111 : bits_of 4 15 ≡ true ∷ true ∷ true ∷ true ∷ []
unfolding bits_of
four_1111 = refl

one_0 : bits_of 1 0 ≡ false ∷ []
unfolding bits_of
one_0 = refl

five_11 : bits_of 2 3 ≡ true ∷ true ∷ []
unfolding bits_of
five_11 = refl

pub step_0 : (d : ℕ) → d ≡ 0 → bits_of 1 0 ≡ step_bits d
unfolding step_bits
step_0 d h = let z : eqb d 0 ≡ true = eq-eqb d 0 h in one_0 ∙ rw z refl

pub step_14 : (d : ℕ) → (d ≡ 0 → ⊥) → is_near 13 d ≡ true → bits_of 16 (2 * 2 ^ 14 + d % 2 ^ 14) ≡ step_bits d
unfolding step_bits
step_14 d h e =
    let z : eqb d 0 ≡ false = ne_eqb d 0 h in
    bits_of-join 2 14 2 (d % 2 ^ 14) (mod_below d (2 ^ 14) (pow_pos 14)) ∙ ap (λ (bs : List Bool). bs ++ bits_of 14 (d % 2 ^ 14)) two_10 ∙ rw (z, e) refl

pub step_17 : (d : ℕ) → (d ≡ 0 → ⊥) → is_near 13 d ≡ false → is_near 16 d ≡ true → bits_of 20 (6 * 2 ^ 17 + d % 2 ^ 17) ≡ step_bits d
unfolding step_bits
step_17 d h e f =
    let z : eqb d 0 ≡ false = ne_eqb d 0 h in
    bits_of-join 3 17 6 (d % 2 ^ 17) (mod_below d (2 ^ 17) (pow_pos 17)) ∙ ap (λ (bs : List Bool). bs ++ bits_of 17 (d % 2 ^ 17)) three_110 ∙ rw (z, e, f) refl

pub step_20 : (d : ℕ) → (d ≡ 0 → ⊥) → is_near 13 d ≡ false → is_near 16 d ≡ false → is_near 19 d ≡ true → bits_of 24 (14 * 2 ^ 20 + d % 2 ^ 20) ≡ step_bits d
unfolding step_bits
step_20 d h e f g =
    let z : eqb d 0 ≡ false = ne_eqb d 0 h in
    bits_of-join 4 20 14 (d % 2 ^ 20) (mod_below d (2 ^ 20) (pow_pos 20)) ∙ ap (λ (bs : List Bool). bs ++ bits_of 20 (d % 2 ^ 20)) four_1110 ∙ rw (z, e, f, g) refl

pub step_64 : (d : ℕ) → (d ≡ 0 → ⊥) → is_near 13 d ≡ false → is_near 16 d ≡ false → is_near 19 d ≡ false → bits_of 4 15 ++ bits_of 64 d ≡ step_bits d
unfolding step_bits
step_64 d h e f g =
    let z : eqb d 0 ≡ false = ne_eqb d 0 h in
    ap (λ (bs : List Bool). bs ++ bits_of 64 d) four_1111 ∙ rw (z, e, f, g) refl

-- ---- values

pub opening_is : (w : BitWindow) → w.leading < 32 → bits_of 13 ((96 + w.leading) * 2 ^ 6 + width w % 64) ≡ opening w
unfolding opening
opening_is w h =
    bits_of-join 7 6 (96 + w.leading) (width w % 64) (mod_below (width w) 64 (omega arith)) ∙ ap (λ (bs : List Bool). bs ++ bits_of 6 (width w % 64)) (bits_of-join 2 5 3 w.leading h ∙ ap (λ (bs : List Bool). bs ++ bits_of 5 w.leading) five_11)

pub value_0 : (o : Option BitWindow) (x : ℕ) → x ≡ 0 → (bits_of 1 0 ≡ value_bits o x) × (o ≡ window_after o x) × (false ≡ is_whole o x)
unfolding value_bits window_after is_whole
value_0 o x h = let z : eqb x 0 ≡ true = eq-eqb x 0 h in (one_0 ∙ rw z refl, rw z refl, rw z refl)

pub value_new : (o : Option BitWindow) (x : ℕ) → (x ≡ 0 → ⊥) → reused o (opened x) ≡ None
    → (opening (opened x) ++ within (opened x) x ≡ value_bits o x) × (Some (opened x) ≡ window_after o x) × (eqb (width (opened x) % 8) 0 ≡ is_whole o x)
unfolding value_bits window_after is_whole changed_bits
value_new o x h e = let z : eqb x 0 ≡ false = ne_eqb x 0 h in (rw (z, e) refl, rw (z, e) refl, rw (z, e) refl)

pub value_again : (o : Option BitWindow) (x : ℕ) (w : BitWindow) → (x ≡ 0 → ⊥) → reused o (opened x) ≡ Some w
    → (bits_of 2 2 ++ within w x ≡ value_bits o x) × (Some w ≡ window_after o x) × (eqb (width w % 8) 0 ≡ is_whole o x)
unfolding value_bits window_after is_whole changed_bits
value_again o x w h e = let z : eqb x 0 ≡ false = ne_eqb x 0 h in (ap (λ (bs : List Bool). bs ++ within w x) two_10 ∙ rw (z, e) refl, rw (z, e) refl, rw (z, e) refl)

-- ---- groups of seven bits

-- the groups before those of `rest` are put, and there is memory for the others
pub record ArePut (bits all : List Bool) (rest room most : ℕ) : Type 0 where
  pub left : ℕ
  pub few : left ≤ 9
  pub small : rest < 2 ^ (7 * left + 1)
  pub parts : bits ++ bits_in (uvarint_in left rest) ≡ all
  pub room_is : most ≤ room + 8 * (9 - left)

pub groups_none : (bits : List Bool) (n room : ℕ) → n < 2 ^ 64 → ArePut bits (bits ++ bits_in (uvarint n)) n room room
unfolding uvarint
groups_none bits n room h = record { left = 9; few = omega arith; small = h; parts = refl; room_is = omega arith }

one_group : (k n : ℕ) → n < 128 → uvarint_in k n ≡ n ∷ []
unfolding uvarint_in
one_group zero n h = refl
one_group (suc k) n h = rw (lt-ltb n 128 h) refl

more_groups : (k n : ℕ) → 128 ≤ n → uvarint_in (suc k) n ≡ (n % 128 + 128) ∷ uvarint_in k (n / 128)
unfolding uvarint_in
more_groups k n h = rw (le-ltb n 128 h) refl

pub groups_more : (bits new all : List Bool) (rest room room' most : ℕ) → 128 ≤ rest → ArePut bits all rest room most → new ≡ bits ++ bits_of 8 (rest % 128 + 128) → room ≤ room' + 8 → ArePut new all (rest / 128) room' most
groups_more bits new all rest room room' most h p e r = by p.left p.few p.small p.parts p.room_is
  where
    by : (k : ℕ) → k ≤ 9 → rest < 2 ^ (7 * k + 1) → bits ++ bits_in (uvarint_in k rest) ≡ all → most ≤ room + 8 * (9 - k) → ArePut new all (rest / 128) room' most
    by zero few small parts is = absurd (omega (arith, h, small))
    by (suc k) few small parts is =
        let b : ℕ = rest % 128 + 128 in
        let place : 7 * suc k + 1 ≡ (7 * k + 1) + 7 = omega arith in
        record {
          left = k;
          few = omega (arith, few);
          small = shr_below rest (7 * k + 1) 7 (subst (λ (n : ℕ). rest < 2 ^ n) place small);
          parts = ap (λ (bs : List Bool). bs ++ bits_in (uvarint_in k (rest / 128))) e ∙ append_assoc bits (bits_of 8 b) (bits_in (uvarint_in k (rest / 128)))
              ∙ ap (λ (bs : List Bool). bits ++ bs) (sym (bits_in-cons b (uvarint_in k (rest / 128))) ∙ ap bits_in (sym (more_groups k rest h))) ∙ parts;
          room_is = omega (arith, few, is, r);
        }

pub groups_last : (bits new all : List Bool) (rest room most : ℕ) → rest < 128 → ArePut bits all rest room most → new ≡ bits ++ bits_of 8 rest → new ≡ all
groups_last bits new all rest room most h p e = e ∙ ap (λ (bs : List Bool). bits ++ bs) (sym (bits_in-one rest) ∙ ap bits_in (sym (one_group p.left rest h))) ∙ p.parts
