-- Bits of joined numbers, and of bytes.
use Rattle.std.proofs.Common.{◌≡◌, ℕ, zero, suc, ◌+◌, ◌-◌, ◌*◌, ◌/◌, ◌%◌, ◌^◌, ◌<◌, ◌≤◌, eqb, Bool, true, false, List, [], ◌∷◌, ◌++◌, length, refl, sym, ap, ◌∙◌, subst, arith, append_assoc, length-append, drop, get_or, take}
use Rattle.std.specs.Prelude.{replicate}
use Rattle.std.proofs.lemmas.List.{append-nil, drop-append-le, drop_at, length-take-le, take-append-drop, take-append-le}
use Rattle.std.proofs.lemmas.Nat.{shr-shr, shr_high, mod_low, shr_split, shl_whole, mul-add-lt, pow-add, pow_below, pow_pos, one_shl, mod_below, shr_below, shl_below}
use Rattle.std.proofs.lemmas.Nat.Bits.{bit_at_cat_low}
use Rattle.std.specs.Int.{byte_at}
use Rattle.hw_bytes.specs.Writing.{big_bytes}
use Rattle.xor_chunk.specs.Bits.{bits_of, bits_in}
use Rattle.xor_chunk.specs.Private.{IsEnded, IsMoved, IsPacked, IsPad, IsWord}

-- the upper bits, and then the lower ones
pub bits_of-cat : (a b n : ℕ) → bits_of (a + b) n ≡ bits_of a (n / 2 ^ b) ++ bits_of b n
unfolding bits_of
bits_of-cat zero b n = ap (λ (k : ℕ). bits_of k n) (omega arith)
bits_of-cat (suc a) b n =
    let place : suc a + b ≡ suc (a + b) = omega arith in
    let turned : b + a ≡ a + b = omega arith in
    let up : n / 2 ^ (a + b) ≡ n / 2 ^ b / 2 ^ a = sym (shr-shr n b a ∙ ap (λ (k : ℕ). n / 2 ^ k) turned) in
    ap (λ (k : ℕ). bits_of k n) place ∙ ap (λ (m : ℕ). eqb (m % 2) 1 ∷ bits_of (a + b) n) up ∙ ap (λ (bs : List Bool). eqb (n / 2 ^ b / 2 ^ a % 2) 1 ∷ bs) (bits_of-cat a b n)

pub bits_of-length : (k n : ℕ) → length (bits_of k n) ≡ k
unfolding bits_of
bits_of-length zero n = refl
bits_of-length (suc k) n = ap suc (bits_of-length k n)

-- the bits of a number are those of what it leaves
pub bits_of-low : (k j n : ℕ) → k ≤ j → bits_of k (n % 2 ^ j) ≡ bits_of k n
unfolding bits_of
bits_of-low zero j n h = refl
bits_of-low (suc k) j n h =
    let parts : n / 2 ^ j * 2 ^ j + n % 2 ^ j ≡ n = shr_split n j in
    let below : k < j = omega arith in
    let same : n % 2 ^ j / 2 ^ k % 2 ≡ n / 2 ^ k % 2 = sym (bit_at_cat_low (n / 2 ^ j) j (n % 2 ^ j) k below) ∙ ap (λ (m : ℕ). m / 2 ^ k % 2) parts in
    ap (λ (d : ℕ). eqb d 1 ∷ bits_of k (n % 2 ^ j)) same ∙ ap (λ (bs : List Bool). eqb (n / 2 ^ k % 2) 1 ∷ bs) (bits_of-low k j n (omega arith))

-- a number after another
pub bits_of-join : (a b x y : ℕ) → y < 2 ^ b → bits_of (a + b) (x * 2 ^ b + y) ≡ bits_of a x ++ bits_of b y
bits_of-join a b x y h =
    let low : bits_of b (x * 2 ^ b + y) ≡ bits_of b y = sym (bits_of-low b b (x * 2 ^ b + y) (omega arith)) ∙ ap (bits_of b) (mod_low x b y h) in
    bits_of-cat a b (x * 2 ^ b + y) ∙ ap (λ (m : ℕ). bits_of a m ++ bits_of b (x * 2 ^ b + y)) (shr_high x b y h) ∙ ap (λ (bs : List Bool). bits_of a x ++ bs) low

pub bits_in-append : (xs ys : List ℕ) → bits_in (xs ++ ys) ≡ bits_in xs ++ bits_in ys
unfolding bits_in
bits_in-append [] ys = refl
bits_in-append (x ∷ xs) ys = ap (λ (bs : List Bool). bits_of 8 x ++ bs) (bits_in-append xs ys) ∙ sym (append_assoc (bits_of 8 x) (bits_in xs) (bits_in ys))

pub bits_in-one : (b : ℕ) → bits_in (b ∷ []) ≡ bits_of 8 b
unfolding bits_in bits_of
bits_in-one b = refl

pub bits_in-cons : (b : ℕ) (more : List ℕ) → bits_in (b ∷ more) ≡ bits_of 8 b ++ bits_in more
unfolding bits_in
bits_in-cons b more = refl

pub no_bits : (n : ℕ) → bits_of 0 n ≡ []
unfolding bits_of
no_bits n = refl

pub no_bytes : bits_in [] ≡ []
unfolding bits_in
no_bytes = refl

-- the bytes of a number have its bits
scale : (k : ℕ) → 256 ^ k ≡ 2 ^ (8 * k)
scale zero = refl
scale (suc k) =
    let place : suc k ≡ 1 + k = omega arith in
    let wide : 8 * suc k ≡ 8 + 8 * k = omega arith in
    ap (λ (m : ℕ). 256 ^ m) place ∙ pow-add 256 1 k ∙ ap (λ (m : ℕ). 256 * m) (scale k) ∙ sym (ap (λ (m : ℕ). 2 ^ m) wide ∙ pow-add 2 8 (8 * k))

byte_is : (k n : ℕ) → byte_at k n ≡ n / 2 ^ (8 * k) % 256
byte_is zero n = omega arith
byte_is (suc k) n = ap (λ (m : ℕ). n / m % 256) (scale (suc k))

pub big_bits : (k n : ℕ) → bits_in (big_bytes k n) ≡ bits_of (8 * k) n
big_bits zero n = no_bytes ∙ sym (no_bits n)
big_bits (suc k) n =
    let place : 8 * suc k ≡ 8 + 8 * k = omega arith in
    bits_in-cons (byte_at k n) (big_bytes k n) ∙ ap (λ (bs : List Bool). bits_of 8 (byte_at k n) ++ bs) (big_bits k n)
    ∙ ap (λ (bs : List Bool). bs ++ bits_of (8 * k) n) (ap (bits_of 8) (byte_is k n) ∙ bits_of-low 8 8 (n / 2 ^ (8 * k)) (omega arith)) ∙ sym (ap (λ (m : ℕ). bits_of m n) place ∙ bits_of-cat 8 (8 * k) n)

-- the eight upper bits move into a byte
pub push_byte : (items : List ℕ) (left held : ℕ) → 8 ≤ left → bits_in (items ++ (held / 2 ^ (left - 8) % 256) ∷ []) ++ bits_of (left - 8) held ≡ bits_in items ++ bits_of left held
push_byte items left held h =
    let b : ℕ = held / 2 ^ (left - 8) in
    let byte : bits_in (items ++ (b % 256) ∷ []) ≡ bits_in items ++ bits_of 8 b = bits_in-append items ((b % 256) ∷ []) ∙ ap (λ (bs : List Bool). bits_in items ++ bs) (bits_in-one (b % 256) ∙ bits_of-low 8 8 b (omega arith)) in
    let all : 8 + (left - 8) ≡ left = omega arith in
    ap (λ (bs : List Bool). bs ++ bits_of (left - 8) held) byte ∙ append_assoc (bits_in items) (bits_of 8 b) (bits_of (left - 8) held) ∙ ap (λ (bs : List Bool). bits_in items ++ bs) (sym (bits_of-cat 8 (left - 8) held) ∙ ap (λ (k : ℕ). bits_of k held) all)

-- a byte moves after the bits that are held
pub take_byte : (have held joined b : ℕ) (bytes more : List ℕ) → bits_of (have + 8) joined ≡ bits_of have held ++ bits_of 8 b → bytes ≡ b ∷ more
    → bits_of (have + 8) joined ++ bits_in more ≡ bits_of have held ++ bits_in bytes
take_byte have held joined b bytes more h front =
    ap (λ (bs : List Bool). bs ++ bits_in more) h ∙ append_assoc (bits_of have held) (bits_of 8 b) (bits_in more) ∙ ap (λ (bs : List Bool). bits_of have held ++ bs) (sym (bits_in-cons b more)) ∙ ap (λ (bs : List ℕ). bits_of have held ++ bits_in bs) (sym front)

pub first_byte : (bytes behind : List ℕ) → (length bytes ≡ 0 → ⊥) → behind ≡ drop 1 bytes → bytes ≡ get_or bytes 0 0 ∷ behind
first_byte [] behind h e = absurd (h refl)
first_byte (b ∷ bytes) behind h e = ap (λ (bs : List ℕ). b ∷ bs) (sym e)

-- a number is taken from the bits that are held
pub take_number : (count left held : ℕ) (more : List Bool) → bits_of (count + left) held ++ more ≡ bits_of count (held / 2 ^ left) ++ (bits_of left (held % 2 ^ left) ++ more)
take_number count left held more =
    let rest : bits_of left held ≡ bits_of left (held % 2 ^ left) = sym (bits_of-low left left held (omega arith)) in
    ap (λ (bs : List Bool). bs ++ more) (bits_of-cat count left held ∙ ap (λ (bs : List Bool). bits_of count (held / 2 ^ left) ++ bs) rest) ∙ append_assoc (bits_of count (held / 2 ^ left)) (bits_of left (held % 2 ^ left)) more

-- ---- the writer

-- the code's shift makes room
pub shifted : (c count held : ℕ) → c + count < 64 → held < 2 ^ c → held * 2 ^ count % 2 ^ 64 ≡ held * 2 ^ count
shifted c count held h l = shl_whole held c count 64 l (omega arith)

pub joined_fits : (c count held number : ℕ) → c + count < 64 → held < 2 ^ c → number < 2 ^ count → held * 2 ^ count % 2 ^ 64 + number < 2 ^ (c + count)
joined_fits c count held number h l m =
    let whole = shifted c count held h l in
    let below : held * 2 ^ count + number < 2 ^ count * 2 ^ c = mul-add-lt held (2 ^ count) number (2 ^ c) l m in
    let width : 2 ^ (count + c) ≡ 2 ^ count * 2 ^ c = pow-add 2 count c in
    let turned : count + c ≡ c + count = omega arith in
    subst (λ (k : ℕ). held * 2 ^ count % 2 ^ 64 + number < 2 ^ k) turned (omega (arith, whole, below, width))

pub joined_small : (c count held number : ℕ) → c + count < 64 → held < 2 ^ c → number < 2 ^ count → held * 2 ^ count % 2 ^ 64 + number < 2 ^ 64
joined_small c count held number h l m =
    let fits = joined_fits c count held number h l m in
    let most : 2 ^ (c + count) < 2 ^ 64 = pow_below (c + count) 64 h in
    omega (arith, fits, most)

pub push_start : (items : List ℕ) (c count held number : ℕ) → c + count < 64 → held < 2 ^ c → number < 2 ^ count
    → bits_in items ++ bits_of (c + count) (held * 2 ^ count % 2 ^ 64 + number) ≡ (bits_in items ++ bits_of c held) ++ bits_of count number
push_start items c count held number h l m =
    ap (λ (n : ℕ). bits_in items ++ bits_of (c + count) (n + number)) (shifted c count held h l) ∙ ap (λ (bs : List Bool). bits_in items ++ bs) (bits_of-join c count held number m) ∙ sym (append_assoc (bits_in items) (bits_of c held) (bits_of count number))

-- the first 32 bits move into bytes
pub word_put : (items one two three new : List ℕ) (count held : ℕ) → 32 ≤ count → one ≡ items ++ (held / 2 ^ (count - 8) % 256) ∷ [] → two ≡ one ++ (held / 2 ^ (count - 16) % 256) ∷ []
    → three ≡ two ++ (held / 2 ^ (count - 24) % 256) ∷ [] → new ≡ three ++ (held / 2 ^ (count - 32) % 256) ∷ [] → IsWord items new count held
word_put items i1 i2 i3 new count held h e1 e2 e3 e4 =
    let a : ℕ = held / 2 ^ (count - 8) % 256 in
    let b : ℕ = held / 2 ^ (count - 16) % 256 in
    let c : ℕ = held / 2 ^ (count - 24) % 256 in
    let d : ℕ = held / 2 ^ (count - 32) % 256 in
    let two : (count - 8) - 8 ≡ count - 16 = omega arith in
    let three : (count - 16) - 8 ≡ count - 24 = omega arith in
    let four : (count - 24) - 8 ≡ count - 32 = omega arith in
    let p = push_byte [] count held (omega arith) in
    let q = subst (λ (k : ℕ). bits_in (a ∷ (held / 2 ^ k % 256) ∷ []) ++ bits_of k held ≡ bits_in (a ∷ []) ++ bits_of (count - 8) held) two (push_byte (a ∷ []) (count - 8) held (omega arith)) in
    let r = subst (λ (k : ℕ). bits_in (a ∷ b ∷ (held / 2 ^ k % 256) ∷ []) ++ bits_of k held ≡ bits_in (a ∷ b ∷ []) ++ bits_of (count - 16) held) three (push_byte (a ∷ b ∷ []) (count - 16) held (omega arith)) in
    let s = subst (λ (k : ℕ). bits_in (a ∷ b ∷ c ∷ (held / 2 ^ k % 256) ∷ []) ++ bits_of k held ≡ bits_in (a ∷ b ∷ c ∷ []) ++ bits_of (count - 24) held) four (push_byte (a ∷ b ∷ c ∷ []) (count - 24) held (omega arith)) in
    record {
      back = a ∷ b ∷ c ∷ d ∷ [];
      is = e4 ∙ ap (λ (bs : List ℕ). bs ++ d ∷ []) (e3 ∙ ap (λ (bs : List ℕ). bs ++ c ∷ []) (e2 ∙ ap (λ (bs : List ℕ). bs ++ b ∷ []) e1)) ∙ append_assoc ((items ++ a ∷ []) ++ b ∷ []) (c ∷ []) (d ∷ []) ∙ append_assoc (items ++ a ∷ []) (b ∷ []) (c ∷ d ∷ []) ∙ append_assoc items (a ∷ []) (b ∷ c ∷ d ∷ []);
      bits = s ∙ r ∙ q ∙ p ∙ ap (λ (bs : List Bool). bs ++ bits_of count held) no_bytes;
    }

-- the code's mask leaves the lowest bits
pub masked : (left held : ℕ) → left < 64 → bits_of left (held % (1 * 2 ^ left % 2 ^ 64)) ≡ bits_of left held
masked left held h = ap (λ (m : ℕ). bits_of left (held % m)) (one_shl left 64 h) ∙ bits_of-low left left held (omega arith)

pub mask_small : (left held : ℕ) → left < 64 → held % (1 * 2 ^ left % 2 ^ 64) < 2 ^ left
mask_small left held h = let e = one_shl left 64 h in subst (λ (m : ℕ). held % m < 2 ^ left) (sym e) (mod_below held (2 ^ left) (pow_pos left))

pub push_end : (before all : List Bool) (left held : ℕ) → left < 64 → before ++ bits_of left held ≡ all → before ++ bits_of left (held % (1 * 2 ^ left % 2 ^ 64)) ≡ all
push_end before all left held h e = ap (λ (bs : List Bool). before ++ bs) (masked left held h) ∙ e

pub halves : (before : List Bool) (count number : ℕ) → 32 < count → (before ++ bits_of (count - 32) (number / 2 ^ 32)) ++ bits_of 32 (number % 2 ^ 32) ≡ before ++ bits_of count number
halves before count number h =
    let all : (count - 32) + 32 ≡ count = omega arith in
    append_assoc before (bits_of (count - 32) (number / 2 ^ 32)) (bits_of 32 (number % 2 ^ 32)) ∙ ap (λ (bs : List Bool). before ++ bs)
    (ap (λ (bs : List Bool). bits_of (count - 32) (number / 2 ^ 32) ++ bs) (bits_of-low 32 32 number (omega arith)) ∙ sym (bits_of-cat (count - 32) 32 number) ∙ ap (λ (k : ℕ). bits_of k number) all)

pub upper_small : (count number : ℕ) → 32 < count → number < 2 ^ count → number / 2 ^ 32 < 2 ^ (count - 32)
upper_small count number h l = let all : count ≡ (count - 32) + 32 = omega arith in shr_below number (count - 32) 32 (subst (λ (k : ℕ). number < 2 ^ k) all l)

-- bytes are put behind those from a place on
pub behind_put : (start : ℕ) (old new back : List ℕ) → start ≤ length old → new ≡ old ++ back → (take start new ≡ take start old) × (drop start new ≡ drop start old ++ back)
behind_put start old new back h e = (ap (take start) e ∙ take-append-le start old back h, ap (drop start) e ∙ drop-append-le start old back h)

pub word_bits : (start : ℕ) (old new : List ℕ) (count held : ℕ) → start ≤ length old → IsWord old new count held → bits_in (drop start new) ++ bits_of (count - 32) held ≡ bits_in (drop start old) ++ bits_of count held
word_bits start old new count held h w =
    ap (λ (bs : List ℕ). bits_in bs ++ bits_of (count - 32) held) (behind_put start old new w.back h w.is).1 ∙ ap (λ (bs : List Bool). bs ++ bits_of (count - 32) held) (bits_in-append (drop start old) w.back)
    ∙ append_assoc (bits_in (drop start old)) (bits_in w.back) (bits_of (count - 32) held) ∙ ap (λ (bs : List Bool). bits_in (drop start old) ++ bs) w.bits

-- the bytes behind a place, and those that wait after them
pub behind_moved : (start : ℕ) (old waited new waiting : List ℕ) → start ≤ length old → IsMoved old waited new waiting → drop start new ++ waiting ≡ drop start old ++ waited
behind_moved start old waited new waiting h m =
    ap (λ (bs : List ℕ). bs ++ waiting) (behind_put start old new m.moved h m.are).1 ∙ append_assoc (drop start old) m.moved waiting ∙ ap (λ (bs : List ℕ). drop start old ++ bs) m.left

pub front_moved : (start : ℕ) (old waited new waiting : List ℕ) → start ≤ length old → IsMoved old waited new waiting → take start new ≡ take start old
front_moved start old waited new waiting h m = (behind_put start old new m.moved h m.are).0

pub none_moved : (old waited : List ℕ) → IsMoved old waited old waited
none_moved old waited = record { moved = []; are = sym (append-nil old); left = refl }

pub all_moved : (old waited new waiting : List ℕ) → new ≡ old ++ waited → waiting ≡ [] → IsMoved old waited new waiting
all_moved old waited new waiting e none = record { moved = waited; are = e; left = ap (λ (bs : List ℕ). waited ++ bs) none ∙ append-nil waited }

-- a word among the bytes that wait
pub word_behind : (behind old new : List ℕ) (count held : ℕ) → IsWord old new count held → bits_in (behind ++ new) ++ bits_of (count - 32) held ≡ bits_in (behind ++ old) ++ bits_of count held
word_behind behind old new count held w =
    ap (λ (bs : List ℕ). bits_in (behind ++ bs) ++ bits_of (count - 32) held) w.is ∙ ap (λ (bs : List ℕ). bits_in bs ++ bits_of (count - 32) held) (sym (append_assoc behind old w.back))
    ∙ ap (λ (bs : List Bool). bs ++ bits_of (count - 32) held) (bits_in-append (behind ++ old) w.back) ∙ append_assoc (bits_in (behind ++ old)) (bits_in w.back) (bits_of (count - 32) held) ∙ ap (λ (bs : List Bool). bits_in (behind ++ old) ++ bs) w.bits

-- ---- the end

zero_bits : (k : ℕ) → bits_of k 0 ≡ replicate k false
unfolding bits_of
zero_bits zero = refl
zero_bits (suc k) = let none : 0 / 2 ^ k % 2 ≡ 0 = omega (arith, pow_pos k) in ap (λ (d : ℕ). eqb d 1 ∷ bits_of k 0) none ∙ ap (λ (bs : List Bool). false ∷ bs) (zero_bits k)

last_shift : (left low : ℕ) → left < 8 → low < 2 ^ left → low * 2 ^ (8 - left) % 2 ^ 64 ≡ low * 2 ^ (8 - left)
last_shift left low h l = shl_whole low left (8 - left) 64 l (omega arith)

pub last_fits : (left held : ℕ) → left < 8 → held % (1 * 2 ^ left % 2 ^ 64) * 2 ^ (8 - left) % 2 ^ 64 < 2 ^ 8
last_fits left held h =
    let low : ℕ = held % (1 * 2 ^ left % 2 ^ 64) in
    let l : low < 2 ^ left = mask_small left held (omega arith) in
    let all : left + (8 - left) ≡ 8 = omega arith in
    let below : low * 2 ^ (8 - left) < 2 ^ (left + (8 - left)) = shl_below low left (8 - left) l in
    let e = last_shift left low h l in
    omega (arith, e, subst (λ (k : ℕ). low * 2 ^ (8 - left) < 2 ^ k) all below)

last_bits : (left held : ℕ) → left < 8 → bits_of 8 (held % (1 * 2 ^ left % 2 ^ 64) * 2 ^ (8 - left) % 2 ^ 64) ≡ bits_of left held ++ replicate (8 - left) false
last_bits left held h =
    let low : ℕ = held % (1 * 2 ^ left % 2 ^ 64) in
    let l : low < 2 ^ left = mask_small left held (omega arith) in
    let all : 8 ≡ left + (8 - left) = omega arith in
    let plus : low * 2 ^ (8 - left) ≡ low * 2 ^ (8 - left) + 0 = omega arith in
    ap (bits_of 8) (last_shift left low h l ∙ plus) ∙ ap (λ (k : ℕ). bits_of k (low * 2 ^ (8 - left) + 0)) all
    ∙ bits_of-join left (8 - left) low 0 (pow_pos (8 - left)) ∙ ap (λ (bs : List Bool). bits_of left low ++ bs) (zero_bits (8 - left)) ∙ ap (λ (bs : List Bool). bs ++ replicate (8 - left) false) (masked left held (omega arith))

-- whole bytes of so many bits are put, and `left` bits are not yet
pub record ArePut (old new : List ℕ) (count left held : ℕ) : Type 0 where
  pub back : List ℕ
  pub is : new ≡ old ++ back
  pub bits : bits_in back ++ bits_of left held ≡ bits_of count held

pub none_put : (old : List ℕ) (count held : ℕ) → ArePut old old count count held
none_put old count held = record { back = []; is = sym (append-nil old); bits = ap (λ (bs : List Bool). bs ++ bits_of count held) no_bytes }

pub byte_put : (old new more : List ℕ) (count left held : ℕ) → 8 ≤ left → ArePut old new count left held → more ≡ new ++ (held / 2 ^ (left - 8) % 256) ∷ [] → ArePut old more count (left - 8) held
byte_put old new more count left held h p e =
    let b : List ℕ = (held / 2 ^ (left - 8) % 256) ∷ [] in
    record { back = p.back ++ b; is = e ∙ ap (λ (bs : List ℕ). bs ++ b) p.is ∙ append_assoc old p.back b; bits = push_byte p.back left held h ∙ p.bits }

pub last_put : (old new more : List ℕ) (count left held : ℕ) (whole : Bool) → left < 8 → (whole ≡ false → 0 < left) → ArePut old new count left held
    → more ≡ new ++ (held % (1 * 2 ^ left % 2 ^ 64) * 2 ^ (8 - left) % 2 ^ 64) ∷ [] → IsEnded old more whole (bits_of count held)
last_put old new more count left held whole h some p e =
    let x : ℕ = held % (1 * 2 ^ left % 2 ^ 64) * 2 ^ (8 - left) % 2 ^ 64 in
    let zeros : List Bool = replicate (8 - left) false in
    record {
      back = p.back ++ x ∷ [];
      is = e ∙ ap (λ (bs : List ℕ). bs ++ x ∷ []) p.is ∙ append_assoc old p.back (x ∷ []);
      packed = record {
        pad = 8 - left;
        short = is_pad whole some;
        filled = bits_in-append p.back (x ∷ []) ∙ ap (λ (bs : List Bool). bits_in p.back ++ bs) (bits_in-one x ∙ last_bits left held h) ∙ sym (append_assoc (bits_in p.back) (bits_of left held) zeros) ∙ ap (λ (bs : List Bool). bs ++ zeros) p.bits;
      };
    }
  where
    is_pad : (w : Bool) → (w ≡ false → 0 < left) → IsPad w (8 - left)
    is_pad false s = let q : 0 < left = s refl in omega arith
    is_pad true s = (omega arith, omega arith)

pub all_put : (old new : List ℕ) (count left held : ℕ) (whole : Bool) → left ≡ 0 → whole ≡ false → ArePut old new count left held → IsEnded old new whole (bits_of count held)
all_put old new count left held whole h e p =
    subst (λ (w : Bool). IsEnded old new w (bits_of count held)) (sym e)
    (record {
      back = p.back;
      is = p.is;
      packed = record {
        pad = 0;
        short = omega arith;
        filled = sym (append-nil (bits_in p.back)) ∙ ap (λ (bs : List Bool). bits_in p.back ++ bs) (sym (no_bits held)) ∙ ap (λ (k : ℕ). bits_in p.back ++ bits_of k held) (sym h) ∙ p.bits ∙ sym (append-nil (bits_of count held));
      };
    })

-- what ends the bits that wait ends all of them
pub ended_behind : (old mid behind new : List ℕ) (whole : Bool) (bits all : List Bool) → mid ≡ old ++ behind → IsEnded mid new whole bits → bits_in behind ++ bits ≡ all → IsEnded old new whole all
ended_behind old mid behind new whole bits all put e is =
    let zeros : List Bool = replicate e.packed.pad false in
    record {
      back = behind ++ e.back;
      is = e.is ∙ ap (λ (bs : List ℕ). bs ++ e.back) put ∙ append_assoc old behind e.back;
      packed = record {
        pad = e.packed.pad;
        short = e.packed.short;
        filled = bits_in-append behind e.back ∙ ap (λ (bs : List Bool). bits_in behind ++ bs) e.packed.filled ∙ sym (append_assoc (bits_in behind) bits zeros) ∙ ap (λ (bs : List Bool). bs ++ zeros) is;
      };
    }

-- the same of bytes that waited
pub ended_staged : (start : ℕ) (old waited mid new : List ℕ) (whole : Bool) (bits all : List Bool) → start ≤ length old → mid ≡ old ++ waited → IsEnded mid new whole bits → bits_in (drop start old ++ waited) ++ bits ≡ all → IsEnded (take start old) new whole all
ended_staged start old waited mid new whole bits all h put e is =
    let parts : mid ≡ take start old ++ (drop start old ++ waited) = put ∙ ap (λ (bs : List ℕ). bs ++ waited) (sym (take-append-drop start old)) ∙ append_assoc (take start old) (drop start old) waited in
    ended_behind (take start old) mid (drop start old ++ waited) new whole bits all parts e is

-- the bytes from a place on are the ended bits
pub ended_body_staged : (start : ℕ) (old waited mid new : List ℕ) (whole : Bool) (bits all : List Bool) → start ≤ length old → mid ≡ old ++ waited → IsEnded mid new whole bits → bits_in (drop start old ++ waited) ++ bits ≡ all
    → IsPacked (drop start new) whole all
ended_body_staged start old waited mid new whole bits all h put e is =
    let ended = ended_staged start old waited mid new whole bits all h put e is in
    subst (λ (bs : List ℕ). IsPacked bs whole all) (sym (ap (drop start) ended.is ∙ drop_at (take start old) ended.back start (length-take-le start old h))) ended.packed

-- ---- the reader

pub more_fits : (have held b : ℕ) → have < 56 → held < 2 ^ have → b < 256 → held * 256 + b < 2 ^ (have + 8)
more_fits have held b h l s = omega (arith, mul-add-lt held 256 b (2 ^ have) l s, pow-add 2 have 8)

pub more_whole : (have held b : ℕ) → have < 56 → held < 2 ^ have → b < 256 → held * 256 + b < 2 ^ 64
more_whole have held b h l s = omega (arith, more_fits have held b h l s, pow_below (have + 8) 64 (omega arith))

pub taken_fits : (have count held : ℕ) → count ≤ have → held < 2 ^ have → held / 2 ^ (have - count) < 2 ^ count
taken_fits have count held h l = let all : have ≡ count + (have - count) = omega arith in shr_below held count (have - count) (subst (λ (k : ℕ). held < 2 ^ k) all l)

pub taken : (all rest : List Bool) (have count held : ℕ) → count ≤ have → have < 64 → bits_of have held ++ rest ≡ all
    → all ≡ bits_of count (held / 2 ^ (have - count)) ++ (bits_of (have - count) (held % (1 * 2 ^ (have - count) % 2 ^ 64)) ++ rest)
taken all rest have count held h few e =
    let parts : count + (have - count) ≡ have = omega arith in
    let mask : bits_of (have - count) (held % 2 ^ (have - count)) ≡ bits_of (have - count) (held % (1 * 2 ^ (have - count) % 2 ^ 64)) = bits_of-low (have - count) (have - count) held (omega arith) ∙ sym (masked (have - count) held (omega arith)) in
    sym e ∙ ap (λ (k : ℕ). bits_of k held ++ rest) (sym parts) ∙ take_number count (have - count) held rest ∙ ap (λ (bs : List Bool). bits_of count (held / 2 ^ (have - count)) ++ (bs ++ rest)) mask

pub all_taken : (all : List Bool) (have count held : ℕ) → have < count → bits_of have held ++ bits_in [] ≡ all → length all < count
all_taken all have count held h e = omega (arith, ap length (sym e), length-append (bits_of have held) (bits_in []), bits_of-length have held, ap length no_bytes)

pub one_bit : (n : ℕ) → n < 2 → bits_of 1 n ≡ eqb n 1 ∷ []
unfolding bits_of
one_bit n h = let low : n / 2 ^ 0 % 2 ≡ n = omega (arith, h) in ap (λ (d : ℕ). eqb d 1 ∷ []) low

halves_whole : (count high : ℕ) → 32 < count → count ≤ 64 → high < 2 ^ (count - 32) → high * 2 ^ 32 % 2 ^ 64 ≡ high * 2 ^ 32
halves_whole count high h k l = shl_whole high (count - 32) 32 64 l (omega arith)

pub joined_below : (count high low : ℕ) → 32 < count → count ≤ 64 → high < 2 ^ (count - 32) → low < 2 ^ 32 → high * 2 ^ 32 % 2 ^ 64 + low < 2 ^ count
joined_below count high low h k l m =
    let below : high * 2 ^ 32 + low < 2 ^ 32 * 2 ^ (count - 32) = mul-add-lt high (2 ^ 32) low (2 ^ (count - 32)) l m in
    let width : 2 ^ (32 + (count - 32)) ≡ 2 ^ 32 * 2 ^ (count - 32) = pow-add 2 32 (count - 32) in
    let all : 32 + (count - 32) ≡ count = omega arith in
    let whole = halves_whole count high h k l in
    subst (λ (e : ℕ). high * 2 ^ 32 % 2 ^ 64 + low < 2 ^ e) all (omega (arith, below, width, whole))

pub joined_halves : (all more rest : List Bool) (count high low : ℕ) → 32 < count → count ≤ 64 → high < 2 ^ (count - 32) → low < 2 ^ 32
    → all ≡ bits_of (count - 32) high ++ more → more ≡ bits_of 32 low ++ rest → all ≡ bits_of count (high * 2 ^ 32 % 2 ^ 64 + low) ++ rest
joined_halves all more rest count high low h k l m e f =
    let parts : (count - 32) + 32 ≡ count = omega arith in
    let number : bits_of (count - 32) high ++ bits_of 32 low ≡ bits_of count (high * 2 ^ 32 % 2 ^ 64 + low) =
    sym (bits_of-join (count - 32) 32 high low m) ∙ ap (λ (w : ℕ). bits_of w (high * 2 ^ 32 + low)) parts ∙ ap (λ (n : ℕ). bits_of count (n + low)) (sym (halves_whole count high h k l)) in
    e ∙ ap (λ (bs : List Bool). bits_of (count - 32) high ++ bs) f ∙ sym (append_assoc (bits_of (count - 32) high) (bits_of 32 low) rest) ∙ ap (λ (bs : List Bool). bs ++ rest) number
