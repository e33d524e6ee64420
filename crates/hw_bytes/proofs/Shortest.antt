-- The shortest spelling of a number.
use Rattle.std.proofs.Common.{◌≡◌, ℕ, zero, suc, ◌+◌, ◌-◌, ◌*◌, ◌/◌, ◌%◌, ◌^◌, ◌<◌, ◌≤◌, Bool, true, false, cond, ltb, List, [], ◌∷◌, ◌++◌, length, take, Result, Ok, Err, is_ok, refl, sym, ap, subst, ◌∙◌, arith, append_assoc}
use Rattle.std.specs.Prelude.{ℤ, pos, negsuc, FitsSigned, set}
use Rattle.std.specs.Int.{w64}
use Rattle.std.specs.Result.{OnOk}
use Rattle.std.proofs.lemmas.Bool.{ltb-false, ltb-true, lt-ltb, le-ltb}
use Rattle.std.proofs.lemmas.List.{take_more_set, length-set, length-append}
use Rattle.std.proofs.Math.Nat.{pow-suc}
use Rattle.hw_bytes.specs.Spellings.{IsBytes}
use Rattle.hw_bytes.specs.Numbers.{groups, IsContinued, IsUvarint, IsVarint, IsText, zigzag}
use Rattle.hw_bytes.specs.Writing.{uvarint_in, uvarint, varint, text, IsShortest}
use Rattle.hw_bytes.proofs.Codes.{bytes_cons, bytes_append, bytes_front}

-- ---- one group

room : (k n : ℕ) → n < 2 * 128 ^ suc k → n / 128 < 2 * 128 ^ k
room k n h = omega (arith, pow-suc 128 k)

uvarint_in-last : (k n : ℕ) → n < 128 → uvarint_in k n ≡ n ∷ []
unfolding uvarint_in
uvarint_in-last zero n h = refl
uvarint_in-last (suc k) n h = rw (lt-ltb n 128 h) refl

uvarint_in-more : (k n : ℕ) → 128 ≤ n → uvarint_in (suc k) n ≡ (n % 128 + 128) ∷ uvarint_in k (n / 128)
unfolding uvarint_in
uvarint_in-more k n h = rw (le-ltb n 128 h) refl

-- ---- the loop that writes them

-- `len` groups are written, and the rest of the number gives the others
pub record GroupsPut (len rest : ℕ) (spelled all : List ℕ) : Type 0 where
  pub short : len ≤ 9
  pub small : rest < 2 * 128 ^ (9 - len)
  pub parts : take len spelled ++ uvarint_in (9 - len) rest ≡ all
  pub long : length spelled ≡ 10

pub begun-none : (n : ℕ) (spelled : List ℕ) → n < 2 ^ 64 → length spelled ≡ 10 → GroupsPut 0 n spelled (uvarint n)
unfolding uvarint
begun-none n spelled h l = record { short = omega arith; small = omega (arith, h); parts = refl; long = l }

below_last : (len rest : ℕ) → len ≤ 9 → rest < 2 * 128 ^ (9 - len) → 128 ≤ rest → len < 9
below_last len rest short small large = by_left (9 - len) refl
  where
    by_left : (k : ℕ) → 9 - len ≡ k → len < 9
    by_left zero e = absurd (let two : rest < 2 * 128 ^ 0 = subst (λ (k : ℕ). rest < 2 * 128 ^ k) e small in omega (arith, two, large))
    by_left (suc k) e = omega (arith, e)

pub begun-more : (len rest : ℕ) (spelled more all : List ℕ) → GroupsPut len rest spelled all → 128 ≤ rest → more ≡ set spelled len (rest % 128 + 128) → GroupsPut (len + 1) (rest / 128) more all
begun-more len rest spelled more all s large is =
    let below : len < 9 = below_last len rest s.short s.small large in
    let left : 9 - len ≡ suc (9 - (len + 1)) = omega (arith, below) in
    let b : ℕ = rest % 128 + 128 in
    let front : take (len + 1) more ≡ take len spelled ++ b ∷ [] = ap (take (len + 1)) is ∙ take_more_set spelled len b (omega (arith, s.long, below)) in
    record {
      short = omega (arith, below);
      small = room (9 - (len + 1)) rest (subst (λ (k : ℕ). rest < 2 * 128 ^ k) left s.small);
      parts = ap (λ (t : List ℕ). t ++ uvarint_in (9 - (len + 1)) (rest / 128)) front ∙ append_assoc (take len spelled) (b ∷ []) (uvarint_in (9 - (len + 1)) (rest / 128))
          ∙ ap (λ (t : List ℕ). take len spelled ++ t) (sym (uvarint_in-more (9 - (len + 1)) rest large)) ∙ ap (λ (k : ℕ). take len spelled ++ uvarint_in k rest) (sym left) ∙ s.parts;
      long = ap length is ∙ length-set spelled len b ∙ s.long;
    }

pub begun-last : (len rest : ℕ) (spelled more all : List ℕ) → GroupsPut len rest spelled all → rest < 128 → more ≡ set spelled len rest → take (len + 1) more ≡ all
begun-last len rest spelled more all s small is =
    ap (take (len + 1)) is ∙ take_more_set spelled len rest (omega (arith, s.long, s.short)) ∙ ap (λ (t : List ℕ). take len spelled ++ t) (sym (uvarint_in-last (9 - len) rest small)) ∙ s.parts

pub put_whole : {X E : Type 0} (r : Result X E) (new old added all : List ℕ) → new ≡ cond (is_ok r) (old ++ added) old → added ≡ all → OnOk r (new ≡ old ++ all)
put_whole (Ok x) new old added all e is = e ∙ ap (λ (t : List ℕ). old ++ t) is
put_whole (Err x) new old added all e is = tt

-- ---- how many they are

-- `len` groups are counted, and the rest of the number gives the others of `all`
pub record GroupsCounted (len rest all : ℕ) : Type 0 where
  pub short : len ≤ 9
  pub small : rest < 2 * 128 ^ (9 - len)
  pub parts : len + length (uvarint_in (9 - len) rest) ≡ all

pub counted-none : (n : ℕ) → n < 2 ^ 64 → GroupsCounted 0 n (length (uvarint n))
unfolding uvarint
counted-none n h = record { short = omega arith; small = omega (arith, h); parts = omega arith }

pub counted-more : (len rest all : ℕ) → GroupsCounted len rest all → 128 ≤ rest → GroupsCounted (len + 1) (rest / 128) all
counted-more len rest all s large =
    let below : len < 9 = below_last len rest s.short s.small large in
    let left : 9 - len ≡ suc (9 - (len + 1)) = omega (arith, below) in
    let group : length (uvarint_in (9 - len) rest) ≡ suc (length (uvarint_in (9 - (len + 1)) (rest / 128))) = ap (λ (k : ℕ). length (uvarint_in k rest)) left ∙ ap length (uvarint_in-more (9 - (len + 1)) rest large) in
    record {
      short = omega (arith, below);
      small = room (9 - (len + 1)) rest (subst (λ (k : ℕ). rest < 2 * 128 ^ k) left s.small);
      parts = omega (arith, group, s.parts);
    }

pub counted-last : (len rest all : ℕ) → GroupsCounted len rest all → rest < 128 → len + 1 ≡ all
counted-last len rest all s small = omega (arith, s.parts, ap length (uvarint_in-last (9 - len) rest small))

-- ---- what is written is a spelling

record Spells (k n : ℕ) : Type 0 where
  pub small : IsBytes (uvarint_in k n)
  pub continued : IsContinued (uvarint_in k n)
  pub value : groups (uvarint_in k n) ≡ n
  pub short : length (uvarint_in k n) ≤ suc k
  pub some : 0 < length (uvarint_in k n)

single : (k n : ℕ) → n < 128 → Spells k n
single k n h =
    let is = uvarint_in-last k n h in
    record {
      small = subst IsBytes (sym is) (bytes_cons n [] (omega arith) (λ i. omega arith));
      continued = subst IsContinued (sym is) h;
      value = ap groups is ∙ omega arith;
      short = omega (arith, ap length is);
      some = omega (arith, ap length is);
    }

more_continued : (b : ℕ) (bytes : List ℕ) → 128 ≤ b → 0 < length bytes → IsContinued bytes → IsContinued (b ∷ bytes)
more_continued b [] large some h = absurd (omega (arith, some))
more_continued b (c ∷ more) large some h = (large, h)

several : (k n : ℕ) → 128 ≤ n → Spells k (n / 128) → Spells (suc k) n
several k n large next =
    let is = uvarint_in-more k n large in
    record {
      small = subst IsBytes (sym is) (bytes_cons (n % 128 + 128) (uvarint_in k (n / 128)) (omega arith) next.small);
      continued = subst IsContinued (sym is) (more_continued (n % 128 + 128) (uvarint_in k (n / 128)) (omega arith) next.some next.continued);
      value = ap groups is ∙ omega (arith, next.value);
      short = omega (arith, ap length is, next.short);
      some = omega (arith, ap length is);
    }

spells : (k n : ℕ) (small : Bool) → ltb n 128 ≡ small → n < 2 * 128 ^ k → Spells k n
spells zero n small e h = single zero n (omega (arith, h))
spells (suc k) n true e h = single (suc k) n (ltb-true n 128 e)
spells (suc k) n false e h = several k n (ltb-false n 128 e) (spells k (n / 128) (ltb (n / 128) 128) refl (room k n h))

-- ---- and the shortest one

least : (k n : ℕ) (others : List ℕ) (small : Bool) → ltb n 128 ≡ small → IsContinued others → groups others ≡ n → length others ≤ suc k → length (uvarint_in k n) ≤ length others
least k n [] small e c g l = absurd c
least zero n (b ∷ []) small e c g l = omega (arith, ap length (uvarint_in-last zero n (omega (arith, g))))
least zero n (b ∷ d ∷ more) small e c g l = absurd (omega (arith, l))
least (suc k) n (b ∷ more) true e c g l = omega (arith, ap length (uvarint_in-last (suc k) n (ltb-true n 128 e)))
least (suc k) n (b ∷ []) false e c g l = absurd (omega (arith, g, ltb-false n 128 e))
least (suc k) n (b ∷ d ∷ more) false e c g l =
    let next : groups (d ∷ more) ≡ n / 128 = omega (arith, g) in
    omega (arith, ap length (uvarint_in-more k n (ltb-false n 128 e)), least k (n / 128) (d ∷ more) (ltb (n / 128) 128) refl c.1 next (omega (arith, l)))

only : (k n : ℕ) (others : List ℕ) (small : Bool) → ltb n 128 ≡ small → n < 2 * 128 ^ k → IsBytes others → IsContinued others → groups others ≡ n → length others ≤ length (uvarint_in k n) → others ≡ uvarint_in k n
only k n [] small e h i c g l = absurd c
only k n (b ∷ []) true e h i c g l = (let one : b ≡ n = omega (arith, g, c) in ap (λ (x : ℕ). x ∷ []) one ∙ sym (uvarint_in-last k n (ltb-true n 128 e)))
only k n (b ∷ d ∷ more) true e h i c g l = absurd (omega (arith, l, ap length (uvarint_in-last k n (ltb-true n 128 e))))
only zero n (b ∷ more) false e h i c g l = absurd (omega (arith, h, ltb-false n 128 e))
only (suc k) n (b ∷ []) false e h i c g l = absurd (omega (arith, g, ltb-false n 128 e))
only (suc k) n (b ∷ d ∷ more) false e h i c g l =
    let byte : b < 256 = i 0 in
    let is = uvarint_in-more k n (ltb-false n 128 e) in
    let first : b ≡ n % 128 + 128 = omega (arith, g, c.0, byte) in
    let next : groups (d ∷ more) ≡ n / 128 = omega (arith, g) in
    let rest = only k (n / 128) (d ∷ more) (ltb (n / 128) 128) refl (room k n h) (λ j. i (suc j)) c.1 next (omega (arith, l, ap length is)) in
    ap (λ (x : ℕ). x ∷ d ∷ more) first ∙ ap (λ (xs : List ℕ). (n % 128 + 128) ∷ xs) rest ∙ sym is

pub uvarint_shortest : (n : ℕ) → n < 2 ^ 64 → IsShortest IsUvarint (uvarint n) n
unfolding uvarint
uvarint_shortest n h =
    let room : n < 2 * 128 ^ 9 = omega (arith, h) in
    let s = spells 9 n (ltb n 128) refl room in
    record {
      small = s.small;
      spelled = record { continued = s.continued; short = s.short; value = sym s.value; fits = h };
      least = λ others o. least 9 n others (ltb n 128) refl o.continued (sym o.value) o.short;
      only = λ others i o l. only 9 n others (ltb n 128) refl room i o.continued (sym o.value) l;
    }

zigzag_fits : (z : ℤ) → FitsSigned w64 z → zigzag z < 2 ^ 64
zigzag_fits (pos n) h = omega (arith, h.sfits)
zigzag_fits (negsuc n) h = omega (arith, h.sfits)

pub varint_shortest : (z : ℤ) → FitsSigned w64 z → IsShortest IsVarint (varint z) z
varint_shortest z h = (let s = uvarint_shortest (zigzag z) (zigzag_fits z h) in record { small = s.small; spelled = s.spelled; least = s.least; only = s.only })

pub text_shortest : (bytes : List ℕ) → IsBytes bytes → length bytes < 2 ^ 64 → IsShortest IsText (text bytes) bytes
text_shortest bytes i h =
    let s = uvarint_shortest (length bytes) h in
    record {
      small = bytes_append (uvarint (length bytes)) bytes s.small i;
      spelled = (uvarint (length bytes), s.spelled, refl);
      least = λ others o. omega (arith, ap length o.2, length-append o.0 bytes, length-append (uvarint (length bytes)) bytes, s.least o.0 o.1);
      only = λ others j o l. (
          let front : length o.0 ≤ length (uvarint (length bytes)) = omega (arith, ap length o.2, length-append o.0 bytes, length-append (uvarint (length bytes)) bytes, l) in
          o.2 ∙ ap (λ (xs : List ℕ). xs ++ bytes) (s.only o.0 (bytes_front o.0 bytes (subst IsBytes o.2 j)) o.1 front)
          );
    }
