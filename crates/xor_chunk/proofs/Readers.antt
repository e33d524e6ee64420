-- A chunk that is read sample by sample.
use Rattle.std.proofs.Common.{◌≡◌, ℕ, zero, suc, ◌+◌, ◌-◌, ◌<◌, cond, eqb, Bool, true, false, List, [], ◌∷◌, ◌++◌, Option, Some, None, Result, Ok, Err, refl, sym, ap, ◌∙◌, arith, append_assoc, drop, ◌≤◌, length, length-append}
use Rattle.std.specs.Prelude.{ℤ, filter, int_lt}
use Rattle.std.proofs.lemmas.List.{append-nil}
use Rattle.std.proofs.lemmas.List.Elements.{filter-append}
use Rattle.hw_bytes.specs.Reading.{uvarint_at}
use Rattle.xor_chunk.specs.declared.sample.Sample.{Sample}
use Rattle.xor_chunk.specs.Bits.{bits_in}
use Rattle.xor_chunk.specs.Chunks.{pattern}
use Rattle.xor_chunk.specs.Private.{rest_of}
use Rattle.xor_chunk.specs.Reading.{◌>>=◌, found_map, first_at, second_at, tail_at, second_of, value_at, sample_at, sample_of, samples_at, or_bad}
use Rattle.xor_chunk.specs.declared.before.BitWindow.{BitWindow}
use Rattle.xor_chunk.specs.declared.before.Before.{Before}
use Rattle.xor_chunk.specs.declared.before.Last.{Last}
use Rattle.xor_chunk.specs.declared.before.Last.TheVariants.{Nothing, First, Later}
use Rattle.xor_chunk.specs.declared.fault.XorFault.{XorFault}
use Rattle.xor_chunk.specs.declared.fault.XorFault.TheVariants.{BadNumber}
use Rattle.xor_chunk.proofs.Front.{first_none, second_bad, second_more, second_one, tail_bad, tail_found}

-- ---- samples that are read behind others

then_same : {A : Type 0} (r : Result A XorFault) (f h : A → Result (List Sample) XorFault) (g : List Sample → List Sample) → ((x : A) → f x ≡ found_map g (h x)) → (r >>= f) ≡ found_map g (r >>= h)
then_same (Err fault) f h g same = refl
then_same (Ok x) f h g same = same x

samples_behind : (n : ℕ) (front read : List Sample) (b : Before) (bits : List Bool) → samples_at n (front ++ read) b bits ≡ found_map (λ more. front ++ more) (samples_at n read b bits)
unfolding samples_at
samples_behind zero front read b bits = refl
samples_behind (suc n) front read b bits =
    then_same (sample_at b bits) (λ x. samples_at n ((front ++ read) ++ sample_of x.0 ∷ []) x.0 x.1) (λ x. samples_at n (read ++ sample_of x.0 ∷ []) x.0 x.1) (λ more. front ++ more)
    (λ x. ap (λ (l : List Sample). samples_at n l x.0 x.1) (append_assoc front read (sample_of x.0 ∷ [])) ∙ samples_behind n front (read ++ sample_of x.0 ∷ []) x.0 x.1)

samples_next : (n : ℕ) (b next : Before) (bits new : List Bool) → Ok (next, new) ≡ sample_at b bits → samples_at (suc n) [] b bits ≡ found_map (λ more. sample_of next ∷ more) (samples_at n [] next new)
unfolding samples_at
samples_next n b next bits new e =
    sym (ap (λ (r : Result (Before × List Bool) XorFault). r >>= λ x. samples_at n (sample_of x.0 ∷ []) x.0 x.1) e) ∙ samples_behind n (sample_of next ∷ []) [] next new

samples_stop : (n : ℕ) (b : Before) (bits : List Bool) (fault : XorFault) → Err fault ≡ sample_at b bits → samples_at (suc n) [] b bits ≡ Err fault
unfolding samples_at
samples_stop n b bits fault e = sym (ap (λ (r : Result (Before × List Bool) XorFault). r >>= λ x. samples_at n (sample_of x.0 ∷ []) x.0 x.1) e)

one_less : (left : ℕ) → 0 < left → left ≡ suc (left - 1)
one_less left h = omega arith

pub later_found : (left : ℕ) (b next : Before) (bytes bytes' : List ℕ) (bits new : List Bool) → 0 < left → Ok (next, new) ≡ sample_at b bits
    → rest_of left (Later b) bytes bits ≡ found_map (λ more. sample_of next ∷ more) (rest_of (left - 1) (Later next) bytes' new)
unfolding rest_of
later_found left b next bytes bytes' bits new h e = ap (λ (n : ℕ). samples_at n [] b bits) (one_less left h) ∙ samples_next (left - 1) b next bits new e

pub later_bad : (left : ℕ) (b : Before) (bytes : List ℕ) (bits : List Bool) (fault : XorFault) → 0 < left → Err fault ≡ sample_at b bits → rest_of left (Later b) bytes bits ≡ Err fault
unfolding rest_of
later_bad left b bytes bits fault h e = ap (λ (n : ℕ). samples_at n [] b bits) (one_less left h) ∙ samples_stop (left - 1) b bits fault e

-- ---- the second sample

pub second_found : (n : ℕ) (first : Sample) (bytes rest : List ℕ) (delta len t v : ℕ) (o : Option BitWindow) (new : List Bool) → Some (delta, len) ≡ uvarint_at bytes → rest ≡ drop len bytes → t ≡ pattern first.time
    → Ok (v, o, new) ≡ value_at None (pattern first.value) (bits_in rest)
    → second_at (n + 2) first bytes ≡ found_map (λ more. first ∷ sample_of (second_of t delta v o) ∷ more) (samples_at n [] (second_of t delta v o) new)
second_found n first bytes rest delta len t v o new e f is value =
    let s : Before = second_of (pattern first.time) delta v o in
    let count : n + 2 - 2 ≡ n = omega arith in
    sym (second_more (n + 2) first bytes rest delta len (λ h. omega (arith, h)) e f) ∙ sym (tail_found (n + 2) first delta v o (bits_in rest) new value) ∙ ap (λ (m : ℕ). samples_at m (first ∷ sample_of s ∷ []) s new) count
    ∙ samples_behind n (first ∷ sample_of s ∷ []) [] s new ∙ ap (λ (m : ℕ). found_map (λ more. first ∷ sample_of (second_of m delta v o) ∷ more) (samples_at n [] (second_of m delta v o) new)) (sym is)

pub second_none : (n : ℕ) (first : Sample) (bytes : List ℕ) → None ≡ uvarint_at bytes → second_at (n + 2) first bytes ≡ Err BadNumber
second_none n first bytes e = second_bad (n + 2) first bytes (λ h. omega (arith, h)) e

pub second_stop : (n : ℕ) (first : Sample) (bytes rest : List ℕ) (delta len : ℕ) (fault : XorFault) → Some (delta, len) ≡ uvarint_at bytes → rest ≡ drop len bytes → Err fault ≡ value_at None (pattern first.value) (bits_in rest)
    → second_at (n + 2) first bytes ≡ Err fault
second_stop n first bytes rest delta len fault e f bad =
    sym (second_more (n + 2) first bytes rest delta len (λ h. omega (arith, h)) e f) ∙ tail_bad (n + 2) first delta (bits_in rest) fault bad

found_twice : {A B C : Type 0} (g : B → C) (f : A → B) (r : Result A XorFault) → found_map g (found_map f r) ≡ found_map (λ x. g (f x)) r
found_twice g f (Err fault) = refl
found_twice g f (Ok x) = refl

pub first_to_second : (left : ℕ) (first : Sample) (next : Before) (bytes bytes' : List ℕ) (bits new : List Bool) → 0 < left
    → ((n : ℕ) → second_at (n + 2) first bytes ≡ found_map (λ more. first ∷ sample_of next ∷ more) (samples_at n [] next new))
    → rest_of left (First first) bytes bits ≡ found_map (λ more. sample_of next ∷ more) (rest_of (left - 1) (Later next) bytes' new)
unfolding rest_of
first_to_second left first next bytes bytes' bits new h is =
    let count : left + 1 ≡ (left - 1) + 2 = omega arith in
    ap (λ (n : ℕ). found_map (drop 1) (second_at n first bytes)) count ∙ ap (λ (r : Result (List Sample) XorFault). found_map (drop 1) r) (is (left - 1))
    ∙ found_twice (drop 1) (λ more. first ∷ sample_of next ∷ more) (samples_at (left - 1) [] next new)

pub first_to_bad : (left : ℕ) (first : Sample) (bytes : List ℕ) (bits : List Bool) (fault : XorFault) → 0 < left → ((n : ℕ) → second_at (n + 2) first bytes ≡ Err fault) → rest_of left (First first) bytes bits ≡ Err fault
unfolding rest_of
first_to_bad left first bytes bits fault h is =
    let count : left + 1 ≡ (left - 1) + 2 = omega arith in
    ap (λ (n : ℕ). found_map (drop 1) (second_at n first bytes)) count ∙ ap (λ (r : Result (List Sample) XorFault). found_map (drop 1) r) (is (left - 1))

-- ---- the first sample

-- all samples, of which `a` is the first, again
again : Sample → Result (List Sample) XorFault → Type 0
again a r = r ≡ found_map (λ more. a ∷ more) (found_map (drop 1) r)

again_behind : (a s : Sample) (n : ℕ) (b : Before) (bits : List Bool) → again a (samples_at n (a ∷ s ∷ []) b bits)
unfolding again
again_behind a s n b bits = by (samples_at n [] b bits) (samples_behind n (a ∷ s ∷ []) [] b bits)
  where
    by : (r : Result (List Sample) XorFault) → samples_at n (a ∷ s ∷ []) b bits ≡ found_map (λ more. a ∷ s ∷ more) r → samples_at n (a ∷ s ∷ []) b bits ≡ found_map (λ more. a ∷ more) (found_map (drop 1) (samples_at n (a ∷ s ∷ []) b bits))
    by (Err fault) e = e ∙ sym (ap (λ (x : Result (List Sample) XorFault). found_map (λ more. a ∷ more) (found_map (drop 1) x)) e)
    by (Ok l) e = e ∙ sym (ap (λ (x : Result (List Sample) XorFault). found_map (λ more. a ∷ more) (found_map (drop 1) x)) e)

again_then : {A : Type 0} (a : Sample) (r : Result A XorFault) (f : A → Result (List Sample) XorFault) → ((x : A) → again a (f x)) → again a (r >>= f)
unfolding again
again_then a (Err fault) f h = refl
again_then a (Ok x) f h = h x

again_either : (a : Sample) (c : Bool) (x y : Result (List Sample) XorFault) → again a x → again a y → again a (cond c x y)
again_either a false x y h k = k
again_either a true x y h k = h

one_again : (a : Sample) → again a (Ok (a ∷ []))
unfolding again
one_again a = refl

second_again : (count : ℕ) (a : Sample) (bytes : List ℕ) → again a (second_at count a bytes)
unfolding second_at tail_at
second_again count a bytes =
    again_either a (eqb count 1) (Ok (a ∷ [])) _ (one_again a)
    (again_then a (or_bad (uvarint_at bytes)) _
    (λ delta. again_then a (value_at None (pattern a.value) (bits_in (drop delta.1 bytes))) _ (λ value. again_behind a _ (count - 2) _ value.2)))

pub nothing_to_first : (left : ℕ) (first : Sample) (bytes rest : List ℕ) (bits bits' : List Bool) → 0 < left → ((count : ℕ) → (count ≡ 0 → ⊥) → first_at count bytes ≡ second_at count first rest)
    → rest_of left Nothing bytes bits ≡ found_map (λ more. first ∷ more) (rest_of (left - 1) (First first) rest bits')
unfolding rest_of again
nothing_to_first left first bytes rest bits bits' h is =
    let count : left ≡ (left - 1) + 1 = omega arith in
    is left (λ e. omega (arith, h, e)) ∙ second_again left first rest ∙ ap (λ (n : ℕ). found_map (λ more. first ∷ more) (found_map (drop 1) (second_at n first rest))) count

pub nothing_to_bad : (left : ℕ) (bytes : List ℕ) (bits : List Bool) (fault : XorFault) → 0 < left → ((count : ℕ) → (count ≡ 0 → ⊥) → first_at count bytes ≡ Err fault) → rest_of left Nothing bytes bits ≡ Err fault
unfolding rest_of
nothing_to_bad left bytes bits fault h is = is left (λ e. omega (arith, h, e))

-- ---- the end

pub none_left : (left : ℕ) (last : Last) (bytes : List ℕ) (bits : List Bool) → left ≡ 0 → rest_of left last bytes bits ≡ Ok []
unfolding rest_of samples_at
none_left left Nothing bytes bits h = first_none left bytes h
none_left left (First a) bytes bits h = let one : left + 1 ≡ 1 = omega (arith, h) in ap (λ (r : Result (List Sample) XorFault). found_map (drop 1) r) (second_one (left + 1) a bytes one)
none_left left (Later b) bytes bits h = ap (λ (n : ℕ). samples_at n [] b bits) h

-- ---- all samples

-- `read` are read, and then those that are left
abbrev pub AreRead : Result (List Sample) XorFault → List Sample → Result (List Sample) XorFault → Type 0
AreRead all read rest = all ≡ found_map (λ more. read ++ more) rest

pub read_none : (all : Result (List Sample) XorFault) → AreRead all [] all
read_none (Err fault) = refl
read_none (Ok l) = refl

pub read_more : (all rest next : Result (List Sample) XorFault) (read more : List Sample) (s : Sample) → AreRead all read rest → rest ≡ found_map (λ l. s ∷ l) next → more ≡ read ++ s ∷ [] → AreRead all more next
read_more all rest (Err fault) read more s h e f = h ∙ ap (λ (r : Result (List Sample) XorFault). found_map (λ l. read ++ l) r) e
read_more all rest (Ok l) read more s h e f = h ∙ ap (λ (r : Result (List Sample) XorFault). found_map (λ k. read ++ k) r) e ∙ ap Ok (sym (append_assoc read (s ∷ []) l) ∙ ap (λ (k : List Sample). k ++ l) (sym f))

pub read_all : (all rest : Result (List Sample) XorFault) (read : List Sample) → AreRead all read rest → rest ≡ Ok [] → all ≡ Ok read
read_all all rest read h e = h ∙ ap (λ (r : Result (List Sample) XorFault). found_map (λ l. read ++ l) r) e ∙ ap Ok (append-nil read)

pub read_bad : (all rest : Result (List Sample) XorFault) (read : List Sample) (fault : XorFault) → AreRead all read rest → rest ≡ Err fault → all ≡ Err fault
read_bad all rest read fault h e = h ∙ ap (λ (r : Result (List Sample) XorFault). found_map (λ l. read ++ l) r) e

-- ---- samples before a time

-- so many of the samples that are read are before the time
pub record AreCounted (all rest : Result (List Sample) XorFault) (time : ℤ) (count left most : ℕ) : Type 0 where
  pub read : List Sample
  pub are : AreRead all read rest
  pub count_is : count ≡ length (filter (λ s. int_lt s.time time) read)
  pub few : count + left ≤ most

pub counted_none : (all : Result (List Sample) XorFault) (time : ℤ) (left : ℕ) → AreCounted all all time 0 left left
counted_none all time left = record { read = []; are = read_none all; count_is = refl; few = omega arith }

one_length : (b : Bool) (s : Sample) → length (cond b (s ∷ []) []) ≡ cond b 1 0
one_length false s = refl
one_length true s = refl

count_more : (time : ℤ) (read : List Sample) (s : Sample) → length (filter (λ x. int_lt x.time time) (read ++ s ∷ [])) ≡ length (filter (λ x. int_lt x.time time) read) + cond (int_lt s.time time) 1 0
count_more time read s =
    ap length (filter-append (λ x. int_lt x.time time) read (s ∷ [])) ∙ length-append (filter (λ x. int_lt x.time time) read) (filter (λ x. int_lt x.time time) (s ∷ [])) ∙ ap (λ n. length (filter (λ x. int_lt x.time time) read) + n) (one_length (int_lt s.time time) s)

one_most : (b : Bool) → cond b 1 0 ≤ 1
one_most false = omega arith
one_most true = omega arith

pub counted_more : (all rest next : Result (List Sample) XorFault) (time : ℤ) (count left less most more : ℕ) (s : Sample) → AreCounted all rest time count left most → rest ≡ found_map (λ l. s ∷ l) next → less < left → more ≡ count + cond (int_lt s.time time) 1 0
    → AreCounted all next time more less most
counted_more all rest next time count left less most more s h e f g = record {
  read = h.read ++ s ∷ [];
  are = read_more all rest next h.read (h.read ++ s ∷ []) s h.are e refl;
  count_is = g ∙ ap (λ n. n + cond (int_lt s.time time) 1 0) h.count_is ∙ sym (count_more time h.read s);
  few = omega (arith, h.few, f, g, one_most (int_lt s.time time));
}

ok_same : (a b : List Sample) → ◌≡◌ {A = Result (List Sample) XorFault} (Ok a) (Ok b) → a ≡ b
ok_same a b e = cc

pub counted_all : (all rest : Result (List Sample) XorFault) (time : ℤ) (count left most : ℕ) (samples : List Sample) → AreCounted all rest time count left most → rest ≡ Ok [] → all ≡ Ok samples → count ≡ length (filter (λ s. int_lt s.time time) samples)
counted_all all rest time count left most samples h e f = h.count_is ∙ ap (λ l. length (filter (λ s. int_lt s.time time) l)) (ok_same h.read samples (sym (read_all all rest h.read h.are e) ∙ f))

pub counted_bad : (all rest : Result (List Sample) XorFault) (time : ℤ) (count left most : ℕ) (samples : List Sample) (fault : XorFault) → AreCounted all rest time count left most → rest ≡ Err fault → all ≡ Ok samples → ⊥
counted_bad all rest time count left most samples fault h e f = clash (read_bad all rest h.read fault h.are e) f
  where
    clash : all ≡ Err fault → all ≡ Ok samples → ⊥
    clash p q = cc
