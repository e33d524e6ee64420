-- A chunk at the front of some bytes.
use Rattle.std.proofs.Common.{◌≡◌, ℕ, ◌+◌, ◌/◌, ◌%◌, min, ◌<◌, ◌≤◌, ◌^◌, List, [], ◌∷◌, ◌++◌, length, take, drop, get_or, Option, None, Some, IfNone, refl, sym, ap, subst, ◌∙◌, append_assoc, arith}
use Rattle.std.proofs.lemmas.List.{length-append, take-append-drop, take_at, drop_at, length-take-le, length-drop}
use Rattle.std.specs.List.{slice_get}
use Rattle.std.proofs.lemmas.Bool.{cases_lt}
use Rattle.std.proofs.Common.{inl, inr}
use Rattle.hw_bytes.specs.Spellings.{IsAt, IsNowhere, IsBytes}
use Rattle.hw_bytes.specs.Numbers.{IsFixed, IsUvarint}
use Rattle.hw_bytes.specs.Writing.{big_bytes}
use Rattle.hw_bytes.specs.Checksum.{crc32c}
use Rattle.hw_bytes.proofs.Codes.{after, bytes_drop, bytes_take}
use Rattle.hw_bytes.proofs.Division.{crc32c_fits}
use Rattle.hw_bytes.proofs.Fixed.{fixed_code}
use Rattle.hw_bytes.proofs.Groups.{uvarint_code}
use Rattle.std.proofs.Common.{lit<}
use Rattle.hw_bytes.specs.Sums.{Text, sum_text}
use Rattle.block_files.specs.declared.encoding.Encoding.{Encoding}
use Rattle.block_files.specs.declared.encoding.Encoding.TheVariants.{Raw, Xor}
use Rattle.block_files.specs.Files.{BeginsWith, StandsAt, encoding_byte}

pub if_none : {Y : Type 0} (o : Option Y) {Q : Type 0} → Q → IfNone o Q
if_none None q = q
if_none (Some y) q = tt

pub if_none_then : {Y : Type 0} (o : Option Y) {P Q : Type 0} → IfNone o P → (P → Q) → IfNone o Q
if_none_then None p f = f p
if_none_then (Some y) p f = tt

regrouped : (a b c d : List ℕ) → ((a ++ b) ++ c) ++ d ≡ a ++ (b ++ (c ++ d))
regrouped a b c d = append_assoc (a ++ b) c d ∙ append_assoc a b (c ++ d)

-- the bytes of a chunk after its length
pub record Behind (enc : Encoding) (behind body : Text) : Type 0 where
  pub rest : Text
  pub whole : behind ≡ (encoding_byte enc ∷ body) ++ (sum_text (encoding_byte enc ∷ body) ++ rest)

-- its length is the one that was read
pub behind_length : (enc : Encoding) (bytes behind body : Text) (len start : ℕ) → IsAt IsUvarint bytes len start → behind ≡ drop start bytes → BeginsWith enc bytes body → (len ≡ length body) × Behind enc behind body
behind_length enc bytes behind body len start at i h =
    let a = after IsUvarint uvarint_code.one bytes h.spelled ((encoding_byte enc ∷ body) ++ (sum_text (encoding_byte enc ∷ body) ++ h.rest)) len (length body) start at h.is_length
    (h.whole ∙ regrouped h.spelled (encoding_byte enc ∷ body) (sum_text (encoding_byte enc ∷ body)) h.rest) in
    (a.0, record { rest = h.rest; whole = i ∙ a.1 })

pub no_length : (enc : Encoding) (bytes body : Text) → IsNowhere IsUvarint bytes → BeginsWith enc bytes body → ⊥
no_length enc bytes body none h = none h.spelled ((encoding_byte enc ∷ body) ++ (sum_text (encoding_byte enc ∷ body) ++ h.rest)) (length body) h.is_length (h.whole ∙ regrouped h.spelled (encoding_byte enc ∷ body) (sum_text (encoding_byte enc ∷ body)) h.rest)

pub behind_long : (enc : Encoding) (behind body : Text) (len : ℕ) → len ≡ length body → Behind enc behind body → len < length behind
behind_long enc behind body len e h = omega (arith, e, ap length h.whole, length-append (encoding_byte enc ∷ body) (sum_text (encoding_byte enc ∷ body) ++ h.rest))

pub behind_summed : (enc : Encoding) (behind summed body : Text) (len : ℕ) → len ≡ length body → summed ≡ take (len + 1) behind → Behind enc behind body → summed ≡ encoding_byte enc ∷ body
behind_summed enc behind summed body len e i h =
    let n : length (encoding_byte enc ∷ body) ≡ len + 1 = omega (arith, e) in
    i ∙ ap (take (len + 1)) h.whole ∙ take_at (encoding_byte enc ∷ body) (sum_text (encoding_byte enc ∷ body) ++ h.rest) (len + 1) n

pub behind_sum : (enc : Encoding) (behind rest body : Text) (len : ℕ) → len ≡ length body → rest ≡ drop (len + 1) behind → (h : Behind enc behind body) → rest ≡ sum_text (encoding_byte enc ∷ body) ++ h.rest
behind_sum enc behind rest body len e i h =
    let n : length (encoding_byte enc ∷ body) ≡ len + 1 = omega (arith, e) in
    i ∙ ap (drop (len + 1)) h.whole ∙ drop_at (encoding_byte enc ∷ body) (sum_text (encoding_byte enc ∷ body) ++ h.rest) (len + 1) n

fixed_four : (f r g s : List ℕ) (x y : ℕ) → IsFixed 4 f x → IsFixed 4 g y → f ++ r ≡ g ++ s → (x ≡ y) × (r ≡ s)
fixed_four = (fixed_code 4 (lit< tt)).one

-- the checksum that was read is that of these bytes
pub sum_is : (rest summed more : Text) (sum : ℕ) → IsBytes summed → IsAt (IsFixed 4) rest sum 4 → rest ≡ sum_text summed ++ more → sum ≡ crc32c summed
unfolding sum_text
sum_is rest summed more sum small at e = (after (IsFixed 4) fixed_four rest (big_bytes 4 (crc32c summed)) more sum (crc32c summed) 4 at (refl, crc32c_fits summed small) e).0

pub no_sum : (rest summed more : Text) → IsBytes summed → IsNowhere (IsFixed 4) rest → rest ≡ sum_text summed ++ more → ⊥
unfolding sum_text
no_sum rest summed more small none e = none (big_bytes 4 (crc32c summed)) more (crc32c summed) (refl, crc32c_fits summed small) e

pub summed_small : (bytes behind summed : Text) (start len : ℕ) → IsBytes bytes → behind ≡ drop start bytes → summed ≡ take (len + 1) behind → IsBytes summed
summed_small bytes behind summed start len small i j = subst IsBytes (sym j) (bytes_take (len + 1) behind (bytes_drop bytes behind start small i))

-- ---- what was found is a chunk

sum_front : (rest : Text) (sum : ℕ) → IsAt (IsFixed 4) rest sum 4 → rest ≡ big_bytes 4 sum ++ drop 4 rest
sum_front rest sum at = sym (take-append-drop 4 rest) ∙ ap (λ (t : List ℕ). t ++ drop 4 rest) at.spelled.0

first_is : (enc : Encoding) (summed : Text) → 0 < length summed → get_or summed 0 0 ≡ encoding_byte enc → summed ≡ encoding_byte enc ∷ drop 1 summed
first_is enc [] some e = absurd (omega arith)
first_is enc (c ∷ more) some e = ap (λ (b : ℕ). b ∷ more) e

pub begins : (enc : Encoding) (bytes behind summed rest body : Text) (len start sum : ℕ) → IsAt IsUvarint bytes len start → behind ≡ drop start bytes → len < length behind → summed ≡ take (len + 1) behind → rest ≡ drop (len + 1) behind
    → get_or summed 0 0 ≡ encoding_byte enc → IsAt (IsFixed 4) rest sum 4 → sum ≡ crc32c summed → body ≡ drop 1 summed → BeginsWith enc bytes body
unfolding sum_text
begins enc bytes behind summed rest body len start sum at i lt j k first four same b =
    let long : length summed ≡ len + 1 = ap length j ∙ length-take-le (len + 1) behind (omega (arith, lt)) in
    let is : summed ≡ encoding_byte enc ∷ body = first_is enc summed (omega (arith, long)) first ∙ ap (λ (t : Text). encoding_byte enc ∷ t) (sym b) in
    let n : len ≡ length body = omega (arith, long, ap length is) in
    let tail : rest ≡ big_bytes 4 (crc32c (encoding_byte enc ∷ body)) ++ drop 4 rest = sum_front rest sum four ∙ ap (λ (m : ℕ). big_bytes 4 m ++ drop 4 rest) (same ∙ ap crc32c is) in
    let split : behind ≡ (encoding_byte enc ∷ body) ++ rest = sym (take-append-drop (len + 1) behind) ∙ ap (λ (t : List ℕ). t ++ drop (len + 1) behind) (sym j ∙ is) ∙ ap (λ (t : List ℕ). (encoding_byte enc ∷ body) ++ t) (sym k) in
    record {
      spelled = take start bytes;
      rest = drop 4 rest;
      is_length = subst (λ (m : ℕ). IsUvarint (take start bytes) m) n at.spelled;
      whole = sym (take-append-drop start bytes) ∙ ap (λ (t : List ℕ). take start bytes ++ t) (sym i ∙ split ∙ ap (λ (t : List ℕ). (encoding_byte enc ∷ body) ++ t) tail)
          ∙ sym (regrouped (take start bytes) (encoding_byte enc ∷ body) (big_bytes 4 (crc32c (encoding_byte enc ∷ body))) (drop 4 rest));
    }

-- ---- bytes begin with one chunk at most

same_encoding : (d e : Encoding) → encoding_byte d ≡ encoding_byte e → d ≡ e
same_encoding Raw Raw h = refl
same_encoding Raw Xor h = absurd (omega (arith, h))
same_encoding Xor Raw h = absurd (omega (arith, h))
same_encoding Xor Xor h = refl

pub one_begins : (d e : Encoding) (bytes a b : Text) → BeginsWith d bytes a → BeginsWith e bytes b → (d ≡ e) × (a ≡ b)
one_begins d e bytes a b p q =
    let left : Text = (encoding_byte d ∷ a) ++ (sum_text (encoding_byte d ∷ a) ++ p.rest) in
    let right : Text = (encoding_byte e ∷ b) ++ (sum_text (encoding_byte e ∷ b) ++ q.rest) in
    let same = uvarint_code.one p.spelled left q.spelled right (length a) (length b) p.is_length q.is_length
    (sym (p.whole ∙ regrouped p.spelled (encoding_byte d ∷ a) (sum_text (encoding_byte d ∷ a)) p.rest) ∙ q.whole ∙ regrouped q.spelled (encoding_byte e ∷ b) (sum_text (encoding_byte e ∷ b)) q.rest) in
    let heads : encoding_byte d ≡ encoding_byte e = ap (λ (t : List ℕ). get_or t 0 0) same.1 in
    let tails : a ++ (sum_text (encoding_byte d ∷ a) ++ p.rest) ≡ b ++ (sum_text (encoding_byte e ∷ b) ++ q.rest) = ap (drop 1) same.1 in (
      same_encoding d e heads,
      sym (take_at a (sum_text (encoding_byte d ∷ a) ++ p.rest) (length a) refl) ∙ ap (take (length a)) tails ∙ take_at b (sum_text (encoding_byte e ∷ b) ++ q.rest) (length a) (sym same.0),
    )

-- ---- a reference

drop_past : (k : ℕ) (xs : Text) → length xs ≤ k → drop k xs ≡ []
drop_past k xs le = none (drop k xs) (omega (arith, length-drop k xs, le))
  where
    none : (ys : Text) → length ys ≡ 0 → ys ≡ []
    none [] e = refl
    none (y ∷ ys) e = absurd (omega (arith, e))

drop_min : (k : ℕ) (xs : Text) → drop (min k (length xs)) xs ≡ drop k xs
drop_min k xs = elim (cases_lt (length xs) k) [
  | inl lt ↦ (let m : min k (length xs) ≡ length xs = omega arith in rw m (drop_past (length xs) xs (omega arith) ∙ sym (drop_past k xs (omega arith))))
  | inr le ↦ (let m : min k (length xs) ≡ k = omega arith in rw m refl)
]

pub none_at : (files : List Text) (reference offset : ℕ) (file bytes : Text) → slice_get files (reference / 2 ^ 32) ≡ Some file → offset ≡ min (reference % 2 ^ 32) (length file) → bytes ≡ drop offset file
    → ((e : Encoding) (body : Text) → BeginsWith e bytes body → ⊥) → (e : Encoding) (body : Text) → StandsAt e files reference body → ⊥
none_at files reference offset file bytes found o b none e body h =
    let both : Some h.file ≡ Some file = sym h.is_file ∙ found in
    let same : h.file ≡ file = cc in
    let there : drop (reference % 2 ^ 32) h.file ≡ bytes = ap (drop (reference % 2 ^ 32)) same ∙ sym (drop_min (reference % 2 ^ 32) file) ∙ ap (λ (k : ℕ). drop k file) (sym o) ∙ sym b in
    none e body (subst (λ (t : Text). BeginsWith e t body) there h.there)

pub no_file : (files : List Text) (reference : ℕ) → slice_get files (reference / 2 ^ 32) ≡ None → (e : Encoding) (body : Text) → StandsAt e files reference body → ⊥
no_file files reference none e body h = let both : None ≡ Some h.file = sym none ∙ h.is_file in absurd cc

-- at a reference is one chunk at most
pub one_stands : (files : List Text) (reference : ℕ) (d e : Encoding) (a b : Text) → StandsAt d files reference a → StandsAt e files reference b → (d ≡ e) × (a ≡ b)
one_stands files reference d e a b p q =
    let found : Some p.file ≡ Some q.file = sym p.is_file ∙ q.is_file in
    let same : p.file ≡ q.file = cc in
    one_begins d e (drop (reference % 2 ^ 32) p.file) a b p.there (subst (λ f. BeginsWith e (drop (reference % 2 ^ 32) f) b) (sym same) q.there)
