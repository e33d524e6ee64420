-- What is read of a chunk, one sample after another.
use Rattle.std.proofs.Common.{◌≡◌, Bool, true, false, not, nat_eq, ℕ, ◌<◌, ◌≤◌, ◌^◌, List, [], ◌∷◌, ◌++◌, length, drop, Option, Some, None, refl, sym, ap, subst, ◌∙◌, arith, append_assoc, lit<}
use Rattle.std.specs.Prelude.{ℤ, pos, negsuc, ◌-ℤ◌, ◌≤ℤ◌, unsigned_abs, FitsSigned}
use Rattle.std.specs.Int.{w64, cast_signed, cast_unsigned}
use Rattle.std.specs.List.{All}
use Rattle.std.specs.Cmp.Lexicographic.{pointwise, other_text}
use Rattle.std.proofs.lemmas.Int.{ints, to_z-of_z}
use Rattle.std.proofs.lemmas.List.{length-append, append-nil}
use Rattle.std.proofs.lemmas.List.Elements.{All-append, All-nil, All-cons, All-head, All-tail}
use Rattle.hw_bytes.specs.Spellings.{IsAt, IsNowhere, IsCode}
use Rattle.hw_bytes.specs.Numbers.{IsFixed}
use Rattle.hw_bytes.specs.Writing.{big_bytes}
use Rattle.hw_bytes.proofs.Codes.{after}
use Rattle.hw_bytes.proofs.Fixed.{fixed_code}
use Rattle.hw_bytes.proofs.Shortest.{uvarint_shortest, varint_shortest}
use Rattle.xor_chunk.specs.declared.sample.Sample.{Sample}
use Rattle.head_column.specs.Samples.{Rises}
use Rattle.head_column.specs.Chunks.{IsFit, IsChunk, time_text, value_text, sample_text, samples_text, chunk_text}
use Rattle.head_column.specs.Reading.{IsPast, IsTime, IsSample, RisesPast, HaveText, AreRead}
use Rattle.head_column.proofs.HourLaws.{above_least, below_greatest}
use Rattle.head_column.proofs.SampleCodes.{sample_code, time_fits}

-- ---- times that rise

pub rises_from : (before : Option ℤ) (xs : List Sample) → RisesPast before xs → Rises xs
rises_from before [] h = tt
rises_from before (s ∷ []) h = tt
rises_from before (s ∷ t ∷ rest) h = (h.1.0, rises_from (Some s.time) (t ∷ rest) h.1)

rises_past : (before : Option ℤ) (s : Sample) (xs : List Sample) → IsPast before s.time → Rises (s ∷ xs) → RisesPast before (s ∷ xs)
rises_past before s [] p h = (p, tt)
rises_past before s (t ∷ rest) p h = (p, rises_past (Some s.time) t rest h.0 h.1)

pub rises_first : (xs : List Sample) → Rises xs → RisesPast None xs
rises_first [] h = tt
rises_first (s ∷ rest) h = rises_past None s rest tt h

-- ---- a sample that was written is one that is read

abbrev pub BeforeFits : Option ℤ → Type 0
BeforeFits None = Unit {0}
BeforeFits (Some before) = FitsSigned w64 before

step_fits : (before time : ℤ) → FitsSigned w64 before → FitsSigned w64 time → unsigned_abs (time -ℤ before) < 2 ^ 64
step_fits before time f g = by (time -ℤ before) refl (above_least time g) (below_greatest time g) (above_least before f) (below_greatest before f)
  where
    by : (d : ℤ) → time -ℤ before ≡ d → negsuc 9223372036854775807 ≤ℤ time → time ≤ℤ pos 9223372036854775807 → negsuc 9223372036854775807 ≤ℤ before → before ≤ℤ pos 9223372036854775807 → unsigned_abs d < 2 ^ 64
    by (pos n) e p q p' q' = omega (arith, ints, e, q, p')
    by (negsuc n) e p q p' q' = omega (arith, ints, e, p, q')

bits_fit : (z : ℤ) → FitsSigned w64 z → cast_unsigned w64 z < 2 ^ 64
bits_fit (pos n) h = omega (arith, h.sfits)
bits_fit (negsuc n) h = omega (arith, h.sfits)

time_spells : (before : Option ℤ) (time : ℤ) → BeforeFits before → IsPast before time → FitsSigned w64 time → IsTime before (time_text before time) time
time_spells None time b p f = (varint_shortest time f).spelled
time_spells (Some before) time b p f = record { spelled = (uvarint_shortest (unsigned_abs (time -ℤ before)) (step_fits before time b f)).spelled; past = p; fits = f }

sample_spells : (before : Option ℤ) (s : Sample) → BeforeFits before → IsPast before s.time → IsFit s → IsSample before (sample_text before s) s
sample_spells before s b p f = record {
  time_bytes = time_text before s.time;
  value_bytes = value_text s.value;
  time = time_spells before s.time b p f.time;
  value = (refl, bits_fit s.value f.value);
  fits = f.value;
  whole = refl;
}

-- ---- some samples are read, and the rest is left

-- the others of these samples are the rest of the bytes
pub record AreLeft (before : Option ℤ) (rest : List ℕ) (xs ss : List Sample) : Type 0 where
  pub others : List Sample
  pub is : xs ≡ ss ++ others
  pub rises : RisesPast before others
  pub fit : All IsFit others
  pub text : rest ≡ samples_text before others

pub record ReadSoFar (count : ℕ) (bytes : List ℕ) (ss : List Sample) (before : Option ℤ) (rest : List ℕ) : Type 0 where
  pub few : length ss ≤ count
  pub last : BeforeFits before
  pub rises : (others : List Sample) → RisesPast before others → RisesPast None (ss ++ others)
  pub fit : All IsFit ss
  pub left : (xs : List Sample) → HaveText count bytes xs → AreLeft before rest xs ss

pub begun_none : (count : ℕ) (bytes : List ℕ) → ReadSoFar count bytes [] None bytes
begun_none count bytes = record {
  few = omega arith;
  last = tt;
  rises = λ others h. h;
  fit = All-nil IsFit;
  left = λ xs h. record { others = xs; is = refl; rises = h.rises; fit = h.fit; text = h.text };
}

is_past : (before : Option ℤ) (bytes : List ℕ) (time : ℤ) → IsTime before bytes time → IsPast before time
is_past None bytes time h = tt
is_past (Some before) bytes time h = h.past

one_more : (before : Option ℤ) (rest more : List ℕ) (xs ss : List Sample) (s : Sample) (len : ℕ) → BeforeFits before → IsAt (IsSample before) rest s len → more ≡ drop len rest
    → length ss < length xs → AreLeft before rest xs ss → AreLeft (Some s.time) more xs (ss ++ s ∷ [])
one_more before rest more xs ss s len b at m lt h = by h.others h.is h.rises h.fit h.text
  where
    by : (others : List Sample) → xs ≡ ss ++ others → RisesPast before others → All IsFit others → rest ≡ samples_text before others → AreLeft (Some s.time) more xs (ss ++ s ∷ [])
    by [] is r f e = absurd (omega (arith, lt, ap length is, length-append ss []))
    by (t ∷ others) is r f e =
        let next = after (IsSample before) (sample_code before).one rest (sample_text before t) (samples_text (Some t.time) others) s t len at (sample_spells before t b r.0 (All-head IsFit t others f)) e in
        record {
          others = others;
          is = is ∙ ap (λ (u : Sample). ss ++ u ∷ others) (sym next.0) ∙ sym (append_assoc ss (s ∷ []) others);
          rises = subst (λ (u : Sample). RisesPast (Some u.time) others) (sym next.0) r.1;
          fit = All-tail IsFit t others f;
          text = m ∙ next.1 ∙ ap (λ (u : Sample). samples_text (Some u.time) others) (sym next.0);
        }

pub begun_more : (count : ℕ) (bytes : List ℕ) (ss : List Sample) (before : Option ℤ) (rest more : List ℕ) (s : Sample) (len : ℕ) → ReadSoFar count bytes ss before rest → length ss < count
    → IsAt (IsSample before) rest s len → more ≡ drop len rest → ReadSoFar count bytes (ss ++ s ∷ []) (Some s.time) more
begun_more count bytes ss before rest more s len b lt at m =
    let time = time_fits before at.spelled.time_bytes s.time at.spelled.time in
    record {
      few = omega (arith, length-append ss (s ∷ []), lt);
      last = time;
      rises = λ others h. subst (RisesPast None) (sym (append_assoc ss (s ∷ []) others)) (b.rises (s ∷ others) (is_past before at.spelled.time_bytes s.time at.spelled.time, h));
      fit = All-append IsFit ss (s ∷ []) b.fit (All-cons IsFit s [] (record { time = time; value = at.spelled.fits }) (All-nil IsFit));
      left = λ xs h. one_more before rest more xs ss s len b.last at m (omega (arith, lt, h.many)) (b.left xs h);
    }

-- `begun_more`, with the time as the code passes it on
pub begun_next : (count : ℕ) (bytes : List ℕ) (ss all : List Sample) (before : Option ℤ) (rest more : List ℕ) (s : Sample) (len : ℕ) → ReadSoFar count bytes ss before rest → length ss < count
    → IsAt (IsSample before) rest s len → more ≡ drop len rest → all ≡ ss ++ s ∷ [] → ReadSoFar count bytes all (Some (cast_signed w64 (cast_unsigned w64 s.time))) more
begun_next count bytes ss all before rest more s len b lt at m is =
    let time = to_z-of_z w64 s.time (time_fits before at.spelled.time_bytes s.time at.spelled.time) in
    subst (λ (t : ℤ). ReadSoFar count bytes all (Some t) more) (sym time)
    (subst (λ (xs : List Sample). ReadSoFar count bytes xs (Some s.time) more) (sym is) (begun_more count bytes ss before rest more s len b lt at m))

pub begun_bad : (count : ℕ) (bytes : List ℕ) (ss : List Sample) (before : Option ℤ) (rest : List ℕ) → ReadSoFar count bytes ss before rest → length ss < count → IsNowhere (IsSample before) rest
    → (xs : List Sample) → HaveText count bytes xs → ⊥
begun_bad count bytes ss before rest b lt none xs h = (let l = b.left xs h in by l.others l.is l.rises l.fit l.text)
  where
    by : (others : List Sample) → xs ≡ ss ++ others → RisesPast before others → All IsFit others → rest ≡ samples_text before others → ⊥
    by [] is r f e = omega (arith, lt, h.many, ap length is, length-append ss [])
    by (t ∷ others) is r f e = none (sample_text before t) (samples_text (Some t.time) others) t (sample_spells before t b.last r.0 (All-head IsFit t others f)) e

pub begun_all : (count : ℕ) (bytes : List ℕ) (ss : List Sample) (before : Option ℤ) (rest : List ℕ) → ReadSoFar count bytes ss before rest → count ≤ length ss → AreRead count bytes ss
begun_all count bytes ss before rest b all = record {
  many = omega (arith, all, b.few);
  rises = rises_from None ss (subst (RisesPast None) (append-nil ss) (b.rises [] tt));
  fit = b.fit;
  only = λ xs h. (let l = b.left xs h in by xs h.many l.others l.is);
} where
  by : (xs : List Sample) → length xs ≡ count → (others : List Sample) → xs ≡ ss ++ others → xs ≡ ss
  by xs many [] is = is ∙ append-nil ss
  by xs many (t ∷ others) is = absurd (omega (arith, many, all, ap length is, length-append ss (t ∷ others)))

-- ---- the count in front

fixed_two : IsCode (IsFixed 2)
fixed_two = fixed_code 2 (lit< tt)

-- the text of a chunk begins with its count, and the rest is the text of its samples
pub have_text : (text bytes : List ℕ) (count number : ℕ) (xs : List Sample) → IsAt (IsFixed 2) text count 2 → number ≡ count → bytes ≡ drop 2 text → IsChunk xs → text ≡ chunk_text xs → HaveText number bytes xs
have_text text bytes count number xs at same i h e =
    let a = after (IsFixed 2) fixed_two.one text (big_bytes 2 (length xs)) (samples_text None xs) count (length xs) 2 at (refl, omega (arith, h.few)) e in
    record { many = sym a.0 ∙ sym same; rises = rises_first xs h.rises; fit = h.fit; text = i ∙ a.1 }

-- another text than that of the samples that were read is the text of none
negated : (b : Bool) → true ≡ not b → false ≡ b
negated true e = sym e
negated false e = refl

pub other_chunk : (text again : List ℕ) (ss xs : List Sample) → again ≡ chunk_text ss → true ≡ not (pointwise nat_eq again text) → xs ≡ ss → text ≡ chunk_text xs → ⊥
other_chunk text again ss xs a other is e = other_text again text (negated (pointwise nat_eq again text) other) (a ∙ ap chunk_text (sym is) ∙ sym e)

-- ---- a text is that of one chunk

same_samples : (before : Option ℤ) (xs ys : List Sample) → BeforeFits before → length xs ≡ length ys → RisesPast before xs → RisesPast before ys → All IsFit xs → All IsFit ys
    → samples_text before xs ≡ samples_text before ys → xs ≡ ys
same_samples before [] [] b n r q f g e = refl
same_samples before [] (t ∷ ys) b n r q f g e = absurd (omega (arith, n))
same_samples before (s ∷ xs) [] b n r q f g e = absurd (omega (arith, n))
same_samples before (s ∷ xs) (t ∷ ys) b n r q f g e =
    let s_fit = All-head IsFit s xs f in
    let t_fit = All-head IsFit t ys g in
    let one = (sample_code before).one (sample_text before s) (samples_text (Some s.time) xs) (sample_text before t) (samples_text (Some t.time) ys) s t
    (sample_spells before s b r.0 s_fit) (sample_spells before t b q.0 t_fit) e in
    let rises = subst (λ (u : Sample). RisesPast (Some u.time) ys) (sym one.0) q.1 in
    let text = one.1 ∙ ap (λ (u : Sample). samples_text (Some u.time) ys) (sym one.0) in
    ap (λ (u : Sample). u ∷ xs) one.0 ∙ ap (λ (us : List Sample). t ∷ us) (same_samples (Some s.time) xs ys s_fit.time (omega (arith, n)) r.1 rises (All-tail IsFit s xs f) (All-tail IsFit t ys g) text)

pub one_text : (xs ys : List Sample) → IsChunk xs → IsChunk ys → chunk_text xs ≡ chunk_text ys → xs ≡ ys
one_text xs ys h k e =
    let one = fixed_two.one (big_bytes 2 (length xs)) (samples_text None xs) (big_bytes 2 (length ys)) (samples_text None ys) (length xs) (length ys) (refl, omega (arith, h.few)) (refl, omega (arith, k.few)) e in
    same_samples None xs ys tt one.0 (rises_first xs h.rises) (rises_first ys k.rises) h.fit k.fit one.1
