-- The samples of a column in chunks.
use Rattle.std.proofs.Common.{◌≡◌, ◌⊎◌, inl, inr, ⊎_elim, ℕ, zero, suc, ◌+◌, ◌-◌, ◌*◌, ◌<◌, ◌≤◌, Bool, true, false, cond, List, [], ◌∷◌, ◌++◌, Option, Some, Result, Ok, Err, refl, sym, ap, ap₂, subst, ◌∙◌, arith, append_assoc, length, length-append, get_or, take, drop, None}
use Rattle.std.specs.Prelude.{ℤ, ◌<ℤ◌, All, filter, int_lt, int_le, max}
use Rattle.std.proofs.lemmas.Bool.{cases_lt, or_parts}
use Rattle.std.proofs.lemmas.Int.{ints}
use Rattle.std.proofs.lemmas.List.{append-nil, nil_from_length, drop_all, drop-append-le, drop-drop, drop_more, length-drop, length-take, take_all, take-append-drop, take-append-le}
use Rattle.std.proofs.lemmas.List.Elements.{All-append, All-drop, All-head, All-nil, All-push, All-tail, All-weaker, filter-append}
use Rattle.hw_bytes.proofs.Lists.{by_push, filter_all, filter_none}
use Rattle.xor_chunk.specs.declared.sample.Sample.{Sample}
use Rattle.xor_chunk.specs.Reading.{body_samples, found_map}
use Rattle.xor_chunk.specs.Writing.{WriterValue}
use Rattle.xor_chunk.proofs.Writing.{body_back}
use Rattle.xor_chunk.proofs.Readers as reading
use Rattle.xor_chunk.specs.declared.fault.XorFault.{XorFault}
use Rattle.head_column.specs.declared.sealed.SealedChunk.{SealedChunk}
use Rattle.head_column.specs.Chunks.{IsFit, chunk_samples, last_time}
use Rattle.head_column.specs.Histories.{has_reached, latest}
use Rattle.head_column.specs.Hours.{is_in_hour}
use Rattle.head_column.specs.Samples.{Rises}
use Rattle.head_column.specs.Times.{reaches}
use Rattle.head_column.specs.Stored.{AreCut, AreInHour, AreSealed, AreStored, IsKept, IsLate, IsSameHour, IsSealed, first_hour, first_part, most_chunks, sealed_samples, stored, text_len}
use Rattle.head_column.specs.Validity.{latest_from, samples_before, samples_from}
use Rattle.head_column.proofs.Fronts.{AllBefore, all_before, all_later, before_none, from_all, from_append, from_none, last_is_before, one_cut_before, rises_back, rises_front}
use Rattle.head_column.proofs.Rising.{has_reached_latest, latest-push, later_past}
use Rattle.head_column.proofs.Validity.{latest_from-is, rises_rest}

-- ---- the texts of chunks

pub text_is_long : (sealed : List SealedChunk) (bytes : List ℕ) → AreSealed sealed bytes → text_len sealed ≡ length bytes
text_is_long [] bytes h = sym (ap length h)
text_is_long (c ∷ more) bytes h = omega (arith, h.0.len, length-take c.len bytes, length-drop c.len bytes, text_is_long more (drop c.len bytes) h.1)

pub first_within : (c : SealedChunk) (more : List SealedChunk) (bytes : List ℕ) → AreSealed (c ∷ more) bytes → c.len ≤ length bytes
first_within c more bytes h = omega (arith, h.0.len, length-take c.len bytes)

-- what is read of the text of a chunk is its samples
pub part_is : (c : SealedChunk) (text : List ℕ) (samples : List Sample) → IsSealed c text samples → body_samples c.count text ≡ samples
part_is c text samples h = ap₂ (λ (n : ℕ) (bs : List ℕ). body_samples n bs) h.count h.text_is ∙ body_back samples (omega (arith, h.few)) h.fit

-- one chunk more
pub sealed_more : (sealed : List SealedChunk) (bytes text : List ℕ) (c : SealedChunk) (samples : List Sample) → AreSealed sealed bytes → IsSealed c text samples → AreSealed (sealed ++ c ∷ []) (bytes ++ text)
sealed_more [] bytes text c samples h s =
    let is : bytes ++ text ≡ text = ap (λ (bs : List ℕ). bs ++ text) h in
    subst (AreSealed (c ∷ [])) (sym is) (
    let all : take c.len text ≡ text = take_all c.len text (omega (arith, s.len)) in
    (subst (λ (bs : List ℕ). IsSealed c bs (body_samples c.count bs)) (sym all) (subst (IsSealed c text) (sym (part_is c text samples s)) s), drop_all c.len text (omega (arith, s.len)))
    )
sealed_more (d ∷ more) bytes text c samples h s =
    let within = first_within d more bytes h in
    let front : take d.len (bytes ++ text) ≡ take d.len bytes = take-append-le d.len bytes text within in
    (subst (λ (bs : List ℕ). IsSealed d bs (body_samples d.count bs)) (sym front) h.0, subst (AreSealed (more ++ c ∷ [])) (sym (drop-append-le d.len bytes text within)) (sealed_more more (drop d.len bytes) text c samples h.1 s))

pub samples_more : (sealed : List SealedChunk) (bytes text : List ℕ) (c : SealedChunk) (samples : List Sample) → AreSealed sealed bytes → IsSealed c text samples → sealed_samples (sealed ++ c ∷ []) (bytes ++ text) ≡ sealed_samples sealed bytes ++ samples
samples_more [] bytes text c samples h s =
    let is : bytes ++ text ≡ text = ap (λ (bs : List ℕ). bs ++ text) h in
    let all : take c.len text ≡ text = take_all c.len text (omega (arith, s.len)) in
    ap (λ (bs : List ℕ). body_samples c.count (take c.len bs) ++ []) is ∙ append-nil (body_samples c.count (take c.len text)) ∙ ap (body_samples c.count) all ∙ part_is c text samples s
samples_more (d ∷ more) bytes text c samples h s =
    let within = first_within d more bytes h in
    ap₂ (λ (xs ys : List ℕ). body_samples d.count xs ++ sealed_samples (more ++ c ∷ []) ys) (take-append-le d.len bytes text within) (drop-append-le d.len bytes text within)
    ∙ ap (λ (l : List Sample). body_samples d.count (take d.len bytes) ++ l) (samples_more more (drop d.len bytes) text c samples h.1 s)
    ∙ sym (append_assoc (body_samples d.count (take d.len bytes)) (sealed_samples more (drop d.len bytes)) samples)

-- without the first chunks
pub sealed_rest : (n : ℕ) (sealed : List SealedChunk) (bytes : List ℕ) → AreSealed sealed bytes → AreSealed (drop n sealed) (drop (text_len (take n sealed)) bytes)
sealed_rest zero sealed bytes h = h
sealed_rest (suc n) [] bytes h = h
sealed_rest (suc n) (c ∷ more) bytes h = subst (AreSealed (drop n more)) (drop-drop (text_len (take n more)) c.len bytes) (sealed_rest n more (drop c.len bytes) h.1)

-- ---- samples whose times rise

not_le : (t u : ℤ) → u <ℤ t → int_le t u ≡ false
not_le t u h = grind (arith, ints)

le_false : (t u : ℤ) → int_le t u ≡ false → u <ℤ t
le_false t u h = grind (arith, ints)

behind : (ys : List Sample) (s : Sample) → Rises (ys ++ s ∷ []) → has_reached ys s.time ≡ false
behind [] s h = refl
behind (x ∷ []) s h = rw (not_le s.time x.time h.0) refl
behind (x ∷ y ∷ ys) s h =
    let more : has_reached (y ∷ ys) s.time ≡ false = behind (y ∷ ys) s h.1 in
    let next : int_le s.time y.time ≡ false = (or_parts (int_le s.time y.time) (has_reached ys s.time) more).0 in
    rw (more, not_le s.time x.time (omega (arith, ints, h.0, le_false s.time y.time next))) refl

last_push : (ys : List Sample) (s : Sample) → last_time (ys ++ s ∷ []) ≡ s.time
last_push [] s = refl
last_push (x ∷ []) s = refl
last_push (x ∷ y ∷ ys) s = last_push (y ∷ ys) s

pub latest_snoc : (ys : List Sample) (s : Sample) → Rises (ys ++ s ∷ []) → latest (ys ++ s ∷ []) ≡ Some s.time
latest_snoc ys s h = latest-push ys s ∙ later_past (latest ys) s.time (sym (has_reached_latest ys s.time) ∙ behind ys s h)

-- the last one is the latest
pub latest_last : (xs : List Sample) → Rises xs → 0 < length xs → latest xs ≡ Some (last_time xs)
latest_last xs = by_push (λ ys. Rises ys → 0 < length ys → latest ys ≡ Some (last_time ys)) (λ h some. absurd (omega (arith, some))) (λ ys s before h some. latest_snoc ys s h ∙ ap Some (sym (last_push ys s))) xs

-- those before a time are the first ones
pub cut_count : (t : ℤ) (xs : List Sample) → Rises xs → samples_from t xs ≡ drop (length (samples_before t xs)) xs
cut_count t [] h = refl
cut_count t (x ∷ xs) h = by (int_lt x.time t) refl (cut_count t xs (rises_rest x xs h))
  where
    by : (b : Bool) → int_lt x.time t ≡ b → samples_from t xs ≡ drop (length (samples_before t xs)) xs → samples_from t (x ∷ xs) ≡ drop (length (samples_before t (x ∷ xs))) (x ∷ xs)
    by true e rest = let f : int_le t x.time ≡ false = grind (arith, ints) in rw (e, f) rest
    by false e rest =
        let later = all_later t x xs h e in
        let f : int_le t x.time ≡ true = grind (arith, ints) in
        rw (e, f) (ap (λ (l : List Sample). x ∷ l) (from_all t xs later) ∙ sym (ap (λ (l : List Sample). drop (length l) (x ∷ xs)) (before_none t xs later)))

before_drop : (t : ℤ) (d : ℕ) (xs : List Sample) → Rises xs → length (samples_before t (drop d xs)) ≡ length (samples_before t xs) - d
before_drop t zero xs h = omega arith
before_drop t (suc d) [] h = omega arith
before_drop t (suc d) (x ∷ xs) h = by (int_lt x.time t) refl (before_drop t d xs (rises_rest x xs h))
  where
    by : (b : Bool) → int_lt x.time t ≡ b → length (samples_before t (drop d xs)) ≡ length (samples_before t xs) - d → length (samples_before t (drop d xs)) ≡ length (samples_before t (x ∷ xs)) - suc d
    by true e rest = rw e (omega (arith, rest))
    by false e rest = (let none = ap length (before_none t xs (all_later t x xs h e)) in rw e (omega (arith, rest, none)))

pub rises_from_place : (d : ℕ) (xs : List Sample) → Rises xs → Rises (drop d xs)
rises_from_place d xs h = rises_back (take d xs) (drop d xs) (subst Rises (sym (take-append-drop d xs)) h)

-- the first samples are dropped, and then those before a time
pub from_place : (t : ℤ) (d : ℕ) (xs : List Sample) → Rises xs → samples_from t (drop d xs) ≡ drop (max d (length (samples_before t xs))) xs
from_place t d xs h =
    let n : ℕ = length (samples_before t xs) in
    let place : d + (n - d) ≡ max d n = omega arith in
    cut_count t (drop d xs) (rises_from_place d xs h) ∙ ap (λ (k : ℕ). drop k (drop d xs)) (before_drop t d xs h) ∙ drop-drop (n - d) d xs ∙ ap (λ (k : ℕ). drop k xs) place

-- ---- chunks that are over

-- the last sample of a list, as a test of it
last_before : (t : ℤ) (xs : List Sample) → 0 < length xs → last_is_before t xs ≡ int_lt (last_time xs) t
last_before t [] some = absurd (omega (arith, some))
last_before t (x ∷ []) some = refl
last_before t (x ∷ y ∷ xs) some = last_before t (y ∷ xs) (omega arith)

part_before : (t : ℤ) (c : SealedChunk) (text : List ℕ) (samples : List Sample) → IsSealed c text samples → last_is_before t samples ≡ int_lt c.max_time t
part_before t c text samples s = last_before t samples s.some ∙ ap (λ (u : ℤ). int_lt u t) (sym s.last)

-- what is left of chunks, of which the first n are over before a time
pub record AreLeft (t : ℤ) (n : ℕ) (sealed : List SealedChunk) (bytes : List ℕ) (back : List Sample) : Type 0 where
  pub gone : List Sample
  pub before : AllBefore t gone
  pub parts : sealed_samples sealed bytes ++ back ≡ gone ++ (sealed_samples (drop n sealed) (drop (text_len (take n sealed)) bytes) ++ back)
  pub are : AreSealed (drop n sealed) (drop (text_len (take n sealed)) bytes)
  pub some : 0 < n → length (first_part sealed (record { front = bytes; samples = back; room = 0 })) ≤ length gone

pub chunks_left : (t : ℤ) (n : ℕ) (sealed : List SealedChunk) (bytes : List ℕ) (back : List Sample) → n ≤ length sealed → AreSealed sealed bytes → Rises (sealed_samples sealed bytes ++ back) → All (λ c. int_lt c.max_time t ≡ true) (take n sealed)
    → AreLeft t n sealed bytes back
chunks_left t zero sealed bytes back within h rises over = record { gone = []; before = All-nil (λ (s : Sample). int_lt s.time t ≡ true); parts = refl; are = h; some = λ some. absurd (omega (arith, some)) }
chunks_left t (suc n) [] bytes back within h rises over = absurd (omega (arith, within))
chunks_left t (suc n) (c ∷ more) bytes back within h rises over =
    let part : List Sample = body_samples c.count (take c.len bytes) in
    let others : List Sample = sealed_samples more (drop c.len bytes) in
    let split : (part ++ others) ++ back ≡ part ++ (others ++ back) = append_assoc part others back in
    let rising : Rises (part ++ (others ++ back)) = subst Rises split rises in
    let first : int_lt c.max_time t ≡ true = All-head (λ c. int_lt c.max_time t ≡ true) c (take n more) over in
    let rest = chunks_left t n more (drop c.len bytes) back (omega (arith, within)) h.1 (rises_back part (others ++ back) rising) (All-tail (λ c. int_lt c.max_time t ≡ true) c (take n more) over) in
    let place : drop (text_len (take n more)) (drop c.len bytes) ≡ drop (c.len + text_len (take n more)) bytes = drop-drop (text_len (take n more)) c.len bytes in
    record {
      gone = part ++ rest.gone;
      before = All-append (λ (s : Sample). int_lt s.time t ≡ true) part rest.gone (all_before t part (rises_front part (others ++ back) rising) (part_before t c (take c.len bytes) part h.0 ∙ first)) rest.before;
      parts = split ∙ ap (λ (l : List Sample). part ++ l) (rest.parts ∙ ap (λ (bs : List ℕ). rest.gone ++ (sealed_samples (drop n more) bs ++ back)) place) ∙ sym (append_assoc part rest.gone (sealed_samples (drop n more) (drop (c.len + text_len (take n more)) bytes) ++ back));
      are = subst (AreSealed (drop n more)) place rest.are;
      some = λ some. omega (arith, length-append part rest.gone);
    }

-- no sample that is left of the first ones is from the time on
pub from_gone : (t : ℤ) (d : ℕ) (gone rest : List Sample) → d ≤ length gone → AllBefore t gone → samples_from t (drop d (gone ++ rest)) ≡ samples_from t rest
from_gone t d gone rest h before =
    let left : AllBefore t (drop d gone) = All-drop (λ (s : Sample). int_lt s.time t ≡ true) d gone before in
    ap (samples_from t) (drop-append-le d gone rest h) ∙ from_append t (drop d gone) rest ∙ ap (λ (l : List Sample). l ++ samples_from t rest) (from_none t (drop d gone) left)

-- ---- one sample more

-- the first chunk has no more samples than there are
pub kept_within : (sealed : List SealedChunk) (w : WriterValue) (d : ℕ) → AreSealed sealed w.front → IsKept sealed w.samples d → d ≤ length (stored sealed w)
kept_within [] w d h kept = open_within w.samples d kept
  where
    open_within : (last : List Sample) (n : ℕ) → IsKept [] last n → n ≤ length last
    open_within [] n k = omega (arith, k)
    open_within (s ∷ last) n k = omega (arith, k)
kept_within (c ∷ more) w d h kept =
    let part : List Sample = body_samples c.count (take c.len w.front) in
    let others : List Sample = sealed_samples more (drop c.len w.front) in
    omega (arith, kept, h.0.count, length-append (part ++ others) w.samples, length-append part others)

kept_open : (sealed : List SealedChunk) (last : List Sample) (s : Sample) (d : ℕ) → IsKept sealed last d → IsKept sealed (last ++ s ∷ []) d
kept_open [] [] s d h = omega (arith, h)
kept_open [] (x ∷ last) s d h = omega (arith, h, length-append last (s ∷ []))
kept_open (c ∷ more) last s d h = h

-- what comes after the samples that are kept comes after all
rises_behind : (d : ℕ) (xs : List Sample) (s : Sample) → Rises xs → (d < length xs) ⊎ (xs ≡ []) → Rises (drop d xs ++ s ∷ []) → Rises (xs ++ s ∷ [])
rises_behind zero xs s h some r = r
rises_behind (suc d) [] s h some r = tt
rises_behind (suc d) (x ∷ []) s h some r = absurd (⊎_elim (λ (p : suc d < length (x ∷ [])). omega (arith, p)) (λ (p : x ∷ [] ≡ []). cc) some)
rises_behind (suc d) (x ∷ y ∷ xs) s h some r = (h.0, rises_behind d (y ∷ xs) s h.1 (⊎_elim (λ (p : suc d < length (x ∷ y ∷ xs)). inl (omega (arith, p))) (λ (p : x ∷ y ∷ xs ≡ []). absurd cc) some) r)

-- some sample is kept, if there are any
kept_some : (sealed : List SealedChunk) (w : WriterValue) (d : ℕ) → AreSealed sealed w.front → IsKept sealed w.samples d → (d < length (stored sealed w)) ⊎ (stored sealed w ≡ [])
kept_some [] w d h kept = open_some w.samples d kept
  where
    open_some : (last : List Sample) (n : ℕ) → IsKept [] last n → (n < length last) ⊎ (last ≡ [])
    open_some [] n k = inr refl
    open_some (s ∷ last) n k = inl (omega (arith, k))
kept_some (c ∷ more) w d h kept =
    let part : List Sample = body_samples c.count (take c.len w.front) in
    let others : List Sample = sealed_samples more (drop c.len w.front) in
    inl (omega (arith, kept, h.0.count, length-append (part ++ others) w.samples, length-append part others))

in_hour_more : (last : List Sample) (s : Sample) → AreInHour (last_time last) last → (0 < length last → IsSameHour s.time (last_time last)) → AreInHour (last_time (last ++ s ∷ [])) (last ++ s ∷ [])
in_hour_more [] s h same = All-push (λ x. IsSameHour x.time s.time) [] s (All-nil (λ x. IsSameHour x.time s.time)) (λ k. refl)
in_hour_more (x ∷ last) s h same =
    let t : ℤ = last_time (x ∷ last) in
    let next : IsSameHour s.time t = same (omega arith) in
    subst (λ (u : ℤ). AreInHour u ((x ∷ last) ++ s ∷ [])) (sym (last_push (x ∷ last) s))
    (All-push (λ y. IsSameHour y.time s.time) (x ∷ last) s (All-weaker (λ y. IsSameHour y.time t) (λ y. IsSameHour y.time s.time) (λ y p k. p k ∙ sym (next k)) (x ∷ last) h) (λ k. refl))

pub record ArePushed (sealed : List SealedChunk) (old new : WriterValue) (d : ℕ) (s : Sample) : Type 0 where
  pub are : AreStored sealed new d (Some s.time)
  pub is : drop d (stored sealed new) ≡ drop d (stored sealed old) ++ s ∷ []

pub pushed : (sealed : List SealedChunk) (old new : WriterValue) (d : ℕ) (g : Option ℤ) (s : Sample) → AreStored sealed old d g → new.front ≡ old.front → new.samples ≡ old.samples ++ s ∷ [] → length old.samples < chunk_samples → IsFit s
    → Rises (drop d (stored sealed old) ++ s ∷ []) → (0 < length old.samples → IsSameHour s.time (last_time old.samples)) → ArePushed sealed old new d s
pushed sealed old new d g s h front samples few fit rises hour =
    let all : stored sealed new ≡ stored sealed old ++ s ∷ [] = ap₂ (λ (bs : List ℕ) (l : List Sample). sealed_samples sealed bs ++ l) front samples ∙ sym (append_assoc (sealed_samples sealed old.front) old.samples (s ∷ [])) in
    let within : d ≤ length (stored sealed old) = kept_within sealed old d h.sealed_are h.kept in
    let is : drop d (stored sealed new) ≡ drop d (stored sealed old) ++ s ∷ [] = ap (drop d) all ∙ drop-append-le d (stored sealed old) (s ∷ []) within in
    record {
      are = record {
        sealed_are = subst (AreSealed sealed) (sym front) h.sealed_are;
        few = omega (arith, few, ap length samples, length-append old.samples (s ∷ []));
        fit = subst (All IsFit) (sym samples) (All-push IsFit old.samples s h.fit fit);
        hour = subst (λ (l : List Sample). AreInHour (last_time l) l) (sym samples) (in_hour_more old.samples s h.hour hour);
        most = h.most;
        kept = subst (λ (l : List Sample). IsKept sealed l d) (sym samples) (kept_open sealed old.samples s d h.kept);
        rises = subst Rises (sym all) (rises_behind d (stored sealed old) s h.rises (kept_some sealed old d h.sealed_are h.kept) rises);
        latest_is = sym (ap latest is ∙ latest_snoc (drop d (stored sealed old)) s rises);
      };
      is = is;
    }

-- ---- a chunk is sealed

kept_sealed : (sealed : List SealedChunk) (last : List Sample) (c : SealedChunk) (d : ℕ) → 0 < length last → c.count ≡ length last → IsKept sealed last d → IsKept (sealed ++ c ∷ []) [] d
kept_sealed [] [] c d some is h = absurd (omega (arith, some))
kept_sealed [] (s ∷ last) c d some is h = omega (arith, is, h)
kept_sealed (e ∷ more) last c d some is h = h

pub resealed : (sealed more : List SealedChunk) (old new : WriterValue) (d : ℕ) (g : Option ℤ) (c : SealedChunk) → AreStored sealed old d g → 0 < length old.samples → more ≡ sealed ++ c ∷ [] → c.count ≡ length old.samples → AreSealed more new.front
    → sealed_samples more new.front ≡ stored sealed old → new.samples ≡ [] → length more ≤ most_chunks → AreStored more new d g
resealed sealed more old new d g c h some is count are same none most =
    let all : stored more new ≡ stored sealed old = ap₂ (λ (xs ys : List Sample). xs ++ ys) same none ∙ append-nil (stored sealed old) in
    record {
      sealed_are = are;
      few = omega (arith, ap length none);
      fit = subst (All IsFit) (sym none) (All-nil IsFit);
      hour = subst (λ (l : List Sample). AreInHour (last_time l) l) (sym none) (All-nil (λ s. IsSameHour s.time (last_time [])));
      most = most;
      kept = subst (λ (l : List Sample). IsKept more l d) (sym none) (subst (λ (l : List SealedChunk). IsKept l [] d) (sym is) (kept_sealed sealed old.samples c d some count h.kept));
      rises = subst Rises (sym all) h.rises;
      latest_is = h.latest_is ∙ ap (λ (l : List Sample). latest (drop d l)) (sym all);
    }

-- ---- the samples of an hour

pub in_hour_all : (k t : ℤ) (samples : List Sample) → AreInHour t samples → is_in_hour k t ≡ true → filter (λ s. is_in_hour k s.time) samples ≡ samples
in_hour_all k t samples h e = filter_all (λ s. is_in_hour k s.time) samples (All-weaker (λ s. IsSameHour s.time t) (λ s. is_in_hour k s.time ≡ true) (λ s p. p k ∙ e) samples h)

pub in_hour_none : (k t : ℤ) (samples : List Sample) → AreInHour t samples → is_in_hour k t ≡ false → filter (λ s. is_in_hour k s.time) samples ≡ []
in_hour_none k t samples h e = filter_none (λ s. is_in_hour k s.time) samples (All-weaker (λ s. IsSameHour s.time t) (λ s. is_in_hour k s.time ≡ false) (λ s p. p k ∙ e) samples h)

-- samples of an hour are not none of it
pub in_hour_some : (k t : ℤ) (samples : List Sample) → AreInHour t samples → 0 < length samples → is_in_hour k t ≡ true → filter (λ s. is_in_hour k s.time) samples ≡ [] → ⊥
in_hour_some k t samples h some e none = omega (arith, some, ap length (sym (in_hour_all k t samples h e) ∙ none))

-- an open chunk that is found to be of an hour has samples
pub some_open : (b : Bool) (samples : List Sample) → b ≡ true → (samples ≡ [] → b ≡ false) → 0 < length samples
some_open b [] e f = absurd (let g : true ≡ false = sym e ∙ f refl in cc)
some_open b (s ∷ samples) e f = omega arith

-- those of an hour among samples, of which the first ones are of one hour and some of these are dropped
hour_dropped : (k t : ℤ) (d : ℕ) (first rest : List Sample) → AreInHour t first → d ≤ length first
    → filter (λ s. is_in_hour k s.time) (drop d (first ++ rest)) ≡ drop (cond (is_in_hour k t) d 0) (filter (λ s. is_in_hour k s.time) (first ++ rest))
hour_dropped k t d first rest h within = by (is_in_hour k t) refl
  where
    test : Sample → Bool
    test s = is_in_hour k s.time

    left : AreInHour t (drop d first)
    left = All-drop (λ s. IsSameHour s.time t) d first h

    split : filter test (drop d (first ++ rest)) ≡ filter test (drop d first) ++ filter test rest
    split = ap (filter test) (drop-append-le d first rest within) ∙ filter-append test (drop d first) rest

    whole : filter test (first ++ rest) ≡ filter test first ++ filter test rest
    whole = filter-append test first rest

    by : (b : Bool) → is_in_hour k t ≡ b → filter test (drop d (first ++ rest)) ≡ drop (cond b d 0) (filter test (first ++ rest))
    by true e =
        split ∙ ap (λ (l : List Sample). l ++ filter test rest) (in_hour_all k t (drop d first) left e) ∙ sym (drop-append-le d first (filter test rest) within)
        ∙ ap (drop d) (ap (λ (l : List Sample). l ++ filter test rest) (sym (in_hour_all k t first h e)) ∙ sym whole)
    by false e =
        split ∙ ap (λ (l : List Sample). l ++ filter test rest) (in_hour_none k t (drop d first) left e) ∙ ap (λ (l : List Sample). l ++ filter test rest) (sym (in_hour_none k t first h e)) ∙ sym whole

pub hour_of_kept : (k : ℤ) (sealed : List SealedChunk) (w : WriterValue) (d : ℕ) (g : Option ℤ) → AreStored sealed w d g
    → filter (λ s. is_in_hour k s.time) (drop d (stored sealed w)) ≡ drop (cond (is_in_hour k (first_hour sealed w)) d 0) (filter (λ s. is_in_hour k s.time) (stored sealed w))
hour_of_kept k [] w d g h =
    let within : d ≤ length w.samples = kept_within [] w d h.sealed_are h.kept in
    let same : w.samples ++ [] ≡ w.samples = append-nil w.samples in
    subst (λ (l : List Sample). filter (λ s. is_in_hour k s.time) (drop d l) ≡ drop (cond (is_in_hour k (last_time w.samples)) d 0) (filter (λ s. is_in_hour k s.time) l)) same (hour_dropped k (last_time w.samples) d w.samples [] h.hour within)
hour_of_kept k (c ∷ more) w d g h =
    let part : List Sample = body_samples c.count (take c.len w.front) in
    let others : List Sample = sealed_samples more (drop c.len w.front) in
    let within : d ≤ length part = omega (arith, h.kept, h.sealed_are.0.count) in
    subst (λ (l : List Sample). filter (λ s. is_in_hour k s.time) (drop d l) ≡ drop (cond (is_in_hour k c.max_time) d 0) (filter (λ s. is_in_hour k s.time) l)) (sym (append_assoc part others w.samples))
    (hour_dropped k c.max_time d part (others ++ w.samples) h.sealed_are.0.hour within)

-- so many chunks are read, of which `rest` are the texts of those that are left
pub record AreRead (keep : List Sample → List Sample) (n : ℕ) (sealed : List SealedChunk) (bytes rest : List ℕ) (read : List Sample) : Type 0 where
  pub are : AreSealed (drop n sealed) rest
  pub is : read ++ keep (sealed_samples (drop n sealed) rest) ≡ keep (sealed_samples sealed bytes)

pub read_none : (keep : List Sample → List Sample) (sealed : List SealedChunk) (bytes : List ℕ) → AreSealed sealed bytes → AreRead keep 0 sealed bytes bytes []
read_none keep sealed bytes h = record { are = h; is = refl }

pub read_more : (keep : List Sample → List Sample) (n : ℕ) (sealed : List SealedChunk) (c : SealedChunk) (bytes rest next : List ℕ) (read more : List Sample) → ((xs ys : List Sample) → keep (xs ++ ys) ≡ keep xs ++ keep ys)
    → n < length sealed → c ≡ get_or sealed n c → AreRead keep n sealed bytes rest read → next ≡ drop c.len rest → more ≡ read ++ keep (body_samples c.count (take c.len rest)) → AreRead keep (n + 1) sealed bytes next more
read_more keep n sealed c bytes rest next read more split low at h e f =
    let here : drop n sealed ≡ c ∷ drop (n + 1) sealed = drop_more sealed n c low ∙ ap (λ (x : SealedChunk). x ∷ drop (n + 1) sealed) (sym at) in
    let are = subst (λ (l : List SealedChunk). AreSealed l rest) here h.are in
    let part : List Sample = body_samples c.count (take c.len rest) in
    let others : List Sample = sealed_samples (drop (n + 1) sealed) (drop c.len rest) in
    record {
      are = subst (AreSealed (drop (n + 1) sealed)) (sym e) are.1;
      is = ap₂ (λ (l : List Sample) (bs : List ℕ). l ++ keep (sealed_samples (drop (n + 1) sealed) bs)) f e ∙ append_assoc read (keep part) (keep others)
          ∙ ap (λ (l : List Sample). read ++ l) (sym (split part others)) ∙ ap (λ (l : List SealedChunk). read ++ keep (sealed_samples l rest)) (sym here) ∙ h.is;
    }

-- the chunk at a place
pub chunk_at : (keep : List Sample → List Sample) (n : ℕ) (sealed : List SealedChunk) (c : SealedChunk) (bytes rest : List ℕ) (read : List Sample) → n < length sealed → c ≡ get_or sealed n c → AreRead keep n sealed bytes rest read
    → IsSealed c (take c.len rest) (body_samples c.count (take c.len rest)) × (c.len ≤ length rest)
chunk_at keep n sealed c bytes rest read low at h =
    let here : drop n sealed ≡ c ∷ drop (n + 1) sealed = drop_more sealed n c low ∙ ap (λ (x : SealedChunk). x ∷ drop (n + 1) sealed) (sym at) in
    let are = subst (λ (l : List SealedChunk). AreSealed l rest) here h.are in
    (are.0, first_within c (drop (n + 1) sealed) rest are)

pub read_all : (keep : List Sample → List Sample) (n : ℕ) (sealed : List SealedChunk) (bytes rest : List ℕ) (read : List Sample) → keep [] ≡ [] → length sealed ≤ n → AreRead keep n sealed bytes rest read → read ≡ keep (sealed_samples sealed bytes)
read_all keep n sealed bytes rest read none over h =
    let no : drop n sealed ≡ [] = drop_all n sealed over in
    sym (ap (λ (l : List SealedChunk). read ++ keep (sealed_samples l rest)) no ∙ ap (λ (l : List Sample). read ++ l) none ∙ append-nil read) ∙ h.is

-- ---- the samples of a chunk, one by one

-- so many samples are appended, and `rest` are left of `all`
pub record AreAppended (all rest : Result (List Sample) XorFault) (old new : List Sample) : Type 0 where
  pub read : List Sample
  pub are : reading.AreRead all read rest
  pub is : new ≡ old ++ read

pub appended_none : (all : Result (List Sample) XorFault) (old : List Sample) → AreAppended all all old old
appended_none all old = record { read = []; are = reading.read_none all; is = sym (append-nil old) }

pub appended_more : (all rest next : Result (List Sample) XorFault) (old new more : List Sample) (s : Sample) → AreAppended all rest old new → rest ≡ found_map (λ l. s ∷ l) next → more ≡ new ++ s ∷ [] → AreAppended all next old more
appended_more all rest next old new more s h e f = record {
  read = h.read ++ s ∷ [];
  are = reading.read_more all rest next h.read (h.read ++ s ∷ []) s h.are e refl;
  is = f ∙ ap (λ (l : List Sample). l ++ s ∷ []) h.is ∙ append_assoc old h.read (s ∷ []);
}

ok_same : (a b : List Sample) → ◌≡◌ {A = Result (List Sample) XorFault} (Ok a) (Ok b) → a ≡ b
ok_same a b e = cc

pub appended_all : (all rest : Result (List Sample) XorFault) (old new samples : List Sample) → AreAppended all rest old new → rest ≡ Ok [] → all ≡ Ok samples → new ≡ old ++ samples
appended_all all rest old new samples h e f = h.is ∙ ap (λ (l : List Sample). old ++ l) (ok_same h.read samples (sym (reading.read_all all rest h.read h.are e) ∙ f))

pub appended_bad : (all rest : Result (List Sample) XorFault) (old new samples : List Sample) (fault : XorFault) → AreAppended all rest old new → rest ≡ Err fault → all ≡ Ok samples → ⊥
appended_bad all rest old new samples fault h e f = clash (reading.read_bad all rest h.read fault h.are e) f
  where
    clash : all ≡ Err fault → all ≡ Ok samples → ⊥
    clash p q = cc

-- ---- how many samples there are

-- how many samples chunks have in all
unfoldable pub counts : List SealedChunk → ℕ
counts [] = 0
counts (c ∷ more) = c.count + counts more

pub count_of : (sealed : List SealedChunk) (bytes : List ℕ) → AreSealed sealed bytes → length (sealed_samples sealed bytes) ≡ counts sealed
unfolding counts
count_of [] bytes h = refl
count_of (c ∷ more) bytes h =
    let part : List Sample = body_samples c.count (take c.len bytes) in
    omega (arith, length-append part (sealed_samples more (drop c.len bytes)), h.0.count, count_of more (drop c.len bytes) h.1)

pub counts_most : (sealed : List SealedChunk) (bytes : List ℕ) → AreSealed sealed bytes → counts sealed ≤ 120 * length sealed
unfolding counts
counts_most [] bytes h = omega arith
counts_most (c ∷ more) bytes h = omega (arith, h.0.count, h.0.few, counts_most more (drop c.len bytes) h.1)

pub counts_more : (sealed : List SealedChunk) (n : ℕ) (d : SealedChunk) → n < length sealed → counts (take (n + 1) sealed) ≡ counts (take n sealed) + (get_or sealed n d).count
unfolding counts
counts_more [] n d low = absurd (omega (arith, low))
counts_more (c ∷ more) zero d low = let one : 0 + 1 ≡ suc zero = omega arith in ap (λ (k : ℕ). counts (take k (c ∷ more))) one ∙ omega arith
counts_more (c ∷ more) (suc n) d low =
    let place : suc n + 1 ≡ suc (n + 1) = omega arith in
    ap (λ (k : ℕ). counts (take k (c ∷ more))) place ∙ omega (arith, counts_more more n d (omega (arith, low)))

pub counts_least : (sealed : List SealedChunk) (n : ℕ) → counts (take n sealed) ≤ counts sealed
unfolding counts
counts_least [] zero = omega arith
counts_least [] (suc n) = omega arith
counts_least (c ∷ more) zero = omega arith
counts_least (c ∷ more) (suc n) = omega (arith, counts_least more n)

pub text_more : (sealed : List SealedChunk) (n : ℕ) (d : SealedChunk) → n < length sealed → text_len (take (n + 1) sealed) ≡ text_len (take n sealed) + (get_or sealed n d).len
text_more [] n d low = absurd (omega (arith, low))
text_more (c ∷ more) zero d low = let one : 0 + 1 ≡ suc zero = omega arith in ap (λ (k : ℕ). text_len (take k (c ∷ more))) one ∙ omega arith
text_more (c ∷ more) (suc n) d low =
    let place : suc n + 1 ≡ suc (n + 1) = omega arith in
    ap (λ (k : ℕ). text_len (take k (c ∷ more))) place ∙ omega (arith, text_more more n d (omega (arith, low)))

pub text_least : (sealed : List SealedChunk) (n : ℕ) → text_len (take n sealed) ≤ text_len sealed
text_least [] zero = omega arith
text_least [] (suc n) = omega arith
text_least (c ∷ more) zero = omega arith
text_least (c ∷ more) (suc n) = omega (arith, text_least more n)

-- the first chunk, as it is found
pub first_is : (sealed : List SealedChunk) (w : WriterValue) (c : SealedChunk) → 0 < length sealed → c ≡ get_or sealed 0 c → AreSealed sealed w.front
    → IsSealed c (take c.len w.front) (first_part sealed w) × (c.len ≤ length w.front)
first_is [] w c some at h = absurd (omega (arith, some))
first_is (d ∷ more) w c some at h =
    rw at (h.0, first_within d more w.front h)

-- ---- the greatest time

last_behind : (xs ys : List Sample) → 0 < length ys → last_time (xs ++ ys) ≡ last_time ys
last_behind [] ys some = refl
last_behind (x ∷ []) [] some = absurd (omega (arith, some))
last_behind (x ∷ []) (y ∷ ys) some = refl
last_behind (x ∷ z ∷ xs) ys some = last_behind (z ∷ xs) ys some

last_from_place : (d : ℕ) (xs : List Sample) → d < length xs → last_time (drop d xs) ≡ last_time xs
last_from_place d xs h = sym (last_behind (take d xs) (drop d xs) (omega (arith, length-drop d xs))) ∙ ap last_time (take-append-drop d xs)

-- the open chunk has the latest sample
pub open_latest : (sealed : List SealedChunk) (w : WriterValue) (d : ℕ) (g : Option ℤ) → AreStored sealed w d g → 0 < length w.samples → g ≡ Some (last_time w.samples)
open_latest sealed w d g h some =
    let all : List Sample = stored sealed w in
    let long : 0 < length all = omega (arith, some, length-append (sealed_samples sealed w.front) w.samples) in
    let place : d < length all = ⊎_elim (λ (p : d < length all). p) (λ (p : all ≡ []). absurd (omega (arith, long, ap length p))) (kept_some sealed w d h.sealed_are h.kept) in
    h.latest_is ∙ latest_last (drop d all) (rises_from_place d all h.rises) (omega (arith, place, length-drop d all)) ∙ ap Some (last_from_place d all place ∙ last_behind (sealed_samples sealed w.front) w.samples some)

-- what is stored does not depend on how much memory there is
pub same_stored : (sealed : List SealedChunk) (w v : WriterValue) (d : ℕ) (g : Option ℤ) → AreStored sealed w d g → v.front ≡ w.front → v.samples ≡ w.samples → AreStored sealed v d g
same_stored sealed w v d g h front samples =
    let all : stored sealed v ≡ stored sealed w = ap₂ (λ (bs : List ℕ) (l : List Sample). sealed_samples sealed bs ++ l) front samples in
    record {
      sealed_are = subst (AreSealed sealed) (sym front) h.sealed_are;
      few = omega (arith, h.few, ap length samples);
      fit = subst (All IsFit) (sym samples) h.fit;
      hour = subst (λ (l : List Sample). AreInHour (last_time l) l) (sym samples) h.hour;
      most = h.most;
      kept = subst (λ (l : List Sample). IsKept sealed l d) (sym samples) h.kept;
      rises = subst Rises (sym all) h.rises;
      latest_is = h.latest_is ∙ ap (λ (l : List Sample). latest (drop d l)) (sym all);
    }

-- ---- samples before a time are dropped

reached : (g : Option ℤ) (t : ℤ) → reaches g t ≡ true → latest_from t g ≡ g
reached g t h = rw h refl

from_some : (t : ℤ) (o g : Option ℤ) → latest_from t o ≡ g → reaches g t ≡ true → o ≡ g
from_some t None g e h = e
from_some t (Some u) g e h = by (int_le t u) refl
  where
    by : (b : Bool) → int_le t u ≡ b → Some u ≡ g
    by true f = sym (rw f refl) ∙ e
    by false f = absurd (let n : None ≡ g = sym (rw f refl) ∙ e in let r : reaches None t ≡ true = subst (λ (o : Option ℤ). reaches o t ≡ true) (sym n) h in cc)

-- the latest sample that is left is the latest, if that is not before the time
same_latest : (t : ℤ) (xs ys : List Sample) (g : Option ℤ) → samples_from t ys ≡ samples_from t xs → g ≡ latest xs → reaches g t ≡ true → g ≡ latest ys
same_latest t xs ys g same is h = sym (from_some t (latest ys) g (sym (latest_from-is t ys) ∙ ap latest same ∙ latest_from-is t xs ∙ ap (latest_from t) (sym is) ∙ reached g t h) h)

pub none_cut : (t : ℤ) (sealed : List SealedChunk) (w : WriterValue) (d : ℕ) (g : Option ℤ) → AreStored sealed w d g → AreCut t sealed sealed w w d d g
none_cut t sealed w d g h = record { are = h; left = refl }

kept_all : (sealed : List SealedChunk) (w : WriterValue) → AreSealed sealed w.front → IsKept sealed w.samples 0
kept_all [] w h = by w.samples
  where
    by : (last : List Sample) → IsKept [] last 0
    by [] = refl
    by (s ∷ last) = omega arith
kept_all (c ∷ more) w h = omega (arith, h.0.some, h.0.count)

kept_first : (sealed : List SealedChunk) (w : WriterValue) (d : ℕ) → AreSealed sealed w.front → IsKept sealed w.samples d → d ≤ length (first_part sealed w)
kept_first [] w d h kept = kept_within [] w d h kept
kept_first (c ∷ more) w d h kept = omega (arith, kept, h.0.count)

same_first : (sealed : List SealedChunk) (w v : WriterValue) → w.front ≡ v.front → w.samples ≡ v.samples → length (first_part sealed w) ≡ length (first_part sealed v)
same_first [] w v front samples = ap length samples
same_first (c ∷ more) w v front samples = ap (λ (bs : List ℕ). length (body_samples c.count (take c.len bs))) front

pub some_cut : (t : ℤ) (n : ℕ) (sealed more : List SealedChunk) (old new : WriterValue) (d : ℕ) (g : Option ℤ) → AreStored sealed old d g → reaches g t ≡ true → 0 < n → n ≤ length sealed → All (λ c. int_lt c.max_time t ≡ true) (take n sealed)
    → more ≡ drop n sealed → new.front ≡ drop (text_len (take n sealed)) old.front → new.samples ≡ old.samples → AreCut t sealed more old new d 0 g
some_cut t n sealed more old new d g h reach some within over m front samples =
    let left = chunks_left t n sealed old.front old.samples within h.sealed_are h.rises over in
    let w : WriterValue = record { front = drop (text_len (take n sealed)) old.front; samples = old.samples; room = 0 } in
    let all : List Sample = stored (drop n sealed) w in
    let first : d ≤ length left.gone =
    omega (arith, kept_first sealed old d h.sealed_are h.kept, same_first sealed old (record { front = old.front; samples = old.samples; room = 0 }) refl refl, left.some some) in
    let from : samples_from t all ≡ samples_from t (drop d (stored sealed old)) = sym (ap (λ (l : List Sample). samples_from t (drop d l)) left.parts ∙ from_gone t d left.gone all first left.before) in
    let are : AreStored (drop n sealed) w 0 g =
    record {
      sealed_are = left.are;
      few = h.few;
      fit = h.fit;
      hour = h.hour;
      most = omega (arith, h.most, length-drop n sealed);
      kept = kept_all (drop n sealed) w left.are;
      rises = rises_back left.gone all (subst Rises left.parts h.rises);
      latest_is = same_latest t (drop d (stored sealed old)) all g from h.latest_is reach;
    } in
    let same : stored more new ≡ all = ap₂ (λ (l : List SealedChunk) (bs : List ℕ). sealed_samples l bs ++ new.samples) m front ∙ ap (λ (l : List Sample). sealed_samples (drop n sealed) w.front ++ l) samples in
    record {
      are = subst (λ (l : List SealedChunk). AreStored l new 0 g) (sym m) (same_stored (drop n sealed) w new 0 g are front samples);
      left = ap (samples_from t) same ∙ from;
    }

-- fewer than all are before the time, if the last one is not
count_less : (t : ℤ) (xs : List Sample) → 0 < length xs → last_is_before t xs ≡ false → length (samples_before t xs) < length xs
count_less t [] some e = absurd (omega (arith, some))
count_less t (x ∷ []) some e = rw e (omega arith)
count_less t (x ∷ y ∷ xs) some e = by (int_lt x.time t) (count_less t (y ∷ xs) (omega arith) e)
  where
    by : (b : Bool) → length (samples_before t (y ∷ xs)) < length (y ∷ xs) → length (cond b (x ∷ samples_before t (y ∷ xs)) (samples_before t (y ∷ xs))) < length (x ∷ y ∷ xs)
    by true h = omega (arith, h)
    by false h = omega (arith, h)

drop_none : (d : ℕ) → drop {A = Sample} d [] ≡ []
drop_none zero = refl
drop_none (suc d) = refl

-- the samples of the first chunk, and those behind it
record IsFirst (t : ℤ) (sealed : List SealedChunk) (w : WriterValue) : Type 0 where
  pub rest : List Sample
  pub is : stored sealed w ≡ first_part sealed w ++ rest
  pub some : 0 < length (first_part sealed w)
  pub late : last_is_before t (first_part sealed w) ≡ false

not_lt : (t u : ℤ) → int_le t u ≡ true → int_lt u t ≡ false
not_lt t u h = grind (arith, ints)

first_late : (t : ℤ) (sealed : List SealedChunk) (w : WriterValue) (d : ℕ) (g : Option ℤ) → AreStored sealed w d g → reaches g t ≡ true → IsLate t sealed → IsFirst t sealed w
first_late t [] w d g h reach late = by w.samples refl
  where
    by : (last : List Sample) → w.samples ≡ last → IsFirst t [] w
    by [] e =
        let none : g ≡ None = h.latest_is ∙ ap (λ (l : List Sample). latest (drop d l)) e ∙ ap latest (drop_none d) in
        absurd (let r : reaches None t ≡ true = subst (λ (o : Option ℤ). reaches o t ≡ true) none reach in cc)
    by (s ∷ last) e =
        let some : 0 < length w.samples = omega (arith, ap length e) in
        let last_is : g ≡ Some (last_time w.samples) = open_latest [] w d g h some in
        let r : int_le t (last_time w.samples) ≡ true = subst (λ (o : Option ℤ). reaches o t ≡ true) last_is reach in
        record { rest = []; is = sym (append-nil w.samples); some = some; late = last_before t w.samples some ∙ not_lt t (last_time w.samples) r }
first_late t (c ∷ more) w d g h reach late =
    let part : List Sample = body_samples c.count (take c.len w.front) in
    let others : List Sample = sealed_samples more (drop c.len w.front) in
    record {
      rest = others ++ w.samples;
      is = append_assoc part others w.samples;
      some = h.sealed_are.0.some;
      late = part_before t c (take c.len w.front) part h.sealed_are.0 ∙ late c more refl;
    }

kept_less : (sealed : List SealedChunk) (w : WriterValue) (d : ℕ) → AreSealed sealed w.front → 0 < length (first_part sealed w) → d < length (first_part sealed w) → IsKept sealed w.samples d
kept_less [] w d h some less = by w.samples some less
  where
    by : (last : List Sample) → 0 < length last → d < length last → IsKept [] last d
    by [] s l = absurd (omega (arith, s))
    by (x ∷ last) s l = omega (arith, l)
kept_less (c ∷ more) w d h some less = omega (arith, less, h.0.count)

kept_first_less : (sealed : List SealedChunk) (w : WriterValue) (d : ℕ) → AreSealed sealed w.front → IsKept sealed w.samples d → 0 < length (first_part sealed w) → d < length (first_part sealed w)
kept_first_less [] w d h kept some = by w.samples kept some
  where
    by : (last : List Sample) → IsKept [] last d → 0 < length last → d < length last
    by [] k s = absurd (omega (arith, s))
    by (x ∷ last) k s = omega (arith, k)
kept_first_less (c ∷ more) w d h kept some = omega (arith, kept, h.0.count)

pub record AreDropped (t : ℤ) (sealed : List SealedChunk) (w : WriterValue) (d e : ℕ) (g : Option ℤ) : Type 0 where
  pub are : AreStored sealed w e g
  pub is : drop e (stored sealed w) ≡ samples_from t (drop d (stored sealed w))

pub first_dropped : (t : ℤ) (sealed : List SealedChunk) (w : WriterValue) (d e n : ℕ) (g : Option ℤ) → AreStored sealed w d g → reaches g t ≡ true → IsLate t sealed → n ≡ length (samples_before t (first_part sealed w)) → e ≡ max d n
    → AreDropped t sealed w d e g
first_dropped t sealed w d e n g h reach late count is =
    let first = first_late t sealed w d g h reach late in
    let all : List Sample = stored sealed w in
    let part : List Sample = first_part sealed w in
    let rising : Rises (part ++ first.rest) = subst Rises first.is h.rises in
    let same : length (samples_before t all) ≡ n = ap (λ (l : List Sample). length (samples_before t l)) first.is ∙ ap length (one_cut_before t part first.rest rising first.some first.late) ∙ sym count in
    let place : max d (length (samples_before t all)) ≡ e = ap (max d) same ∙ sym is in
    let dropped : drop e all ≡ samples_from t (drop d all) = sym (from_place t d all h.rises ∙ ap (λ (k : ℕ). drop k all) place) in
    record {
      are = record {
        sealed_are = h.sealed_are;
        few = h.few;
        fit = h.fit;
        hour = h.hour;
        most = h.most;
        kept = kept_less sealed w e h.sealed_are first.some (omega (arith, is, count, count_less t part first.some first.late, kept_first_less sealed w d h.sealed_are h.kept first.some));
        rises = h.rises;
        latest_is = sym (ap latest dropped ∙ latest_from-is t (drop d all) ∙ ap (latest_from t) (sym h.latest_is) ∙ reached g t reach);
      };
      is = dropped;
    }

-- if the greatest time is before the time, no sample is left
pub all_dropped : (t : ℤ) (xs : List Sample) (g : Option ℤ) → g ≡ latest xs → reaches g t ≡ false → samples_from t xs ≡ []
all_dropped t xs g is h = by (samples_from t xs) refl
  where
    none : latest (samples_from t xs) ≡ None
    none = latest_from-is t xs ∙ ap (latest_from t) (sym is) ∙ rw h refl

    by : (left : List Sample) → samples_from t xs ≡ left → left ≡ []
    by [] e = refl
    by (s ∷ left) e = (
        let r : has_reached (s ∷ left) s.time ≡ false = has_reached_latest (s ∷ left) s.time ∙ ap (λ (o : Option ℤ). reaches o s.time) (sym (ap latest e) ∙ none) in
        let same : int_le s.time s.time ≡ true = grind (arith, ints) in
        absurd (let f : true ≡ false = sym (rw same refl) ∙ r in cc)
        )

-- ---- no sample of an hour

-- the first chunk is of one hour
record IsFrontOf (sealed : List SealedChunk) (w : WriterValue) : Type 0 where
  pub rest : List Sample
  pub is : stored sealed w ≡ first_part sealed w ++ rest
  pub hour : AreInHour (first_hour sealed w) (first_part sealed w)

front_of : (sealed : List SealedChunk) (w : WriterValue) (d : ℕ) (g : Option ℤ) → AreStored sealed w d g → IsFrontOf sealed w
front_of [] w d g h = record { rest = []; is = sym (append-nil w.samples); hour = h.hour }
front_of (c ∷ more) w d g h = record {
  rest = sealed_samples more (drop c.len w.front) ++ w.samples;
  is = append_assoc (body_samples c.count (take c.len w.front)) (sealed_samples more (drop c.len w.front)) w.samples;
  hour = h.sealed_are.0.hour;
}

-- where the first chunk is of the hour, all of it is
first_of_hour : (k : ℤ) (sealed : List SealedChunk) (w : WriterValue) (front : IsFrontOf sealed w) → is_in_hour k (first_hour sealed w) ≡ true
    → filter (λ s. is_in_hour k s.time) (stored sealed w) ≡ first_part sealed w ++ filter (λ s. is_in_hour k s.time) front.rest
first_of_hour k sealed w front e =
    let test : Sample → Bool = λ s. is_in_hour k s.time in
    let part : List Sample = first_part sealed w in
    ap (filter test) front.is ∙ filter-append test part front.rest ∙ ap (λ (l : List Sample). l ++ filter test front.rest) (in_hour_all k (first_hour sealed w) part front.hour e)

no_first : (sealed : List SealedChunk) (w : WriterValue) → AreSealed sealed w.front → length (first_part sealed w) ≡ 0 → stored sealed w ≡ []
no_first [] w h e = nil_from_length w.samples e
no_first (c ∷ more) w h e = absurd (omega (arith, h.0.some, e))

-- if no sample that is kept is of the hour, none is
pub none_of_hour : (k : ℤ) (sealed : List SealedChunk) (w : WriterValue) (d : ℕ) (g : Option ℤ) → AreStored sealed w d g → filter (λ s. is_in_hour k s.time) (drop d (stored sealed w)) ≡ [] → filter (λ s. is_in_hour k s.time) (stored sealed w) ≡ []
none_of_hour k sealed w d g h e = by (is_in_hour k (first_hour sealed w)) refl
  where
    test : Sample → Bool
    test s = is_in_hour k s.time

    front : IsFrontOf sealed w
    front = front_of sealed w d g h

    part : List Sample
    part = first_part sealed w

    by : (b : Bool) → is_in_hour k (first_hour sealed w) ≡ b → filter test (stored sealed w) ≡ []
    by false f = sym (hour_of_kept k sealed w d g h ∙ ap (λ (b : Bool). drop (cond b d 0) (filter test (stored sealed w))) f) ∙ e
    by true f =
        let all = first_of_hour k sealed w front f in
        let left : drop d (filter test (stored sealed w)) ≡ [] = sym (hour_of_kept k sealed w d g h ∙ ap (λ (b : Bool). drop (cond b d 0) (filter test (stored sealed w))) f) ∙ e in
        ⊎_elim (λ (p : 0 < length part). absurd (omega (arith, kept_first_less sealed w d h.sealed_are h.kept p, ap length left, length-drop d (filter test (stored sealed w)), ap length all, length-append part (filter test front.rest))))
        (λ (p : length part ≤ 0). ap (filter test) (no_first sealed w h.sealed_are (omega (arith, p)))) (cases_lt 0 (length part))

-- no more of an hour are dropped than there are
pub gone_within : (k : ℤ) (sealed : List SealedChunk) (w : WriterValue) (d : ℕ) (g : Option ℤ) → AreStored sealed w d g → cond (is_in_hour k (first_hour sealed w)) d 0 ≤ length (filter (λ s. is_in_hour k s.time) (stored sealed w))
gone_within k sealed w d g h = by (is_in_hour k (first_hour sealed w)) refl
  where
    test : Sample → Bool
    test s = is_in_hour k s.time

    front : IsFrontOf sealed w
    front = front_of sealed w d g h

    part : List Sample
    part = first_part sealed w

    by : (b : Bool) → is_in_hour k (first_hour sealed w) ≡ b → cond b d 0 ≤ length (filter test (stored sealed w))
    by false f = omega arith
    by true f =
        let all = first_of_hour k sealed w front f in
        omega (arith, kept_first sealed w d h.sealed_are h.kept, ap length all, length-append part (filter test front.rest))

-- both parts of no samples are none
pub none_both : (xs ys : List Sample) → xs ++ ys ≡ [] → (xs ≡ []) × (ys ≡ [])
none_both [] ys e = (refl, e)
none_both (x ∷ xs) ys e = absurd (omega (arith, ap length e))

-- if none of all is kept, none of a part is
pub part_none : (keep : List Sample → List Sample) (n : ℕ) (sealed : List SealedChunk) (c : SealedChunk) (bytes rest : List ℕ) (read : List Sample) → ((xs ys : List Sample) → keep (xs ++ ys) ≡ keep xs ++ keep ys) → n < length sealed → c ≡ get_or sealed n c
    → AreRead keep n sealed bytes rest read → keep (sealed_samples sealed bytes) ≡ [] → keep (body_samples c.count (take c.len rest)) ≡ []
part_none keep n sealed c bytes rest read split low at h e =
    let here : drop n sealed ≡ c ∷ drop (n + 1) sealed = drop_more sealed n c low ∙ ap (λ (x : SealedChunk). x ∷ drop (n + 1) sealed) (sym at) in
    let part : List Sample = body_samples c.count (take c.len rest) in
    let others : List Sample = sealed_samples (drop (n + 1) sealed) (drop c.len rest) in
    let left : keep (sealed_samples (drop n sealed) rest) ≡ [] = (none_both read (keep (sealed_samples (drop n sealed) rest)) (h.is ∙ e)).1 in
    (none_both (keep part) (keep others) (sym (split part others) ∙ ap (λ (l : List SealedChunk). keep (sealed_samples l rest)) (sym here) ∙ left)).0

-- no sample of the hour is in the sealed chunks or in the last one, if none is kept
pub none_in_parts : (k : ℤ) (sealed : List SealedChunk) (w : WriterValue) (d : ℕ) (g : Option ℤ) → AreStored sealed w d g → filter (λ s. is_in_hour k s.time) (drop d (stored sealed w)) ≡ []
    → (filter (λ s. is_in_hour k s.time) (sealed_samples sealed w.front) ≡ []) × (filter (λ s. is_in_hour k s.time) w.samples ≡ [])
none_in_parts k sealed w d g h e =
    none_both (filter (λ s. is_in_hour k s.time) (sealed_samples sealed w.front)) (filter (λ s. is_in_hour k s.time) w.samples)
    (sym (filter-append (λ s. is_in_hour k s.time) (sealed_samples sealed w.front) w.samples) ∙ none_of_hour k sealed w d g h e)
