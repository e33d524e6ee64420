-- The samples of a row, chunk by chunk.
use Rattle.std.proofs.Common.{◌≡◌, ℕ, suc, ◌+◌, ◌-◌, ◌%◌, ◌<◌, ◌≤◌, List, [], ◌∷◌, ◌++◌, length, map, drop, refl, sym, ap, subst, ◌∙◌, append_assoc, arith, lit<}
use Rattle.std.proofs.Common.{zero, ◌*◌, ◌/◌, Option, None, Some, ltb, cond}
use Rattle.hw_bytes.specs.Writing.{uvarint, uvarint_in}
use Rattle.hw_bytes.specs.Numbers.{zigzag}
use Rattle.std.specs.Prelude.{ℤ, ◌-ℤ◌, unsigned_abs, ◌<ℤ◌, Bool, true, false, IsTrue}
use Rattle.std.proofs.Common.{get_or, drop-cons, add-one}
use Rattle.std.specs.List.{All, flat_map}
use Rattle.std.proofs.lemmas.List.{append-nil, length-append, length-drop}
use Rattle.std.proofs.lemmas.List.Elements.{All-append, All-nil, All-cons}
use Rattle.hw_bytes.proofs.Lists.{flat_map-push, map_push}
use Rattle.head_column.specs.Samples.{Sample}
use Rattle.head_column.specs.declared.chunk.Chunk.{Chunk}
use Rattle.head_column.specs.Samples.{Rises}
use Rattle.head_column.specs.Chunks.{AreFull, IsChunk, IsFit, chunk_samples, first_time, last_time, parts, samples_text, time_text, value_text}
use Rattle.xor_chunk.proofs.Parts.{one_parts, parts_are}
use Rattle.hw_bytes.specs.Sums.{Text}
use Rattle.index_text.specs.declared.row.ChunkMeta.{ChunkMeta}
use Rattle.xor_chunk.specs.Chunks.{xor_text}
use Rattle.block_files.specs.declared.encoding.Encoding.{Encoding}
use Rattle.block_files.specs.declared.encoding.Encoding.TheVariants.{Raw, Xor}
use Rattle.block_files.specs.Files.{StandsAt, longest_chunk, row_texts}
use Rattle.block_files.proofs.RowLaws.{all_first, all_second}
use Rattle.block_read.specs.Blocks.{IsColumn, chunk_in, chunks_in, data_in}
use Rattle.block_read.specs.Reading.{AreThere, MayFollow}

abbrev pub joined : List (List Sample) → List Sample
joined ps = flat_map (λ p. p) ps

-- ---- times that rise

pub rises_join : (a b : List Sample) → Rises a → Rises b → (0 < length a → last_time a <ℤ first_time b) → Rises (a ++ b)
rises_join [] b p q h = q
rises_join (x ∷ []) [] p q h = tt
rises_join (x ∷ []) (y ∷ b) p q h = (h (omega arith), q)
rises_join (x ∷ y ∷ a) b p q h = (p.0, rises_join (y ∷ a) b p.1 q (λ some. h (omega arith)))

pub rises_first : (a b : List Sample) → Rises (a ++ b) → Rises a
rises_first [] b h = tt
rises_first (x ∷ []) b h = tt
rises_first (x ∷ y ∷ a) b h = (h.0, rises_first (y ∷ a) b h.1)

pub rises_second : (a b : List Sample) → Rises (a ++ b) → Rises b
rises_second [] b h = h
rises_second (x ∷ []) [] h = tt
rises_second (x ∷ []) (y ∷ b) h = h.1
rises_second (x ∷ y ∷ a) b h = rises_second (y ∷ a) b h.1

pub rises_seam : (a b : List Sample) → 0 < length a → 0 < length b → Rises (a ++ b) → last_time a <ℤ first_time b
rises_seam [] b p q h = absurd (omega (arith, p))
rises_seam (x ∷ []) [] p q h = absurd (omega (arith, q))
rises_seam (x ∷ []) (y ∷ b) p q h = h.0
rises_seam (x ∷ y ∷ a) b p q h = rises_seam (y ∷ a) b (omega arith) q h.1

pub last_is : (xs : List Sample) (d : Sample) → 0 < length xs → last_time xs ≡ (get_or xs (length xs - 1) d).time
last_is [] d some = absurd (omega (arith, some))
last_is (x ∷ []) d some = refl
last_is (x ∷ y ∷ xs) d some = (let n : length (x ∷ y ∷ xs) - 1 ≡ suc (length (y ∷ xs) - 1) = omega arith in rw n (last_is (y ∷ xs) d (omega arith)))

-- ---- full chunks

full_push : (ps : List (List Sample)) (p : List Sample) → AreFull chunk_samples ps → length (joined ps) % chunk_samples ≡ 0 → 0 < length p → length p ≤ chunk_samples → AreFull chunk_samples (ps ++ p ∷ [])
full_push [] p f e s l = (s, l)
full_push (q ∷ []) p f e s l = (omega (arith, f.0, f.1, e, length-append q []), (s, l))
full_push (q ∷ r ∷ more) p f e s l = (f.0, full_push (r ∷ more) p f.1 (omega (arith, e, f.0, length-append q (joined (r ∷ more)))) s l)

pub some_first : (p : List Sample) (ps : List (List Sample)) → AreFull chunk_samples (p ∷ ps) → 0 < length p
some_first p [] f = f.0
some_first p (q ∷ more) f = omega (arith, f.0)

few_first : (p : List Sample) (ps : List (List Sample)) → AreFull chunk_samples (p ∷ ps) → length p ≤ chunk_samples
few_first p [] f = f.1
few_first p (q ∷ more) f = omega (arith, f.0)

pub full_rest : (p : List Sample) (ps : List (List Sample)) → AreFull chunk_samples (p ∷ ps) → AreFull chunk_samples ps
full_rest p [] f = tt
full_rest p (q ∷ more) f = f.1

full_first : (p : List Sample) (ps : List (List Sample)) → AreFull chunk_samples (p ∷ ps) → 0 < length ps → length p ≡ chunk_samples
full_first p [] f some = absurd (omega (arith, some))
full_first p (q ∷ more) f some = f.0

-- ---- what has been read

pub record Read (e : Encoding) (samples : List Sample) (chunks : List Chunk) : Type 0 where
  pub cut : List (List Sample)
  pub joined_are : joined cut ≡ samples
  pub full : AreFull chunk_samples cut
  pub chunks_are : chunks ≡ map (chunk_in e) cut
  pub rises : Rises samples
  pub fit : All IsFit samples

pub read_none : (e : Encoding) → Read e [] []
read_none e = record { cut = []; joined_are = refl; full = tt; chunks_are = refl; rises = tt; fit = All-nil IsFit }

pub read_more : {e : Encoding} (samples all part : List Sample) (chunks every : List Chunk) (chunk : Chunk) → Read e samples chunks → IsChunk part → MayFollow samples part → chunk ≡ chunk_in e part → all ≡ samples ++ part → every ≡ chunks ++ chunk ∷ [] → Read e all every
read_more {e = d} samples all part chunks every chunk h p f c e k = record {
  cut = h.cut ++ part ∷ [];
  joined_are = flat_map-push (λ q. q) h.cut part ∙ ap (λ (t : List Sample). t ++ part) h.joined_are ∙ sym e;
  full = full_push h.cut part h.full (ap (λ (t : List Sample). length t % chunk_samples) h.joined_are ∙ f.full) p.some p.few;
  chunks_are = k ∙ ap (λ (t : List Chunk). t ++ chunk ∷ []) h.chunks_are ∙ ap (λ (x : Chunk). map (chunk_in d) h.cut ++ x ∷ []) c ∙ sym (map_push (chunk_in d) h.cut part);
  rises = subst Rises (sym e) (rises_join samples part h.rises p.rises f.later);
  fit = subst (All IsFit) (sym e) (All-append IsFit samples part h.fit p.fit);
}

pub read_column : {e : Encoding} (samples : List Sample) (chunks : List Chunk) → Read e samples chunks → 0 < length samples → IsColumn samples
read_column samples chunks h some = record { some = some; rises = h.rises; fit = h.fit }

pub read_chunks : {e : Encoding} (samples : List Sample) (chunks : List Chunk) → Read e samples chunks → chunks ≡ chunks_in e samples
read_chunks {e = e} samples chunks h =
    h.chunks_are ∙ ap (map (chunk_in e)) (one_parts chunk_samples (lit< tt) samples h.cut (parts chunk_samples samples) (record { joined = h.joined_are; full = h.full }) (parts_are chunk_samples (lit< tt) samples))

-- ---- what is left of a row

pub record Left (e : Encoding) (files : List Text) (metas : List ChunkMeta) (samples all : List Sample) : Type 0 where
  pub others : List (List Sample)
  pub is : all ≡ samples ++ joined others
  pub there : AreThere e files metas others
  pub full : AreFull chunk_samples others
  pub seam : 0 < length others → length samples % chunk_samples ≡ 0

pub left_all : (e : Encoding) (files : List Text) (metas : List ChunkMeta) (all : List Sample) → AreThere e files metas (parts chunk_samples all) → Left e files metas [] all
left_all e files metas all h =
    let p = parts_are chunk_samples (lit< tt) all in
    record { others = parts chunk_samples all; is = sym p.joined; there = h; full = p.full; seam = λ _. refl }

-- the next chunk of the row
pub record Next (e : Encoding) (files : List Text) (m : ChunkMeta) (ms : List ChunkMeta) (samples all : List Sample) : Type 0 where
  pub part : List Sample
  pub chunk : IsChunk part
  pub there : StandsAt e files m.reference (data_in e part)
  pub follows : MayFollow samples part
  pub left : (after : List Sample) → after ≡ samples ++ part → Left e files ms after all

pub first_time-append : (a b : List Sample) → 0 < length a → first_time (a ++ b) ≡ first_time a
first_time-append [] b some = absurd (omega (arith, some))
first_time-append (x ∷ a) b some = refl

pub next_left : {e : Encoding} (files : List Text) (m : ChunkMeta) (ms : List ChunkMeta) (samples all : List Sample) → IsColumn all → Left e files (m ∷ ms) samples all → Next e files m ms samples all
next_left {e = d} files m ms samples all col h = by h.others h.is h.there h.full h.seam
  where
    by : (others : List (List Sample)) → all ≡ samples ++ joined others → AreThere d files (m ∷ ms) others → AreFull chunk_samples others → (0 < length others → length samples % chunk_samples ≡ 0) → Next d files m ms samples all
    by [] is there full seam = absurd there
    by (p ∷ more) is there full seam =
        let rises : Rises (samples ++ (p ++ joined more)) = subst Rises is col.rises in
        let fit : All IsFit (samples ++ (p ++ joined more)) = subst (All IsFit) is col.fit in
        let some = some_first p more full in
        record {
          part = p;
          chunk = record {
            some = some;
            few = few_first p more full;
            rises = rises_first p (joined more) (rises_second samples (p ++ joined more) rises);
            fit = all_first IsFit p (joined more) (all_second IsFit samples (p ++ joined more) fit);
          };
          there = there.0;
          follows = record {
            full = seam (omega arith);
            later = λ begun. subst (λ t. last_time samples <ℤ t) (first_time-append p (joined more) some) (rises_seam samples (p ++ joined more) begun (omega (arith, some, length-append p (joined more))) rises);
          };
          left = λ after e. record {
            others = more;
            is = is ∙ sym (append_assoc samples p (joined more)) ∙ ap (λ (t : List Sample). t ++ joined more) (sym e);
            there = there.1;
            full = full_rest p more full;
            seam = λ others. omega (arith, seam (omega arith), full_first p more full others, ap length e, length-append samples p);
          };
        }

pub left_none : {e : Encoding} (files : List Text) (samples all : List Sample) → Left e files [] samples all → samples ≡ all
left_none {e = e} files samples all h = by h.others h.is h.there
  where
    by : (others : List (List Sample)) → all ≡ samples ++ joined others → AreThere e files [] others → samples ≡ all
    by [] is there = sym (is ∙ append-nil samples)
    by (p ∷ more) is there = absurd there

-- ---- the steps of the loop

pub begun : (e : Encoding) (samples : List Sample) (chunks : List Chunk) → samples ≡ [] → chunks ≡ [] → Read e samples chunks
begun e samples chunks n k = subst (λ (xs : List Sample). Read e xs chunks) (sym n) (subst (Read e []) (sym k) (read_none e))

pub left_begun : (e : Encoding) (files : List Text) (metas : List ChunkMeta) (samples all : List Sample) → samples ≡ [] → AreThere e files metas (parts chunk_samples all) → Left e files metas samples all
left_begun e files metas samples all n h = subst (λ (xs : List Sample). Left e files metas xs all) (sym n) (left_all e files metas all h)

pub next_at : {e : Encoding} (files : List Text) (metas : List ChunkMeta) (i : ℕ) (d : ChunkMeta) (samples all : List Sample) → i < length metas → IsColumn all → Left e files (drop i metas) samples all → Next e files (get_or metas i d) (drop (i + 1) metas) samples all
next_at {e = e} files metas i d samples all lt col h = next_left files (get_or metas i d) (drop (i + 1) metas) samples all col (subst (λ (ms : List ChunkMeta). Left e files ms samples all) (rw add-one (drop-cons metas i d lt)) h)

pub followed : (b : Bool) (before part lent others : List Sample) → lent ≡ before → others ≡ part → (IsTrue b → MayFollow lent others) → b ≡ true → MayFollow before part
followed b before part lent others e k f t = subst (λ (xs : List Sample). MayFollow xs part) e (subst (MayFollow lent) k (f t))

pub not_followed : (b : Bool) (before part lent others : List Sample) → lent ≡ before → others ≡ part → (MayFollow lent others → IsTrue b) → b ≡ false → MayFollow before part → ⊥
not_followed b before part lent others e k f t h =
    let yes : b ≡ true = f (subst (λ (xs : List Sample). MayFollow xs others) (sym e) (subst (MayFollow before) (sym k) h)) in
    absurd cc

pub left_over : {e : Encoding} (files : List Text) (metas : List ChunkMeta) (i : ℕ) (samples all : List Sample) → length metas ≤ i → Left e files (drop i metas) samples all → samples ≡ all
left_over {e = d} files metas i samples all le h = left_none files samples all (subst (λ (ms : List ChunkMeta). Left d files ms samples all) (none (drop i metas) (omega (arith, length-drop i metas, le))) h)
  where
    none : (ys : List ChunkMeta) → length ys ≡ 0 → ys ≡ []
    none [] e = refl
    none (y ∷ ys) e = absurd (omega (arith, e))

-- ---- chunks are short

uvarint_short : (k n : ℕ) → length (uvarint_in k n) ≤ k + 1
unfolding uvarint_in
uvarint_short zero n = omega arith
uvarint_short (suc k) n = by (ltb n 128) (uvarint_short k (n / 128))
  where
    by : (b : Bool) → length (uvarint_in k (n / 128)) ≤ k + 1 → length (cond b (n ∷ []) ((n % 128 + 128) ∷ uvarint_in k (n / 128))) ≤ suc k + 1
    by true h = omega arith
    by false h = omega (arith, h)

ten : (n : ℕ) → length (uvarint n) ≤ 10
unfolding uvarint
ten n = uvarint_short 9 n

time_short : (before : Option ℤ) (t : ℤ) → length (time_text before t) ≤ 10
time_short None t = ten (zigzag t)
time_short (Some before) t = ten (unsigned_abs (t -ℤ before))

samples_short : (before : Option ℤ) (xs : List Sample) → length (samples_text before xs) ≤ 18 * length xs
samples_short before [] = omega arith
samples_short before (s ∷ rest) =
    omega (arith, time_short before s.time, samples_short (Some s.time) rest, length-append (time_text before s.time ++ value_text s.value) (samples_text (Some s.time) rest), length-append (time_text before s.time) (value_text s.value))

-- what is said of the other encoding by its own law
abbrev pub AreXorShort : Type 0
AreXorShort = (samples : List Sample) → length samples ≤ 120 → length (xor_text samples) ≤ 2180

pub data_short : (e : Encoding) → AreXorShort → (p : List Sample) → length p ≤ chunk_samples → length (data_in e p) ≤ longest_chunk
data_short Raw short p few = omega (arith, few, samples_short None p)
data_short Xor short p few = short p few

cut_short : (e : Encoding) → AreXorShort → (ps : List (List Sample)) → AreFull chunk_samples ps → All (λ body. length body ≤ longest_chunk) (row_texts (map (chunk_in e) ps))
cut_short e short [] f = All-nil (λ body. length body ≤ longest_chunk)
cut_short e short (p ∷ ps) f =
    All-cons (λ body. length body ≤ longest_chunk) (data_in e p) (row_texts (map (chunk_in e) ps)) (data_short e short p (few_first p ps f)) (cut_short e short ps (full_rest p ps f))

pub chunks_short : (e : Encoding) → AreXorShort → (samples : List Sample) → All (λ body. length body ≤ longest_chunk) (row_texts (chunks_in e samples))
chunks_short e short samples = cut_short e short (parts chunk_samples samples) (parts_are chunk_samples (lit< tt) samples).full

pub lent_short : (e : Encoding) → AreXorShort → (lent chunks : List Chunk) (samples : List Sample) → lent ≡ chunks → chunks ≡ chunks_in e samples → All (λ body. length body ≤ longest_chunk) (row_texts lent)
lent_short e short lent chunks samples l k = subst (λ (cs : List Chunk). All (λ body. length body ≤ longest_chunk) (row_texts cs)) (sym (l ∙ k)) (chunks_short e short samples)
