-- What a block says of itself.
use Rattle.std.proofs.Common.{◌≡◌, ℕ, zero, suc, ◌+◌, ◌/◌, ◌%◌, ◌<◌, ◌≤◌, List, [], ◌∷◌, ◌++◌, length, take, get_or, refl, sym, ap, subst, ◌∙◌, arith, lit<, to_z, of_z, min}
use Rattle.std.specs.Prelude.{ℤ, pos, negsuc, ◌+ℤ◌, ◌<ℤ◌, ◌≤ℤ◌, FitsSigned, IsTrue}
use Rattle.std.specs.Int.{w64}
use Rattle.std.specs.List.{All, AllByRecursion, flat_map}
use Rattle.std.proofs.lemmas.Int.{ints, by_lt_z, to_z-of_z}
use Rattle.std.proofs.lemmas.List.{length-append, length-map, take_more}
use Rattle.std.proofs.lemmas.List.Elements.{All-get_or}
use Rattle.hw_bytes.proofs.Lists.{flat_map-push}
use Rattle.head_column.specs.declared.items.Run.{Run}
use Rattle.head_column.specs.Samples.{Sample}
use Rattle.head_column.specs.declared.chunk.Chunk.{Chunk}
use Rattle.block_files.specs.declared.encoding.Encoding.{Encoding}
use Rattle.head_column.specs.Chunks.{AreFull, chunk_samples, parts}
use Rattle.head_column.specs.Hours.{HasTime, IsEdge, hour_start, is_in_hour}
use Rattle.head_column.proofs.HourLaws.{between, is_first, is_last, one_hour}
use Rattle.xor_chunk.proofs.Parts.{parts_are}
use Rattle.block_files.specs.Files.{all_texts, row_texts}
use Rattle.block_files.proofs.RowLaws.{whole}
use Rattle.block_read.specs.Blocks.{IsColumn, IsWithin, chunk_count, chunk_in, chunks_in, chunks_of_rows}
use Rattle.block_read.specs.Reading.{AreOfHour}
use Rattle.block_read.proofs.Columns.{joined}

-- ---- hours

pub fits_from : (t : ℤ) → negsuc 9223372036854775807 ≤ℤ t → t ≤ℤ pos 9223372036854775807 → FitsSigned w64 t
fits_from (pos n) p q = record { sfits = omega (arith, ints) }
fits_from (negsuc n) p q = record { sfits = omega (arith, ints) }

-- the numbers of an hour that is no edge
pub record Numbers (k : ℤ) : Type 0 where
  pub next : FitsSigned w64 (k +ℤ pos 1)
  pub start : FitsSigned w64 (hour_start k)
  pub end : FitsSigned w64 (hour_start (k +ℤ pos 1))

pub numbers : (k : ℤ) → HasTime k → (IsEdge k → ⊥) → Numbers k
numbers k h inner =
    let b = between k h in
    let above : negsuc 2562047788015 <ℤ k = by_lt_z (negsuc 2562047788015) k (λ p. p) (λ p. absurd (inner (is_first k (omega (arith, ints, p, b.from))))) in
    let below : k <ℤ pos 2562047788015 = by_lt_z k (pos 2562047788015) (λ p. p) (λ p. absurd (inner (is_last k (omega (arith, ints, p, b.to))))) in
    record {
      next = fits_from (k +ℤ pos 1) (omega (arith, ints, above)) (omega (arith, ints, below));
      start = fits_from (hour_start k) (omega (arith, ints, above)) (omega (arith, ints, below));
      end = fits_from (hour_start (k +ℤ pos 1)) (omega (arith, ints, above)) (omega (arith, ints, below));
    }

pub read_back : (x y : ℤ) → x ≡ y → FitsSigned w64 y → to_z w64 (of_z w64 x) ≡ y
read_back x y e f = ap (λ z. to_z w64 (of_z w64 z)) e ∙ to_z-of_z w64 y f

pub within_from : (k start end : ℤ) (r : Run) → start ≡ hour_start k → end ≡ hour_start (k +ℤ pos 1) → start ≤ℤ r.min_time → r.min_time ≤ℤ r.max_time → r.max_time <ℤ end → IsWithin k r
within_from k start end r s e p q l = record { some = q; first = omega (arith, ints, s, p); last = omega (arith, ints, e, l) }

first_in : (k : ℤ) (rows : List (List Sample)) (row : List Sample) (d : Sample) → 0 < length rows → row ≡ get_or rows 0 row → 0 < length row → AllByRecursion (AreOfHour k) rows → IsTrue (is_in_hour k (get_or row 0 d).time)
first_in k [] row d some e n h = absurd (omega (arith, some))
first_in k (x ∷ rows) row d some e n h = All-get_or (λ (s : Sample). IsTrue (is_in_hour k s.time)) row 0 d n (subst (AreOfHour k) (sym e) h.0)

pub hour_is : (k l : ℤ) (rows : List (List Sample)) (row : List Sample) (d : Sample) → 0 < length rows → row ≡ get_or rows 0 row → 0 < length row → IsTrue (is_in_hour l (get_or row 0 d).time) → AllByRecursion (AreOfHour k) rows → l ≡ k
hour_is k l rows row d some e n here h = one_hour l k (get_or row 0 d).time here (first_in k rows row d some e n h)

pub some_of_first : (rows : List (List Sample)) (row : List Sample) → 0 < length rows → row ≡ get_or rows 0 row → AllByRecursion IsColumn rows → 0 < length row
some_of_first [] row some e h = absurd (omega (arith, some))
some_of_first (x ∷ rows) row some e h = (let s = h.0.some in omega (arith, s, ap length e))

-- ---- elements one after another

pub each_more : {X : Type 0} (P : X → Type 0) (xs : List X) (i : ℕ) (x : X) → i < length xs → x ≡ get_or xs i x → AllByRecursion P (take i xs) → P x → AllByRecursion P (take (i + 1) xs)
each_more {X = X} P xs i x lt e h p = subst (AllByRecursion P) (sym (take_more xs i x lt)) (push (take i xs) h (subst P e p))
  where
    push : (ys : List X) → AllByRecursion P ys → P (get_or xs i x) → AllByRecursion P (ys ++ get_or xs i x ∷ [])
    push [] h p = (p, tt)
    push (y ∷ ys) h p = (h.0, push ys h.1 p)

pub each_at : {X : Type 0} (P : X → Type 0) (xs : List X) (i : ℕ) (x : X) → i < length xs → x ≡ get_or xs i x → AllByRecursion P xs → P x
each_at P [] i x lt e h = absurd (omega (arith, lt))
each_at P (y ∷ xs) zero x lt e h = subst P (sym e) h.0
each_at P (y ∷ xs) (suc i) x lt e h = each_at P xs i x (omega (arith, lt)) e h.1

pub each_whole : {X : Type 0} (P : X → Type 0) (xs : List X) (i : ℕ) → length xs ≤ i → AllByRecursion P (take i xs) → AllByRecursion P xs
each_whole P xs i le h = subst (AllByRecursion P) (whole xs i le) h

pub all_whole : {X : Type 0} (P : X → Type 0) (xs : List X) (i : ℕ) → length xs ≤ i → All P (take i xs) → All P xs
all_whole P xs i le h = subst (All P) (whole xs i le) h

-- ---- how many there are

pub samples_more : (rows : List (List Sample)) (i : ℕ) (row : List Sample) → i < length rows → row ≡ get_or rows i row → length (flat_map (λ s. s) (take (i + 1) rows)) ≡ length (flat_map (λ s. s) (take i rows)) + length row
samples_more rows i row lt e =
    ap (λ (t : List (List Sample)). length (flat_map (λ s. s) t)) (take_more rows i row lt) ∙ ap length (flat_map-push (λ s. s) (take i rows) (get_or rows i row))
    ∙ length-append (flat_map (λ s. s) (take i rows)) (get_or rows i row) ∙ ap (λ (t : List Sample). length (flat_map (λ s. s) (take i rows)) + length t) (sym e)

parts_count : (ps : List (List Sample)) → AreFull chunk_samples ps → length ps ≡ (length (joined ps) + 119) / 120
parts_count [] f = refl
parts_count (p ∷ []) f = omega (arith, f.0, f.1, length-append p [])
parts_count (p ∷ q ∷ more) f = omega (arith, f.0, parts_count (q ∷ more) f.1, length-append p (joined (q ∷ more)))

up : (n : ℕ) → (n + 119) / 120 ≡ n / 120 + min 1 (n % 120)
up n = omega arith

pub parts_of : (row : List Sample) → length (parts chunk_samples row) ≡ length row / 120 + min 1 (length row % 120)
parts_of row =
    let p = parts_are chunk_samples (lit< tt) row in
    parts_count (parts chunk_samples row) p.full ∙ ap (λ (t : List Sample). (length t + 119) / 120) p.joined ∙ up (length row)

pub chunks_more : (rows : List (List Sample)) (i : ℕ) (row : List Sample) → i < length rows → row ≡ get_or rows i row → chunk_count (take (i + 1) rows) ≡ chunk_count (take i rows) + (length row / 120 + min 1 (length row % 120))
chunks_more rows i row lt e =
    ap chunk_count (take_more rows i row lt) ∙ ap length (flat_map-push (parts chunk_samples) (take i rows) (get_or rows i row))
    ∙ length-append (flat_map (parts chunk_samples) (take i rows)) (parts chunk_samples (get_or rows i row))
    ∙ ap (λ (t : List Sample). chunk_count (take i rows) + length (parts chunk_samples t)) (sym e) ∙ ap (λ n. chunk_count (take i rows) + n) (parts_of row)

-- Rows have as many chunks in each encoding.
pub row_counted : (e : Encoding) (row : List Sample) → length (row_texts (chunks_in e row)) ≡ length (parts chunk_samples row)
row_counted e row = length-map (chunks_in e row) (λ (c : Chunk). c.text) ∙ length-map (parts chunk_samples row) (chunk_in e)

pub chunks_counted : (e : Encoding) (samples : List (List Sample)) → length (all_texts (chunks_of_rows e samples)) ≡ chunk_count samples
chunks_counted e [] = refl
chunks_counted e (s ∷ samples) =
    omega (
      arith,
      row_counted e s,
      chunks_counted e samples,
      length-append (row_texts (chunks_in e s)) (all_texts (chunks_of_rows e samples)),
      length-append (parts chunk_samples s) (flat_map (parts chunk_samples) samples),
    )
