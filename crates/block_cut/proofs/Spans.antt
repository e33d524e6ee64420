-- The chunks of samples that rise: each ends at or past its first time, and before the next one begins.
use Rattle.std.proofs.Common.{◌≡◌, ℕ, ◌+◌, ◌<◌, List, [], ◌∷◌, ◌++◌, length, map, refl, sym, ap, subst, ◌∙◌, arith, append_assoc}
use Rattle.std.specs.Prelude.{◌≤ℤ◌, ◌<ℤ◌}
use Rattle.std.specs.List.{AllByRecursion, flat_map, sum_by}
use Rattle.std.proofs.lemmas.Int.{ints}
use Rattle.std.proofs.lemmas.List.{length-append}
use Rattle.std.proofs.lemmas.List.Sums.{sum_by-cons}
use Rattle.head_column.specs.Samples.{Sample}
use Rattle.head_column.specs.declared.chunk.Chunk.{Chunk}
use Rattle.head_column.specs.Chunks.{AreFull, chunk_samples, first_time, last_time, parts}
use Rattle.head_column.specs.Samples.{Rises}
use Rattle.xor_chunk.proofs.Parts.{parts_are}
use Rattle.index_text.specs.Rows.{IsChain}
use Rattle.block_files.specs.declared.encoding.Encoding.{Encoding}
use Rattle.block_files.specs.declared.places.ChunkSpan.{ChunkSpan}
use Rattle.block_files.specs.Places.{span_of}
use Rattle.block_read.specs.Blocks.{chunk_in, chunks_in}

abbrev joined : List (List Sample) → List Sample
joined ps = flat_map (λ (p : List Sample). p) ps

abbrev IsForward : Chunk → Type 0
IsForward c = c.min_time ≤ℤ c.max_time

abbrev IsBefore : Chunk → Chunk → Type 0
IsBefore a b = a.max_time <ℤ b.min_time

front : (p q : List Sample) → Rises (p ++ q) → Rises p
front [] q h = tt
front (s ∷ []) q h = tt
front (s ∷ t ∷ rest) q h = (h.0, front (t ∷ rest) q h.1)

rest_of : (s : Sample) (xs : List Sample) → Rises (s ∷ xs) → Rises xs
rest_of s [] h = tt
rest_of s (t ∷ rest) h = h.1

back : (p q : List Sample) → Rises (p ++ q) → Rises q
back [] q h = h
back (s ∷ rest) q h = back rest q (rest_of s (rest ++ q) h)

last_first : (p : List Sample) (t : Sample) (q : List Sample) → 0 < length p → Rises (p ++ t ∷ q) → last_time p <ℤ t.time
last_first [] t q some h = absurd (omega arith)
last_first (s ∷ []) t q some h = h.0
last_first (s ∷ u ∷ rest) t q some h = last_first (u ∷ rest) t q (omega arith) h.1

forward : (p : List Sample) → 0 < length p → Rises p → first_time p ≤ℤ last_time p
forward [] some h = absurd (omega arith)
forward (s ∷ []) some h = omega (arith, ints)
forward (s ∷ t ∷ rest) some h = (let next = forward (t ∷ rest) (omega arith) h.1 in omega (arith, ints, next, h.0))

some_first : (p : List Sample) (ps : List (List Sample)) → AreFull chunk_samples (p ∷ ps) → 0 < length p
some_first p [] f = f.0
some_first p (q ∷ more) f = omega (arith, f.0)

full_rest : (p : List Sample) (ps : List (List Sample)) → AreFull chunk_samples (p ∷ ps) → AreFull chunk_samples ps
full_rest p [] f = tt
full_rest p (q ∷ more) f = f.1

forward_parts : (e : Encoding) (ps : List (List Sample)) → AreFull chunk_samples ps → Rises (joined ps) → AllByRecursion IsForward (map (chunk_in e) ps)
forward_parts e [] f h = tt
forward_parts e (p ∷ ps) f h = (forward p (some_first p ps f) (front p (joined ps) h), forward_parts e ps (full_rest p ps f) (back p (joined ps) h))

next_first : (p q : List Sample) (more : List Sample) → 0 < length p → 0 < length q → Rises (p ++ q ++ more) → last_time p <ℤ first_time q
next_first p [] more some next h = absurd (omega arith)
next_first p (t ∷ q) more some next h = last_first p t q some (front (p ++ t ∷ q) more h)

apart_parts : (e : Encoding) (ps : List (List Sample)) → AreFull chunk_samples ps → Rises (joined ps) → IsChain IsBefore (map (chunk_in e) ps)
apart_parts e [] f h = tt
apart_parts e (p ∷ []) f h = tt
apart_parts e (p ∷ q ∷ more) f h = (
  next_first p q (joined more) (some_first p (q ∷ more) f) (some_first q more (full_rest p (q ∷ more) f)) (subst Rises (sym (append_assoc p q (joined more))) h),
  apart_parts e (q ∷ more) (full_rest p (q ∷ more) f) (back p (joined (q ∷ more)) h),
)

pub chunks-forward : (e : Encoding) (xs : List Sample) → Rises xs → AllByRecursion (λ (c : Chunk). c.min_time ≤ℤ c.max_time) (chunks_in e xs)
chunks-forward e xs h =
    let cut = parts_are chunk_samples (omega arith) xs in
    forward_parts e (parts chunk_samples xs) cut.full (subst Rises (sym cut.joined) h)

pub chunks-apart : (e : Encoding) (xs : List Sample) → Rises xs → IsChain (λ (a b : Chunk). a.max_time <ℤ b.min_time) (chunks_in e xs)
chunks-apart e xs h =
    let cut = parts_are chunk_samples (omega arith) xs in
    apart_parts e (parts chunk_samples xs) cut.full (subst Rises (sym cut.joined) h)

-- how many samples the chunks have
parts_count : (e : Encoding) (ps : List (List Sample)) → sum_by (λ (c : ChunkSpan). c.count) (map span_of (map (chunk_in e) ps)) ≡ length (joined ps)
parts_count e [] = refl
parts_count e (p ∷ ps) = sum_by-cons (λ (c : ChunkSpan). c.count) (span_of (chunk_in e p)) (map span_of (map (chunk_in e) ps)) ∙ ap (λ (n : ℕ). length p + n) (parts_count e ps) ∙ sym (length-append p (joined ps))

pub chunks-count : (e : Encoding) (xs : List Sample) → sum_by (λ (c : ChunkSpan). c.count) (map span_of (chunks_in e xs)) ≡ length xs
chunks-count e xs = parts_count e (parts chunk_samples xs) ∙ ap length (parts_are chunk_samples (omega arith) xs).joined
