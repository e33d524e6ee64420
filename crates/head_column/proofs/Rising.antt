-- Samples whose times rise: the last one is the latest.
use Rattle.std.proofs.Common.{◌≡◌, Bool, true, false, List, [], ◌∷◌, ◌++◌, Option, Some, None, ap, sym, ◌∙◌, refl, arith}
use Rattle.std.specs.Prelude.{ℤ, ◌<ℤ◌, ◌||◌, map, int_le, int_lt, if◌then◌else◌}
use Rattle.std.proofs.lemmas.Bool.{or_parts}
use Rattle.std.proofs.lemmas.Int.{ints}
use Rattle.std.proofs.lemmas.List.Folds.{list_any-append}
use Rattle.hw_bytes.proofs.Lists.{by_push, map_push, fold-push}
use Rattle.xor_chunk.specs.declared.sample.Sample.{Sample}
use Rattle.head_column.specs.Samples.{Rises}
use Rattle.head_column.specs.Times.{later, greatest, reaches}
use Rattle.head_column.specs.Histories.{has_reached, latest}
use Rattle.head_column.proofs.Bools.{or_false}

not_reached : (t s : ℤ) → int_le t s ≡ false → s <ℤ t
not_reached t s h = grind (arith, ints)

-- a sample that none has reached goes after them
pub Rises-push : (xs : List Sample) (s : Sample) → Rises xs → has_reached xs s.time ≡ false → Rises (xs ++ s ∷ [])
Rises-push [] s r h = tt
Rises-push (x ∷ []) s r h = (not_reached s.time x.time (or_parts (int_le s.time x.time) false h).0, tt)
Rises-push (x ∷ y ∷ ys) s r h = (r.0, Rises-push (y ∷ ys) s r.1 (or_parts (int_le s.time x.time) (has_reached (y ∷ ys) s.time) h).1)

le_least : (t w u : ℤ) → int_lt w u ≡ true → int_le t u ≡ (int_le t w || int_le t u)
le_least t w u h = grind (arith, ints)

le_most : (t w u : ℤ) → int_lt w u ≡ false → int_le t w ≡ (int_le t w || int_le t u)
le_most t w u h = grind (arith, ints)

-- the later of two reaches what either reaches
reaches-later : (o : Option ℤ) (t u : ℤ) → reaches (later o u) t ≡ (reaches o t || int_le t u)
reaches-later None t u = refl
reaches-later (Some w) t u = by (int_lt w u) refl where
  by : (b : Bool) → int_lt w u ≡ b → reaches (if b then Some u else Some w) t ≡ (int_le t w || int_le t u)
  by true e = le_least t w u e
  by false e = le_most t w u e

-- one sample more
pub latest-push : (xs : List Sample) (s : Sample) → latest (xs ++ s ∷ []) ≡ later (latest xs) s.time
latest-push xs s = ap greatest (map_push (λ (x : Sample). x.time) xs s) ∙ fold-push later None (map (λ x. x.time) xs) s.time

-- what some sample has reached, the latest has
pub has_reached_latest : (xs : List Sample) (t : ℤ) → has_reached xs t ≡ reaches (latest xs) t
has_reached_latest xs t = by_push (λ ys. has_reached ys t ≡ reaches (latest ys) t) refl step xs where
  step : (ys : List Sample) (s : Sample) → has_reached ys t ≡ reaches (latest ys) t → has_reached (ys ++ s ∷ []) t ≡ reaches (latest (ys ++ s ∷ [])) t
  step ys s e =
      list_any-append (λ x. int_le t x.time) ys (s ∷ [])
      ∙ ap (λ b. has_reached ys t || b) (or_false (int_le t s.time))
      ∙ ap (λ b. b || int_le t s.time) e
      ∙ sym (reaches-later (latest ys) t s.time)
      ∙ ap (λ o. reaches o t) (sym (latest-push ys s))

-- a time past the latest is the latest with it
pub later_past : (o : Option ℤ) (t : ℤ) → reaches o t ≡ false → later o t ≡ Some t
later_past None t h = refl
later_past (Some u) t h = by (int_lt u t) refl where
  by : (b : Bool) → int_lt u t ≡ b → (if b then Some t else Some u) ≡ Some t
  by true e = refl
  by false e = grind (arith, ints)
