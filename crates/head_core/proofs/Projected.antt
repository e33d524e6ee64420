-- What items make of slots, seen through a function of the values that their law allows.
use Rattle.std.proofs.Common.{◌≡◌, ℕ, zero, suc, ◌+◌, ◌==◌, Bool, true, false, List, [], ◌∷◌, ◌++◌, ap, sym, ◌∙◌, refl}
use Rattle.std.specs.Prelude.{map, replicate, if◌then◌else◌}
use Rattle.std.specs.List.{enumerate_from, fold}
use Rattle.hw_bytes.proofs.Lists.{by_push, fold-push}
use Rattle.head_deal.specs.Endings.{item_at}
use Rattle.head_column.specs.declared.items.Item.{Item}
use Rattle.head_column.specs.declared.items.Run.{Run}
use Rattle.head_column.specs.Histories.{History, history_after, history_of, no_history}
use Rattle.head_column.specs.Kept.{KeptValue, kept_after, kept_of}
use Rattle.head_core.specs.Applied.{values_after}

module _ {V W I : Type 0} (f : V → W) (after : V → I → V) (other : W → I → W) (law : (v : V) (i : I) → other (f v) i ≡ f (after v i)) where
  -- the slot with the value that is seen
  abbrev seen : ℕ × V → ℕ × W
  seen p = (p.0, f p.1)

  item_seen : (k : ℕ) (i : I) (p : ℕ × V) → item_at other k i (seen p) ≡ seen (item_at after k i p)
  item_seen k i p = ap pair (by (p.0 == k)) where
    pair : W → ℕ × W
    pair w = (p.0, w)

    by : (b : Bool) → (if b then other (f p.1) i else f p.1) ≡ f (if b then after p.1 i else p.1)
    by true = law p.1 i
    by false = refl

  items_seen : (k : ℕ) (i : I) (slots : List (ℕ × V)) → map (item_at other k i) (map seen slots) ≡ map seen (map (item_at after k i) slots)
  items_seen k i [] = refl
  items_seen k i (p ∷ slots) = ap (λ (q : ℕ × W). q ∷ map (item_at other k i) (map seen slots)) (item_seen k i p) ∙ ap (λ (ps : List (ℕ × W)). seen (item_at after k i p) ∷ ps) (items_seen k i slots)

  values_seen : (slots : List (ℕ × V)) (ks : List (ℕ × I)) → values_after other (map seen slots) ks ≡ map seen (values_after after slots ks)
  values_seen slots [] = refl
  values_seen slots (k ∷ ks) = ap (λ (ps : List (ℕ × W)). values_after other ps ks) (items_seen k.0 k.1 slots) ∙ values_seen (map (item_at after k.0 k.1) slots) ks

  numbered_seen : (start n : ℕ) (v : V) → enumerate_from start (replicate n (f v)) ≡ map seen (enumerate_from start (replicate n v))
  numbered_seen start zero v = refl
  numbered_seen start (suc n) v = ap (λ (ps : List (ℕ × W)). (start, f v) ∷ ps) (numbered_seen (start + 1) n v)

  values_of : (ps : List (ℕ × V)) → map (λ (p : ℕ × W). p.1) (map seen ps) ≡ map f (map (λ (p : ℕ × V). p.1) ps)
  values_of [] = refl
  values_of (p ∷ ps) = ap (λ (ws : List W). f p.1 ∷ ws) (values_of ps)

  -- the values of new slots after items are those that are seen of the other values
  pub seen_values : (n : ℕ) (v : V) (ks : List (ℕ × I)) → map (λ p. p.1) (values_after other (enumerate_from 0 (replicate n (f v))) ks) ≡ map f (map (λ p. p.1) (values_after after (enumerate_from 0 (replicate n v)) ks))
  seen_values n v ks =
      ap (λ (ps : List (ℕ × W)). map (λ (p : ℕ × W). p.1) (values_after other ps ks)) (numbered_seen 0 n v)
      ∙ ap (map (λ (p : ℕ × W). p.1)) (values_seen (enumerate_from 0 (replicate n v)) ks)
      ∙ values_of (values_after after (enumerate_from 0 (replicate n v)) ks)

-- what is kept of the history that items make is made item by item
pub kept_is : (times : Run) → ((h : History) (i : Item) → kept_after (kept_of times h) i ≡ kept_of times (history_after h i)) → (items : List Item) → fold kept_after (kept_of times no_history) items ≡ kept_of times (history_of items)
kept_is times law items = by_push (λ is. fold kept_after (kept_of times no_history) is ≡ kept_of times (history_of is)) refl step items where
  step : (is : List Item) (i : Item) → fold kept_after (kept_of times no_history) is ≡ kept_of times (history_of is) → fold kept_after (kept_of times no_history) (is ++ i ∷ []) ≡ kept_of times (history_of (is ++ i ∷ []))
  step is i e =
      fold-push kept_after (kept_of times no_history) is i ∙ ap (λ (k : KeptValue). kept_after k i) e ∙ law (history_of is) i ∙ ap (kept_of times) (sym (fold-push history_after no_history is i))
