-- The greatest accepted time alone.
use Rattle.std.proofs.Common.{◌≡◌, Bool, true, false, List, [], ◌∷◌, ◌++◌, Some, None, ap, sym, ◌∙◌, refl}
use Rattle.std.specs.Prelude.{ℤ, if◌then◌else◌}
use Rattle.std.specs.List.{fold, scan}
use Rattle.hw_bytes.proofs.Lists.{along-push, append_none, by_push, fold-push, scan-along}
use Rattle.xor_chunk.specs.declared.sample.Sample.{Sample}
use Rattle.head_column.specs.declared.items.Item.{Item}
use Rattle.head_column.specs.declared.items.Item.TheVariants as item
use Rattle.head_column.specs.declared.items.Outcome.TheVariants.{Accepted, Stale}
use Rattle.head_column.specs.Times.{reaches}
use Rattle.head_column.specs.Items.{is_stale, outcome_of, outcomes_of, accepted, samples_of}
use Rattle.head_column.specs.Histories.{latest}
use Rattle.head_column.specs.Tallies.{latest_of, latest_after, latest_outcome}
use Rattle.head_column.proofs.Rising.{has_reached_latest, latest-push, later_past}
use Rattle.head_column.proofs.Stale.{has_reached-samples_of}

-- a sample is stale just if the greatest accepted time has reached it
reaches_is : (items : List Item) (t : ℤ) → reaches (latest_of items) t ≡ is_stale items t
reaches_is items t = sym (has_reached_latest (samples_of items) t) ∙ has_reached-samples_of items t

-- the greatest accepted time tells the outcome
pub latest_outcome_is : (items : List Item) (i : Item) → latest_outcome (latest_of items) i ≡ outcome_of items i
latest_outcome_is items (item.Sample s) = ap (λ b. if b then Stale else Accepted) (reaches_is items s.time)
latest_outcome_is items (item.Stone r) = refl

-- one item more
pub latest_of-push : (items : List Item) (i : Item) → latest_of (items ++ i ∷ []) ≡ latest_after (latest_of items) i
latest_of-push items i = ap latest (along-push accepted items i) ∙ of_item i where
  of_sample : (s : Sample) (b : Bool) → reaches (latest_of items) s.time ≡ b
      → latest (samples_of items ++ (if b then [] else s ∷ [])) ≡ (if b then latest_of items else Some s.time)
  of_sample s true e = ap latest (append_none (samples_of items))
  of_sample s false e = latest-push (samples_of items) s ∙ later_past (latest_of items) s.time e

  of_item : (j : Item) → latest (samples_of items ++ accepted items j) ≡ latest_after (latest_of items) j
  of_item (item.Sample s) =
      ap (λ b. latest (samples_of items ++ (if b then [] else s ∷ []))) (sym (reaches_is items s.time))
      ∙ of_sample s (reaches (latest_of items) s.time) refl
  of_item (item.Stone r) = ap latest (append_none (samples_of items))

latest_of_is_fold : (items : List Item) → fold latest_after None items ≡ latest_of items
latest_of_is_fold items = by_push (λ is. fold latest_after None is ≡ latest_of is) refl step items where
  step : (is : List Item) (i : Item) → fold latest_after None is ≡ latest_of is → fold latest_after None (is ++ i ∷ []) ≡ latest_of (is ++ i ∷ [])
  step is i e = fold-push latest_after None is i ∙ ap (λ l. latest_after l i) e ∙ sym (latest_of-push is i)

pub latest_outcomes : (items : List Item) → scan latest_after latest_outcome None items ≡ outcomes_of items
latest_outcomes items = scan-along latest_after latest_outcome None outcome_of (λ is i. ap (λ l. latest_outcome l i) (latest_of_is_fold is) ∙ latest_outcome_is is i) items
