-- What the items of a log make of slots: the histories of the series, and their greatest accepted times.
use Rattle.std.proofs.Common.{◌≡◌, ℕ, ◌+◌, List, [], ◌∷◌, ◌++◌, None, Option, ℤ, ap, sym, subst, ◌∙◌, arith, length}
use Rattle.std.specs.Prelude.{map, slice_get, Some}
use Rattle.std.specs.List.{fold}
use Rattle.hw_bytes.proofs.Lists.{by_push, fold-push}
use Rattle.wal_record.specs.Entries.{Entry}
use Rattle.head_column.specs.declared.items.Item.{Item}
use Rattle.head_column.specs.Histories.{History, IsHistoryOf, history_after, history_of, no_history}
use Rattle.head_column.specs.Tallies.{latest_after, latest_of}
use Rattle.head_series.specs.Table.{Labels}
use Rattle.head_series.specs.Bindings.{series_of}
use Rattle.head_resolver.specs.Owners.{bindings}
use Rattle.head_resolver.specs.Counts.{items_of}
use Rattle.head_resolver.specs.Resolved.{resolved}
use Rattle.head_resolver.proofs.Slots.{items_of_slot}
use Rattle.head_core.specs.Content.{AreHistoriesOf}
use Rattle.head_core.specs.Applied.{values_after, new_slots}
use Rattle.head_core.proofs.Applied.{at_slot, slots_by-replicate, slots_by-AllZip, values_after-slots_by}

-- The items of a log make the history of each series.
pub histories_are : ((items : List Item) → IsHistoryOf items (history_of items)) → (es : List Entry) → AreHistoriesOf es (series_of (bindings es)) (map (λ p. p.1) (values_after history_after (new_slots no_history es) (resolved es)))
histories_are made es =
    subst
    (λ (ps : List (ℕ × History)). AreHistoriesOf es (series_of (bindings es)) (map (λ p. p.1) ps))
    (sym (ap (λ (ps : List (ℕ × History)). values_after history_after ps (resolved es)) (slots_by-replicate no_history 0 n) ∙ values_after-slots_by history_after (λ s. no_history) 0 n (resolved es)))
    (slots_by-AllZip (λ l h. IsHistoryOf (items_of l es) h) (λ s. history_of (at_slot s (resolved es))) 0 (series_of (bindings es)) at)
  where
    n : ℕ
    n = length (series_of (bindings es))

    at : (s : ℕ) (l : Labels) → slice_get (series_of (bindings es)) s ≡ Some l → IsHistoryOf (items_of l es) (history_of (at_slot (0 + s) (resolved es)))
    at s l e =
        subst (λ m. IsHistoryOf (items_of l es) (history_of (at_slot m (resolved es)))) (let here : s ≡ 0 + s = omega arith in here)
        (subst (λ is. IsHistoryOf (items_of l es) (history_of is)) (sym (items_of_slot es s l e)) (made (items_of l es)))

-- item by item, the greatest accepted time of some items
pub latest_is : latest_of [] ≡ None → ((items : List Item) (i : Item) → latest_of (items ++ i ∷ []) ≡ latest_after (latest_of items) i) → (items : List Item) → fold latest_after None items ≡ latest_of items
latest_is start push items = by_push (λ is. fold latest_after None is ≡ latest_of is) (sym start) step items where
  step : (is : List Item) (i : Item) → fold latest_after None is ≡ latest_of is → fold latest_after None (is ++ i ∷ []) ≡ latest_of (is ++ i ∷ [])
  step is i e = fold-push latest_after None is i ∙ ap (λ (l : Option ℤ). latest_after l i) e ∙ sym (push is i)
