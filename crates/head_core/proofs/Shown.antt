-- What is shown of some entries.
use Rattle.std.proofs.Common.{◌≡◌, ℕ, ◌<◌, List, [], Some, None, Option, ap, sym, subst, ◌∙◌, refl, length, get_or}
use Rattle.std.specs.Prelude.{slice_get}
use Rattle.std.specs.Option.{option_and_then}
use Rattle.std.proofs.lemmas.Option.{slice_get-get_or}
use Rattle.wal_record.specs.Entries.{Entry, series, sample, stone}
use Rattle.head_column.specs.declared.items.Item.{Item}
use Rattle.head_column.specs.Histories.{History, IsHistoryOf, no_history}
use Rattle.head_series.specs.Table.{Labels, slot_at}
use Rattle.head_series.specs.Bindings.{series_of}
use Rattle.head_resolver.specs.Owners.{bindings, owner}
use Rattle.head_resolver.specs.Counts.{sample_item, stone_item, items_of, fate_of, item_fate, fate_at}
use Rattle.head_core.specs.Content.{Content, IsShownBy}
use Rattle.head_core.specs.Steps.{ColumnLaw, told_item, found, told}
use Rattle.head_core.proofs.Lists.{AllZip-length, AllZip-at}

-- no entries
-- what is in the slot of a reference: its owner, and that one's history
pub record Stands (es : List Entry) (c : Content) (r p : ℕ) : Type 0 where
  pub labels : Labels
  pub history : History
  pub there : slice_get (series_of (bindings es)) p ≡ Some labels
  pub owned : owner es r ≡ Some labels
  pub here : slice_get c.histories p ≡ Some history
  pub made : IsHistoryOf (items_of labels es) history

module _ {es : List Entry} {c : Content} (h : IsShownBy es c) where
  -- each series has a history
  pub one_each : length c.histories ≡ length c.table.series
  one_each = sym (AllZip-length (λ l x. IsHistoryOf (items_of l es) x) (series_of (bindings es)) c.histories h.histories) ∙ ap length (sym h.shown.series)

  pub stands : (r p : ℕ) → slot_at c.table r ≡ Some p → Stands es c r p
  stands r p e = record {
    labels = l;
    history = x;
    there = there;
    owned = sym (h.shown.owners r) ∙ ap (option_and_then (slice_get c.table.series)) e ∙ at;
    here = here;
    made = AllZip-at (λ m y. IsHistoryOf (items_of m es) y) (series_of (bindings es)) c.histories p h.histories there here;
  } where
    l : Labels
    l = get_or c.table.series p []

    x : History
    x = get_or c.histories p no_history

    at : slice_get c.table.series p ≡ Some l
    at = slice_get-get_or c.table.series p [] (h.shown.within r p e)

    there : slice_get (series_of (bindings es)) p ≡ Some l
    there = ap (λ ss. slice_get ss p) (sym h.shown.series) ∙ at

    here : slice_get c.histories p ≡ Some x
    here = slice_get-get_or c.histories p no_history (subst (λ n. p < n) (sym one_each) (h.shown.within r p e))

  -- a reference without a slot has no owner
  pub unowned : (r : ℕ) → slot_at c.table r ≡ None → owner es r ≡ None
  unowned r e = sym (h.shown.owners r) ∙ ap (option_and_then (slice_get c.table.series)) e

  module _ (law : ColumnLaw) where
    told_item_is : (r : ℕ) (i : Item) → told_item (found c.table c.histories r) i ≡ item_fate es (owner es r) i
    told_item_is r i = by (slot_at c.table r) refl where
      by : (o : Option ℕ) → slot_at c.table r ≡ o → told_item (option_and_then (slice_get c.histories) o) i ≡ item_fate es (owner es r) i
      by None e = ap (λ o. item_fate es o i) (sym (unowned r e))
      by (Some p) e =
          let s = stands r p e in
          ap (λ o. told_item o i) s.here ∙ ap fate_of (law.outcome (items_of s.labels es) s.history i s.made) ∙ ap (λ o. item_fate es o i) (sym s.owned)

    -- what becomes of an entry is reported by what is shown
    pub told_is : (e : Entry) → told c.table c.histories e ≡ fate_at es e
    told_is (series e) = refl
    told_is (sample s) = told_item_is s.reference (sample_item s)
    told_is (stone d) = told_item_is d.reference (stone_item d)
