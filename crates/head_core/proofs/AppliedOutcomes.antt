-- What becomes of the items of a log that are applied to slots.
use Rattle.std.proofs.Common.{◌≡◌, ℕ, ◌+◌, ◌≤◌, Bool, true, false, cond, List, [], ◌∷◌, ◌++◌, Some, None, Option, ap, sym, ◌∙◌, refl, arith, length}
use Rattle.std.specs.Prelude.{◌||◌, map, filter, count_by, if◌then◌else◌}
use Rattle.std.specs.List.{fold, list_any}
use Rattle.std.specs.Option.{option_and_then}
use Rattle.std.proofs.lemmas.List.{map-append}
use Rattle.std.proofs.lemmas.List.Elements.{filter-append}
use Rattle.std.proofs.lemmas.List.Sums.{sum_by-cons}
use Rattle.hw_bytes.proofs.Lists.{along-push, by_push}
use Rattle.wal_record.specs.Labels.{same_labels}
use Rattle.wal_record.specs.Entries.{Entry, series, sample, stone, entries_of}
use Rattle.head_column.specs.declared.items.Item.{Item}
use Rattle.head_column.specs.declared.items.Item.TheVariants as item
use Rattle.head_column.specs.declared.items.Outcome.{Outcome}
use Rattle.head_column.specs.declared.items.Outcome.TheVariants as outcome
use Rattle.head_column.specs.Items.{outcome_of}
use Rattle.head_series.specs.Table.{Labels}
use Rattle.head_series.specs.Texts.{place}
use Rattle.head_series.specs.Bindings.{series_of}
use Rattle.head_series.proofs.Places.{place_none, place_within}
use Rattle.head_resolver.specs.Owners.{bindings, owner}
use Rattle.head_resolver.specs.Taken.{Taken}
use Rattle.head_resolver.specs.Counts.{Fate, accepted, stale, hides, empty_stone, sample_item, stone_item, items_of, fate_of, unknown_fate, item_fate, fate_at, fates, is_fate, counts_of}
use Rattle.head_resolver.specs.Resolved.{slot_behind, with_slot, items_at, resolved}
use Rattle.head_resolver.proofs.Counting.{fates_more}
use Rattle.head_resolver.proofs.Known.{is_bound-series_of, owner_is_bound}
use Rattle.head_resolver.proofs.Limits.{series_front}
use Rattle.head_resolver.proofs.Slots.{items_of_slot, there}
use Rattle.head_core.specs.Applied.{values_after, outcomes_after, new_slots, AreCountsOfOutcomes}
use Rattle.head_core.proofs.Applied.{slots_by, at_slot, slots_by-replicate, values_after-slots_by, outcomes_after-append, outcomes_after-one}

-- whether it takes a column to tell the fate
abbrev is_outcome : Fate → Bool
is_outcome f = is_fate accepted f || (is_fate stale f || (is_fate hides f || is_fate empty_stone f))

is_outcome_fate : (o : Outcome) → is_outcome (fate_of o) ≡ true
is_outcome_fate outcome.Accepted = refl
is_outcome_fate outcome.Stale = refl
is_outcome_fate outcome.Hidden = refl
is_outcome_fate outcome.EmptyStone = refl

unknown_no_outcome : (i : Item) → is_outcome (unknown_fate i) ≡ false
unknown_no_outcome (item.Sample s) = refl
unknown_no_outcome (item.Stone r) = refl

-- what a second test lets through whole is counted alike after it
count_by-filter : {A : Type 0} (p q : A → Bool) → ((x : A) → p x ≡ true → q x ≡ true) → (xs : List A) → count_by p (filter q xs) ≡ count_by p xs
count_by-filter p q h [] = refl
count_by-filter p q h (x ∷ xs) = by (q x) refl (count_by-filter p q h xs) ∙ sym (sum_by-cons (λ y. cond (p y) 1 0) x xs) where
  by : (b : Bool) → q x ≡ b → count_by p (filter q xs) ≡ count_by p xs → count_by p (if b then x ∷ filter q xs else filter q xs) ≡ cond (p x) 1 0 + count_by p xs
  by true e rest = sum_by-cons (λ y. cond (p y) 1 0) x (filter q xs) ∙ ap (λ (n : ℕ). cond (p x) 1 0 + n) rest
  by false e rest = rest ∙ at (p x) refl where
    at : (c : Bool) → p x ≡ c → count_by p xs ≡ cond c 1 0 + count_by p xs
    at true k = let j : q x ≡ true = h x k in cc
    at false k = omega arith

-- A builder's law, of any kind of value: after its items it tells what becomes of one more.
module _ {V : Type 0} (after : V → Item → V) (told : V → Item → Outcome) (new : V) (law : (items : List Item) (i : Item) → told (fold after new items) i ≡ outcome_of items i) where
  -- n slots after the items of the entries
  abbrev slots_behind : List Entry → ℕ → List (ℕ × V)
  slots_behind es n = slots_by (λ s. fold after new (at_slot s (resolved es))) 0 n

  module _ (es : List Entry) (n : ℕ) (room : length (series_of (bindings es)) ≤ n) where
    item_told : (r : ℕ) (i : Item) → map fate_of (outcomes_after after told (slots_behind es n) (with_slot (slot_behind es r) i)) ≡ filter is_outcome (item_fate es (owner es r) i ∷ [])
    item_told r i = by (owner es r) refl where
      at : (l : Labels) → list_any (same_labels l) (series_of (bindings es)) ≡ true → (o : Option ℕ) → place (same_labels l) (series_of (bindings es)) ≡ o
          → map fate_of (outcomes_after after told (slots_behind es n) (with_slot o i)) ≡ filter is_outcome (fate_of (outcome_of (items_of l es) i) ∷ [])
      at l among None e = let k : list_any (same_labels l) (series_of (bindings es)) ≡ false = place_none (same_labels l) (series_of (bindings es)) e in cc
      at l among (Some s) e =
          let within = place_within (same_labels l) (series_of (bindings es)) s e in
          ap (map fate_of) (outcomes_after-one after told (λ s. fold after new (at_slot s (resolved es))) n s i (omega (arith, within, room)))
          ∙ ap (λ (is : List Item). fate_of (told (fold after new is) i) ∷ []) (items_of_slot es s l (there (series_of (bindings es)) l s e))
          ∙ ap (λ (o : Outcome). fate_of o ∷ []) (law (items_of l es) i)
          ∙ sym (ap (λ b. if b then fate_of (outcome_of (items_of l es) i) ∷ [] else []) (is_outcome_fate (outcome_of (items_of l es) i)))

      by : (o : Option Labels) → owner es r ≡ o
          → map fate_of (outcomes_after after told (slots_behind es n) (with_slot (option_and_then (λ l. place (same_labels l) (series_of (bindings es))) o) i)) ≡ filter is_outcome (item_fate es o i ∷ [])
      by None e = sym (ap (λ b. if b then unknown_fate i ∷ [] else []) (unknown_no_outcome i))
      by (Some l) e = at l (is_bound-series_of (bindings es) l ∙ owner_is_bound (bindings es) r l e) (place (same_labels l) (series_of (bindings es))) refl

    entry_told : (e : Entry) → map fate_of (outcomes_after after told (slots_behind es n) (items_at es e)) ≡ filter is_outcome (fate_at es e ∷ [])
    entry_told (series x) = refl
    entry_told (sample s) = item_told s.reference (sample_item s)
    entry_told (stone d) = item_told d.reference (stone_item d)

  -- Applied to n slots, the items have the fates of their entries.
  fates_are : (n : ℕ) (es : List Entry) → length (series_of (bindings es)) ≤ n → map fate_of (outcomes_after after told (slots_by (λ s. new) 0 n) (resolved es)) ≡ filter is_outcome (fates es)
  fates_are n es = by_push (λ fs. length (series_of (bindings fs)) ≤ n → map fate_of (outcomes_after after told (slots_by (λ s. new) 0 n) (resolved fs)) ≡ filter is_outcome (fates fs)) (λ room. refl) step es where
    step : (fs : List Entry) (e : Entry) → (length (series_of (bindings fs)) ≤ n → map fate_of (outcomes_after after told (slots_by (λ s. new) 0 n) (resolved fs)) ≡ filter is_outcome (fates fs))
        → length (series_of (bindings (fs ++ e ∷ []))) ≤ n → map fate_of (outcomes_after after told (slots_by (λ s. new) 0 n) (resolved (fs ++ e ∷ []))) ≡ filter is_outcome (fates (fs ++ e ∷ []))
    step fs e f room =
        let fewer : length (series_of (bindings fs)) ≤ n = omega (arith, room, series_front fs (e ∷ [])) in
        let slots : List (ℕ × V) = slots_by (λ s. new) 0 n in
        ap (λ (ks : List (ℕ × Item)). map fate_of (outcomes_after after told slots ks)) (along-push items_at fs e)
        ∙ ap (map fate_of) (outcomes_after-append after told slots (resolved fs) (items_at fs e))
        ∙ map-append fate_of (outcomes_after after told slots (resolved fs)) (outcomes_after after told (values_after after slots (resolved fs)) (items_at fs e))
        ∙ ap (λ (ps : List (ℕ × V)). map fate_of (outcomes_after after told slots (resolved fs)) ++ map fate_of (outcomes_after after told ps (items_at fs e))) (values_after-slots_by after (λ s. new) 0 n (resolved fs))
        ∙ ap (λ (gs : List Fate). gs ++ map fate_of (outcomes_after after told (slots_behind fs n) (items_at fs e))) (f fewer)
        ∙ ap (λ (gs : List Fate). filter is_outcome (fates fs) ++ gs) (entry_told fs n fewer e)
        ∙ sym (filter-append is_outcome (fates fs) (fate_at fs e ∷ []))
        ∙ sym (ap (filter is_outcome) (fates_more fs e))

  -- Applied to a slot for each series, the items have the outcomes that the counts tell.
  pub counted : (t : Taken) → AreCountsOfOutcomes (outcomes_after after told (new_slots new (entries_of t.kept)) (resolved (entries_of t.kept))) (counts_of t)
  counted t =
      record {
        accepted = count_is accepted (λ f h. grind arith);
        stale = count_is stale (λ f h. grind arith);
        hiding = count_is hides (λ f h. grind arith);
        empty_stones = count_is empty_stone (λ f h. grind arith);
      }
    where
      es : List Entry
      es = entries_of t.kept

      n : ℕ
      n = length (series_of (bindings es))

      count_is : (f : Fate) → ((g : Fate) → is_fate f g ≡ true → is_outcome g ≡ true) → count_by (is_fate f) (fates es) ≡ count_by (is_fate f) (map fate_of (outcomes_after after told (new_slots new es) (resolved es)))
      count_is f only =
          sym (count_by-filter (is_fate f) is_outcome only (fates es))
          ∙ sym (ap (count_by (is_fate f)) (ap (λ (ps : List (ℕ × V)). map fate_of (outcomes_after after told ps (resolved es))) (slots_by-replicate new 0 n) ∙ fates_are n es (omega arith)))
