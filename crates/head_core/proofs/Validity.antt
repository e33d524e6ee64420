-- What a least valid time leaves of what the entries of a log say.
use Rattle.std.proofs.Common.{◌≡◌, ℕ, Bool, true, false, List, [], ◌∷◌, ◌++◌, Some, None, Option, refl, sym, subst, ap, ap₂, ◌∙◌, arith}
use Rattle.std.specs.Prelude.{ℤ, ◌≤ℤ◌, map, filter, int_le, if◌then◌else◌}
use Rattle.std.specs.List.{flat_map}
use Rattle.std.proofs.lemmas.Int.{ints}
use Rattle.std.proofs.lemmas.List.{map-append}
use Rattle.std.proofs.lemmas.List.Concat.{flat_map-append}
use Rattle.std.proofs.lemmas.List.Elements.{filter-append}
use Rattle.hw_bytes.proofs.Lists.{along-push, append_none, by_push, flat_map-push}
use Rattle.wal_record.specs.declared.record.SampleEntry.{SampleEntry}
use Rattle.wal_record.specs.declared.record.StoneEntry.{StoneEntry}
use Rattle.wal_record.specs.Labels.{same_labels}
use Rattle.wal_record.specs.Entries.{Entry, series, sample, stone}
use Rattle.wal_record.specs.Validity.{raised, valid_entry}
use Rattle.head_column.specs.declared.items.Item.{Item}
use Rattle.head_column.specs.declared.items.Item.TheVariants as item
use Rattle.head_column.specs.Times.{greatest}
use Rattle.head_column.specs.Histories.{History, IsHistoryOf}
use Rattle.head_column.specs.Items.{outcome_of}
use Rattle.head_column.specs.Validity.{valid_item, valid_items, history_from, latest_from, IsValid, item_from}
use Rattle.head_column.proofs.Validity.{history_valid, outcome_valid, greatest_from}
use Rattle.head_series.specs.Table.{Labels}
use Rattle.head_series.specs.Bindings.{Binding, IsTableOf, series_of, owner as owner_of}
use Rattle.head_postings.specs.Postings.{IsPostingsOf}
use Rattle.head_resolver.specs.Owners.{bindings, owner}
use Rattle.head_resolver.specs.Counts.{sample_item, stone_item, with_owner, known_at, known, items_of, Fate, bound, accepted, stale, unknown, hides, empty_stone, unknown_stone, fate_of, item_fate, fate_at, time_at, accepted_times}
use Rattle.head_resolver.proofs.Validity.{valid_of, bindings_valid}
use Rattle.head_core.specs.Content.{Content, IsShownBy, AreHistoriesOf, by_slot}
use Rattle.head_core.specs.Validity.{content_from, IsValidEntry, entry_from}

-- ---- owners

owner_valid : (m : ℤ) (es : List Entry) (r : ℕ) → owner (valid_of m es) r ≡ owner es r
owner_valid m es r = ap (λ bs. owner_of bs r) (bindings_valid m es)

-- ---- known items

valid_known : ℤ → Labels × Item → List (Labels × Item)
valid_known m k = map (λ i. (k.0, i)) (valid_item m k.1)

known_entry : (m : ℤ) (es : List Entry) (e : Entry) → known (valid_of m es ++ valid_entry m e) ≡ known (valid_of m es) ++ flat_map (valid_known m) (known_at es e)
unfolding valid_known
known_entry m es (series e) = along-push known_at (valid_of m es) (series e)
known_entry m es (sample s) = by (int_le m s.time) refl where
  kept : (o : Option Labels) → int_le m s.time ≡ true → with_owner o (sample_item s) ≡ flat_map (valid_known m) (with_owner o (sample_item s))
  kept None e = refl
  kept (Some l) e = ap (λ b. map {B = Labels × Item} (λ i. (l, i)) (if b then sample_item s ∷ [] else []) ++ []) (sym e)

  gone : (o : Option Labels) → int_le m s.time ≡ false → [] ≡ flat_map (valid_known m) (with_owner o (sample_item s))
  gone None e = refl
  gone (Some l) e = ap (λ b. map {B = Labels × Item} (λ i. (l, i)) (if b then sample_item s ∷ [] else []) ++ []) (sym e)

  by : (b : Bool) → int_le m s.time ≡ b → known (valid_of m es ++ map sample (if b then s ∷ [] else [])) ≡ known (valid_of m es) ++ flat_map (valid_known m) (known_at es (sample s))
  by true e =
      along-push known_at (valid_of m es) (sample s)
      ∙ ap (λ o. known (valid_of m es) ++ with_owner o (sample_item s)) (owner_valid m es s.reference)
      ∙ ap (λ ks. known (valid_of m es) ++ ks) (kept (owner es s.reference) e)
  by false e =
      ap known (append_none (valid_of m es))
      ∙ sym (append_none (known (valid_of m es)))
      ∙ ap (λ ks. known (valid_of m es) ++ ks) (gone (owner es s.reference) e)
known_entry m es (stone d) = by (int_le m d.max_time) refl where
  kept : (o : Option Labels) → int_le m d.max_time ≡ true → with_owner o (stone_item (raised m d)) ≡ flat_map (valid_known m) (with_owner o (stone_item d))
  kept None e = refl
  kept (Some l) e = ap (λ b. map {B = Labels × Item} (λ i. (l, i)) (if b then stone_item (raised m d) ∷ [] else []) ++ []) (sym e)

  gone : (o : Option Labels) → int_le m d.max_time ≡ false → [] ≡ flat_map (valid_known m) (with_owner o (stone_item d))
  gone None e = refl
  gone (Some l) e = ap (λ b. map {B = Labels × Item} (λ i. (l, i)) (if b then stone_item (raised m d) ∷ [] else []) ++ []) (sym e)

  by : (b : Bool) → int_le m d.max_time ≡ b → known (valid_of m es ++ map stone (if b then raised m d ∷ [] else [])) ≡ known (valid_of m es) ++ flat_map (valid_known m) (known_at es (stone d))
  by true e =
      along-push known_at (valid_of m es) (stone (raised m d))
      ∙ ap (λ o. known (valid_of m es) ++ with_owner o (stone_item (raised m d))) (owner_valid m es d.reference)
      ∙ ap (λ ks. known (valid_of m es) ++ ks) (kept (owner es d.reference) e)
  by false e =
      ap known (append_none (valid_of m es))
      ∙ sym (append_none (known (valid_of m es)))
      ∙ ap (λ ks. known (valid_of m es) ++ ks) (gone (owner es d.reference) e)

known_valid : (m : ℤ) (es : List Entry) → known (valid_of m es) ≡ flat_map (valid_known m) (known es)
known_valid m es = by_push (λ fs. known (valid_of m fs) ≡ flat_map (valid_known m) (known fs)) refl step es where
  step : (fs : List Entry) (e : Entry) → known (valid_of m fs) ≡ flat_map (valid_known m) (known fs) → known (valid_of m (fs ++ e ∷ [])) ≡ flat_map (valid_known m) (known (fs ++ e ∷ []))
  step fs e h =
      ap known (flat_map-push (valid_entry m) fs e)
      ∙ known_entry m fs e
      ∙ ap (λ ks. ks ++ flat_map (valid_known m) (known_at fs e)) h
      ∙ sym (flat_map-append (valid_known m) (known fs) (known_at fs e))
      ∙ ap (flat_map (valid_known m)) (sym (along-push known_at fs e))

-- of some known items those of the label set
abbrev mine : Labels → List (Labels × Item) → List Item
mine l ks = map (λ k. k.1) (filter (λ k. same_labels l k.0) ks)

mine-append : (l : Labels) (ks others : List (Labels × Item)) → mine l (ks ++ others) ≡ mine l ks ++ mine l others
mine-append l ks others =
    ap (map (λ (k : Labels × Item). k.1)) (filter-append (λ (k : Labels × Item). same_labels l k.0) ks others)
    ∙ map-append (λ (k : Labels × Item). k.1) (filter (λ k. same_labels l k.0) ks) (filter (λ k. same_labels l k.0) others)

-- items of one label set
mine_of : (l o : Labels) (b : Bool) (is : List Item) → same_labels l o ≡ b → mine l (map (λ i. (o, i)) is) ≡ (if b then is else [])
mine_of l o true [] e = refl
mine_of l o false [] e = refl
mine_of l o true (i ∷ is) e =
    ap (λ b. map (λ (k : Labels × Item). k.1) (if b then (o, i) ∷ filter (λ k. same_labels l k.0) (map (λ j. (o, j)) is) else filter (λ k. same_labels l k.0) (map (λ j. (o, j)) is))) e
    ∙ ap (λ js. i ∷ js) (mine_of l o true is e)
mine_of l o false (i ∷ is) e =
    ap (λ b. map (λ (k : Labels × Item). k.1) (if b then (o, i) ∷ filter (λ k. same_labels l k.0) (map (λ j. (o, j)) is) else filter (λ k. same_labels l k.0) (map (λ j. (o, j)) is))) e
    ∙ mine_of l o false is e

mine_valid : (m : ℤ) (l : Labels) (ks : List (Labels × Item)) → mine l (flat_map (valid_known m) ks) ≡ valid_items m (mine l ks)
unfolding valid_known
mine_valid m l [] = refl
mine_valid m l (k ∷ ks) = mine-append l (valid_known m k) (flat_map (valid_known m) ks) ∙ by (same_labels l k.0) refl (mine_valid m l ks) where
  by : (b : Bool) → same_labels l k.0 ≡ b → mine l (flat_map (valid_known m) ks) ≡ valid_items m (mine l ks)
      → mine l (map (λ i. (k.0, i)) (valid_item m k.1)) ++ mine l (flat_map (valid_known m) ks)
      ≡ valid_items m (map (λ (j : Labels × Item). j.1) (if b then k ∷ filter (λ j. same_labels l j.0) ks else filter (λ j. same_labels l j.0) ks))
  by true e h = ap₂ (λ xs ys. xs ++ ys) (mine_of l k.0 true (valid_item m k.1) e) h
  by false e h = ap₂ (λ xs ys. xs ++ ys) (mine_of l k.0 false (valid_item m k.1) e) h

-- the items of a label set after m are what m leaves of its items
pub items_valid : (m : ℤ) (l : Labels) (es : List Entry) → items_of l (valid_of m es) ≡ valid_items m (items_of l es)
items_valid m l es = ap (mine l) (known_valid m es) ∙ mine_valid m l (known es)

-- ---- fates

item_fate_valid : (m : ℤ) (es : List Entry) (o : Option Labels) (i : Item) → IsValid m i → item_fate (valid_of m es) o (item_from m i) ≡ item_fate es o i
item_fate_valid m es None (item.Sample s) h = refl
item_fate_valid m es None (item.Stone r) h = refl
item_fate_valid m es (Some l) i h = ap fate_of (ap (λ is. outcome_of is (item_from m i)) (items_valid m l es) ∙ outcome_valid m (items_of l es) i h)

-- what becomes of an entry that is not expired depends only on what m leaves of those before it
pub fate_valid : (m : ℤ) (es : List Entry) (e : Entry) → IsValidEntry m e → fate_at (valid_of m es) (entry_from m e) ≡ fate_at es e
fate_valid m es (series e) h = refl
fate_valid m es (sample s) h = ap (λ o. item_fate (valid_of m es) o (sample_item s)) (owner_valid m es s.reference) ∙ item_fate_valid m es (owner es s.reference) (sample_item s) h
fate_valid m es (stone d) h = ap (λ o. item_fate (valid_of m es) o (stone_item (raised m d))) (owner_valid m es d.reference) ∙ item_fate_valid m es (owner es d.reference) (stone_item d) h

-- ---- accepted times

le_of : (a b : ℤ) → int_le a b ≡ true → a ≤ℤ b
le_of a b h = grind (arith, ints)

abbrev time_of : List Entry → Entry → List ℤ
time_of before e = time_at (fate_at before e) e

no_time : (f : Fate) (d : StoneEntry) → time_at f (stone d) ≡ []
no_time bound d = refl
no_time accepted d = refl
no_time stale d = refl
no_time unknown d = refl
no_time hides d = refl
no_time empty_stone d = refl
no_time unknown_stone d = refl

time_kept : (m : ℤ) (f : Fate) (s : SampleEntry) → int_le m s.time ≡ true → time_at f (sample s) ≡ filter (int_le m) (time_at f (sample s))
time_kept m bound s e = refl
time_kept m accepted s e = ap (λ b. if b then s.time ∷ [] else []) (sym e)
time_kept m stale s e = refl
time_kept m unknown s e = refl
time_kept m hides s e = refl
time_kept m empty_stone s e = refl
time_kept m unknown_stone s e = refl

time_gone : (m : ℤ) (f : Fate) (s : SampleEntry) → int_le m s.time ≡ false → [] ≡ filter (int_le m) (time_at f (sample s))
time_gone m bound s e = refl
time_gone m accepted s e = ap (λ b. if b then s.time ∷ [] else []) (sym e)
time_gone m stale s e = refl
time_gone m unknown s e = refl
time_gone m hides s e = refl
time_gone m empty_stone s e = refl
time_gone m unknown_stone s e = refl

times_entry : (m : ℤ) (es : List Entry) (e : Entry) → accepted_times (valid_of m es ++ valid_entry m e) ≡ accepted_times (valid_of m es) ++ filter (int_le m) (time_of es e)
times_entry m es (series e) = along-push time_of (valid_of m es) (series e)
times_entry m es (sample s) = by (int_le m s.time) refl where
  by : (b : Bool) → int_le m s.time ≡ b → accepted_times (valid_of m es ++ map sample (if b then s ∷ [] else [])) ≡ accepted_times (valid_of m es) ++ filter (int_le m) (time_of es (sample s))
  by true e =
      along-push time_of (valid_of m es) (sample s)
      ∙ ap (λ f. accepted_times (valid_of m es) ++ time_at f (sample s)) (fate_valid m es (sample s) (le_of m s.time e))
      ∙ ap (λ ts. accepted_times (valid_of m es) ++ ts) (time_kept m (fate_at es (sample s)) s e)
  by false e =
      ap accepted_times (append_none (valid_of m es))
      ∙ sym (append_none (accepted_times (valid_of m es)))
      ∙ ap (λ ts. accepted_times (valid_of m es) ++ ts) (time_gone m (fate_at es (sample s)) s e)
times_entry m es (stone d) = by (int_le m d.max_time) ∙ ap (λ ts. accepted_times (valid_of m es) ++ filter (int_le m) ts) (sym (no_time (fate_at es (stone d)) d)) where
  by : (b : Bool) → accepted_times (valid_of m es ++ map stone (if b then raised m d ∷ [] else [])) ≡ accepted_times (valid_of m es) ++ []
  by true = along-push time_of (valid_of m es) (stone (raised m d)) ∙ ap (λ ts. accepted_times (valid_of m es) ++ ts) (no_time (fate_at (valid_of m es) (stone (raised m d))) (raised m d))
  by false = ap accepted_times (append_none (valid_of m es)) ∙ sym (append_none (accepted_times (valid_of m es)))

pub times_valid : (m : ℤ) (es : List Entry) → accepted_times (valid_of m es) ≡ filter (int_le m) (accepted_times es)
times_valid m es = by_push (λ fs. accepted_times (valid_of m fs) ≡ filter (int_le m) (accepted_times fs)) refl step es where
  step : (fs : List Entry) (e : Entry) → accepted_times (valid_of m fs) ≡ filter (int_le m) (accepted_times fs) → accepted_times (valid_of m (fs ++ e ∷ [])) ≡ filter (int_le m) (accepted_times (fs ++ e ∷ []))
  step fs e h =
      ap accepted_times (flat_map-push (valid_entry m) fs e)
      ∙ times_entry m fs e
      ∙ ap (λ ts. ts ++ filter (int_le m) (time_of fs e)) h
      ∙ sym (filter-append (int_le m) (accepted_times fs) (time_of fs e))
      ∙ ap (filter (int_le m)) (sym (along-push time_of fs e))

-- ---- what is shown

histories_valid : (m : ℤ) (es : List Entry) (ls : List Labels) (hs : List History) → AreHistoriesOf es ls hs → AreHistoriesOf (valid_of m es) ls (map (history_from m) hs)
histories_valid m es [] [] h = tt
histories_valid m es [] (x ∷ xs) h = absurd h
histories_valid m es (l ∷ ls) [] h = absurd h
histories_valid m es (l ∷ ls) (x ∷ xs) h =
    (subst (λ is. IsHistoryOf is (history_from m x)) (sym (items_valid m l es)) (history_valid m (items_of l es) x h.0), histories_valid m es ls xs h.1)

-- what m leaves of entries makes what m leaves of their content
pub shown_valid : (m : ℤ) (es : List Entry) (c : Content) → IsShownBy es c → IsShownBy (valid_of m es) (content_from m c)
shown_valid m es c h = record {
  shown = subst (λ (bs : List Binding). IsTableOf bs c.table) (sym (bindings_valid m es)) h.shown;
  histories = subst (λ (bs : List Binding). AreHistoriesOf (valid_of m es) (series_of bs) (map (history_from m) c.histories)) (sym (bindings_valid m es))
      (histories_valid m es (series_of (bindings es)) c.histories h.histories);
  postings = subst (λ (bs : List Binding). IsPostingsOf (by_slot (series_of bs)) c.postings) (sym (bindings_valid m es)) h.postings;
  greatest_time = ap (latest_from m) h.greatest_time ∙ sym (greatest_from m (accepted_times es)) ∙ ap greatest (sym (times_valid m es));
}
