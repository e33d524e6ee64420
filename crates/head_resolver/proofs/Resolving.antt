-- What a resolver shows, with one entry and with one record more, and when it is full.
use Rattle.std.proofs.Common.{◌≡◌, ℕ, ◌+◌, ◌<◌, ◌≤◌, ◌⊎◌, inl, inr, List, [], ◌∷◌, ◌++◌, Some, None, Option, ap, sym, subst, ◌∙◌, refl, arith, append_assoc, length, take, drop, get_or}
use Rattle.std.specs.Prelude.{map, slice_get, if◌then◌else◌}
use Rattle.std.specs.List.{flat_map}
use Rattle.std.specs.Option.{option_and_then, option_to_list}
use Rattle.std.proofs.lemmas.List.{take-append-drop, take_more, drop_more, map-append}
use Rattle.std.proofs.lemmas.Option.{slice_get-get_or}
use Rattle.hw_bytes.specs.Lists.{distinct}
use Rattle.hw_bytes.proofs.Lists.{along-push, append_none, map_push}
use Rattle.wal_record.specs.declared.record.SeriesEntry.{SeriesEntry}
use Rattle.wal_record.specs.declared.record.WalRecord.{WalRecord}
use Rattle.wal_record.specs.Labels.{same_labels, same_text}
use Rattle.wal_record.specs.Entries.{Entry, series, sample, stone, entries_in, entries_of}
use Rattle.wal_record.specs.Validity.{valid_in}
use Rattle.head_column.specs.declared.items.Item.{Item}
use Rattle.head_column.specs.declared.items.Item.TheVariants as item
use Rattle.head_column.specs.declared.items.Outcome.{Outcome}
use Rattle.head_column.specs.declared.items.Outcome.TheVariants as outcome
use Rattle.head_column.specs.Items.{outcome_of}
use Rattle.head_series.specs.Texts.{place, texts_of}
use Rattle.head_series.specs.Table.{Labels, Table, slot_at, IsFull}
use Rattle.head_series.specs.Bindings.{IsTableOf}
use Rattle.head_series.proofs.BindLemmas.{slot_place}
use Rattle.head_resolver.specs.declared.counts.Counts.{Counts}
use Rattle.head_resolver.specs.Owners.{bindings, owner}
use Rattle.head_resolver.specs.Taken.{Taken, taken_after}
use Rattle.head_resolver.specs.Counts.{Fate, bound, accepted, stale, unknown, hides, empty_stone, unknown_stone, sample_item, stone_item, items_of, fate_of, unknown_fate, item_fate, fate_at, is_fate, counts_of, count_of_class}
use Rattle.head_resolver.specs.Limits.{AreCountsWithin}
use Rattle.head_resolver.specs.Steps.{with_expired, with_fate, with_record, count_of_fate, IsExpiredOver, IsOverTable, IsTableAfter}
use Rattle.head_resolver.specs.Resolved.{ResolverValue, slot_behind, with_slot, items_at, resolved, known_counts_of, IsResolved, IsResolvable}
use Rattle.head_resolver.specs.Resolving.{with_item, with_entry, items_by, IsResolving, Resolves, none, more, IsItemStopped, IsCountStopped, IsStopped, IsStoppedIn}
use Rattle.head_resolver.proofs.Counting.{count_more, counts_at, tally, tally_more, entries_of-push, record_more}
use Rattle.head_resolver.proofs.Known.{bindings-push}
use Rattle.head_resolver.proofs.Limits.{fates_front, count_at, same_fate, fate_within, class_within, class_past, over_table, entries_split}

-- how many entries have the fate, where it needs no column to tell
abbrev pub told_alone : (Fate → ℕ) → Fate → ℕ
told_alone n bound = n bound
told_alone n accepted = 0
told_alone n stale = 0
told_alone n unknown = n unknown
told_alone n hides = 0
told_alone n empty_stone = 0
told_alone n unknown_stone = n unknown_stone

-- the counts with an entry of this fate
abbrev pub with_told : Fate → Counts → Counts
with_told bound c = with_fate bound c
with_told accepted c = c
with_told stale c = c
with_told unknown c = with_fate unknown c
with_told hides c = c
with_told empty_stone c = c
with_told unknown_stone c = with_fate unknown_stone c

with_told_is : (base : Counts) (n : Fate → ℕ) (f : Fate) → counts_at base (told_alone (λ g. if is_fate g f then n g + 1 else n g)) ≡ with_told f (counts_at base (told_alone n))
with_told_is base n bound = refl
with_told_is base n accepted = refl
with_told_is base n stale = refl
with_told_is base n unknown = refl
with_told_is base n hides = refl
with_told_is base n empty_stone = refl
with_told_is base n unknown_stone = refl

pub told_more : (base : Counts) (es : List Entry) (e : Entry) → counts_at base (told_alone (tally (es ++ e ∷ []))) ≡ with_told (fate_at es e) (counts_at base (told_alone (tally es)))
told_more base es e = ap (λ n. counts_at base (told_alone n)) (tally_more es e) ∙ with_told_is base (tally es) (fate_at es e)

-- an outcome is reported by a column
pub by_column : (o : Outcome) (c : Counts) → with_told (fate_of o) c ≡ c
by_column outcome.Accepted c = refl
by_column outcome.Stale c = refl
by_column outcome.Hidden c = refl
by_column outcome.EmptyStone c = refl

pub by_none : (i : Item) (c : Counts) → with_told (unknown_fate i) c ≡ with_fate (unknown_fate i) c
by_none (item.Sample s) c = refl
by_none (item.Stone r) c = refl

-- what the table of some entries tells of the next one
module _ (es : List Entry) (t : Table) (h : IsTableOf (bindings es) t) where
  slot_is : (r : ℕ) → slot_behind es r ≡ slot_at t r
  slot_is r = sym (slot_place (bindings es) t r h ∙ ap (λ (ss : List Labels). option_and_then (λ l. place (same_labels l) ss) (owner es r)) h.series)

  pub items_are : (e : Entry) → items_at es e ≡ items_by t e
  items_are (series e) = refl
  items_are (sample s) = ap (λ o. with_slot o (sample_item s)) (slot_is s.reference)
  items_are (stone d) = ap (λ o. with_slot o (stone_item d)) (slot_is d.reference)

  -- a reference without a slot has no owner
  unowned : (r : ℕ) → slot_at t r ≡ None → owner es r ≡ None
  unowned r e = sym (h.owners r) ∙ ap (option_and_then (slice_get t.series)) e

  item_told : (r : ℕ) (i : Item) (c : Counts) → with_item (slot_at t r) i c ≡ with_told (item_fate es (owner es r) i) c
  item_told r i c = by (slot_at t r) refl where
    by : (o : Option ℕ) → slot_at t r ≡ o → with_item o i c ≡ with_told (item_fate es (owner es r) i) c
    by None e = sym (ap (λ o. with_told (item_fate es o i) c) (unowned r e) ∙ by_none i c)
    by (Some p) e =
        let l : Labels = get_or t.series p [] in
        let at : slice_get t.series p ≡ Some l = slice_get-get_or t.series p [] (h.within r p e) in
        let owned : owner es r ≡ Some l = sym (h.owners r) ∙ ap (option_and_then (slice_get t.series)) e ∙ at in
        sym (ap (λ o. with_told (item_fate es o i) c) owned ∙ by_column (outcome_of (items_of l es) i) c)

  pub entry_told : (e : Entry) (c : Counts) → with_entry t e c ≡ with_told (fate_at es e) c
  entry_told (series e) c = refl
  entry_told (sample s) c = item_told s.reference (sample_item s) c
  entry_told (stone d) c = item_told d.reference (stone_item d) c

-- what the entries say, with the counts that they add to those of the records
pub record IsToldBy (base : Counts) (es : List Entry) (v : ResolverValue) : Type 0 where
  pub shown : IsTableOf (bindings es) v.table
  pub counted : v.counts ≡ counts_at base (told_alone (tally es))

module _ (base : Counts) where
  table_more : (es : List Entry) (t u : Table) (e : Entry) → IsTableOf (bindings es) t → IsTableAfter t e u → IsTableOf (bindings (es ++ e ∷ [])) u
  table_more es t u (series e) h s = subst (λ bs. IsTableOf bs u) (sym (bindings-push es (series e))) (s (bindings es) h)
  table_more es t u (sample x) h s = subst (λ bs. IsTableOf bs u) (sym (bindings-push es (sample x) ∙ append_none (bindings es))) (subst (λ k. IsTableOf (bindings es) k) (sym s) h)
  table_more es t u (stone x) h s = subst (λ bs. IsTableOf bs u) (sym (bindings-push es (stone x) ∙ append_none (bindings es))) (subst (λ k. IsTableOf (bindings es) k) (sym s) h)

  -- one entry more
  step_told : {es : List Entry} {v w : ResolverValue} {e : Entry} {ys : List (ℕ × Item)} → IsToldBy base es v → IsResolving v e ys w → IsToldBy base (es ++ e ∷ []) w
  step_told {es} {v} {w} {e} h s = record {
    shown = table_more es v.table w.table e h.shown s.table;
    counted = s.counts ∙ entry_told es v.table h.shown e v.counts ∙ ap (with_told (fate_at es e)) h.counted ∙ sym (told_more base es e);
  }

  -- some entries more, and their items
  pub resolves_told : {es : List Entry} {v : ResolverValue} (fs : List Entry) {xs : List (ℕ × Item)} {w : ResolverValue} → IsToldBy base es v → Resolves v fs xs w
      → IsToldBy base (es ++ fs) w × (resolved (es ++ fs) ≡ resolved es ++ xs)
  resolves_told {es} {v} fs h none = (subst (λ gs. IsToldBy base gs v) (sym (append_none es)) h, ap resolved (append_none es) ∙ sym (append_none (resolved es)))
  resolves_told {es} {v} fs h (more gs xs m e ys w t s) =
      let front = resolves_told gs h t in (
        subst (λ ks. IsToldBy base ks w) (append_assoc es gs (e ∷ [])) (step_told front.0 s),
        ap resolved (sym (append_assoc es gs (e ∷ [])))
            ∙ along-push items_at (es ++ gs) e
            ∙ ap (λ (zs : List (ℕ × Item)). zs ++ items_at (es ++ gs) e) front.1
            ∙ ap (λ (zs : List (ℕ × Item)). (resolved es ++ xs) ++ zs) (items_are (es ++ gs) m.table front.0.shown e ∙ sym s.items_are)
            ∙ append_assoc (resolved es) xs ys,
      )

module _ {t : Taken} {v : ResolverValue} (h : IsResolved t v) (r : WalRecord) where
  -- the record is counted, its entries aside
  counted_told : IsToldBy (counts_of (taken_after v.min_valid t r)) (entries_of t.kept) (record v { counts = with_expired v.min_valid r (with_record r v.counts) })
  counted_told = record {
    shown = h.shown;
    counted = ap (λ n. with_expired v.min_valid r (with_record r n)) h.counted ∙ sym (record_more v.min_valid t r (told_alone (tally (entries_of t.kept))));
  }

  pushed : entries_of (taken_after v.min_valid t r).kept ≡ entries_of t.kept ++ entries_in (valid_in v.min_valid r)
  pushed = entries_of-push t.kept (valid_in v.min_valid r)

  -- The record was counted, and then what is left of its entries was read.
  module _ (xs : List (ℕ × Item)) (w : ResolverValue) (read : Resolves (record v { counts = with_expired v.min_valid r (with_record r v.counts) }) (entries_in (valid_in v.min_valid r)) xs w) where
    both : IsToldBy (counts_of (taken_after v.min_valid t r)) (entries_of t.kept ++ entries_in (valid_in v.min_valid r)) w × (resolved (entries_of t.kept ++ entries_in (valid_in v.min_valid r)) ≡ resolved (entries_of t.kept) ++ xs)
    both = resolves_told (counts_of (taken_after v.min_valid t r)) (entries_in (valid_in v.min_valid r)) counted_told read

    pub resolved_more : IsResolved (taken_after v.min_valid t r) w
    resolved_more = let told = subst (λ es. IsToldBy (counts_of (taken_after v.min_valid t r)) es w) (sym pushed) both.0 in record { shown = told.shown; counted = told.counted }

    pub items_more : resolved (entries_of (taken_after v.min_valid t r).kept) ≡ resolved (entries_of t.kept) ++ xs
    items_more = ap resolved pushed ∙ both.1

  -- A record's count of its class, or of its expired entries, has no room: with the record the counts are past their limits.
  pub record_stopped : (count_of_class r v.counts ≡ 18446744073709551615) ⊎ IsExpiredOver v.min_valid r v.counts → IsResolvable (taken_after v.min_valid t r) → ⊥
  record_stopped (inl o) w =
      class_past v.min_valid t r (told_alone (tally (entries_of t.kept))) (told_alone (tally (entries_of (taken_after v.min_valid t r).kept)))
      (sym (ap (count_of_class r) h.counted) ∙ o) (class_within (known_counts_of (taken_after v.min_valid t r)) w.counts r)
  record_stopped (inr (inl o)) w = let few = w.counts.expired_samples in let is = ap (λ (n : Counts). n.expired_samples) h.counted in omega (arith, few, is, o)
  record_stopped (inr (inr o)) w = let few = w.counts.expired_stones in let is = ap (λ (n : Counts). n.expired_stones) h.counted in omega (arith, few, is, o)

-- What was read is followed by an entry that is over a limit: nothing that was taken with these entries, and whatever is after them, is
-- within the limits.
module _ (base : Counts) {es : List Entry} {m : ResolverValue} (h : IsToldBy base es m) (e : Entry) (more_entries : List Entry) (t : Taken) (are : entries_of t.kept ≡ es ++ e ∷ more_entries) (w : IsResolvable t) where
  split : entries_of t.kept ≡ (es ++ e ∷ []) ++ more_entries
  split = are ∙ sym (append_assoc es (e ∷ []) more_entries)

  -- the count of the entry's fate, which needs no column to tell, has no room
  fate_stopped : (f : Fate) → ((n : Fate → ℕ) → told_alone n f ≡ n f) → fate_at es e ≡ f → count_of_fate f m.counts ≡ 18446744073709551615 → ⊥
  fate_stopped f alone at o =
      let n : tally es f ≡ 18446744073709551615 = sym (ap (count_of_fate f) h.counted ∙ count_at base (told_alone (tally es)) f ∙ alone (tally es)) ∙ o in
      let one : tally (es ++ e ∷ []) f ≡ tally es f + 1 = count_more f es e ∙ ap (λ b. tally es f + (if b then 1 else 0)) (ap (is_fate f) at ∙ same_fate f) in
      let front = fates_front f (es ++ e ∷ []) more_entries in
      let all : count_of_fate f (known_counts_of t) ≡ tally ((es ++ e ∷ []) ++ more_entries) f =
      count_at (counts_of t) (told_alone (tally (entries_of t.kept))) f ∙ alone (tally (entries_of t.kept)) ∙ ap (λ fs. tally fs f) split in
      let few = fate_within (known_counts_of t) w.counts f in
      omega (arith, n, one, front, all, few)

  item_stopped : (r : ℕ) (i : Item) → fate_at es e ≡ item_fate es (owner es r) i → ((n : Fate → ℕ) → told_alone n (unknown_fate i) ≡ n (unknown_fate i)) → IsItemStopped (slot_at m.table r) i m.counts → ⊥
  item_stopped r i fate alone (absent, full) = fate_stopped (unknown_fate i) alone (fate ∙ ap (λ o. item_fate es o i) (unowned es m.table h.shown r absent)) full

  count_stopped : IsCountStopped m.table e m.counts → ⊥
  count_stopped o = by e refl o where
    by : (f : Entry) → e ≡ f → IsCountStopped m.table f m.counts → ⊥
    by (series x) k full = fate_stopped bound (λ n. refl) (ap (fate_at es) k) full
    by (sample x) k p = item_stopped x.reference (sample_item x) (ap (fate_at es) k) (λ n. refl) p
    by (stone x) k p = item_stopped x.reference (stone_item x) (ap (fate_at es) k) (λ n. refl) p

  stopped : IsStopped m e → ⊥
  stopped s = by s.over where
    by : IsOverTable m.table e ⊎ IsCountStopped m.table e m.counts → ⊥
    by (inl o) = over_table es m.table e more_entries (entries_of t.kept) h.shown s.limit are w.series w.texts o
    by (inr o) = count_stopped o

-- A record was counted and some of its entries were read, and the next is over a limit: with the record, what the records say is past the limits.
pub entries_stopped : {t : Taken} {v : ResolverValue} → IsResolved t v → (r : WalRecord) → IsStoppedIn (record v { counts = with_expired v.min_valid r (with_record r v.counts) }) (entries_in (valid_in v.min_valid r))
    → IsResolvable (taken_after v.min_valid t r) → ⊥
entries_stopped {t} {v} h r s w =
    let next = taken_after v.min_valid t r in
    stopped (counts_of next) (resolves_told (counts_of next) s.front (counted_told h r) s.read).0 s.next s.rest next (entries_split t.kept (valid_in v.min_valid r) s.front s.next s.rest s.whole) w s.stopped

-- What a resolver can show is within the limits.
pub resolvable : (t : Taken) (v : ResolverValue) → IsResolved t v → length v.table.series ≤ 4294967295 → length v.table.texts ≤ 4294967295 → AreCountsWithin v.counts → IsResolvable t
resolvable t v h few_series few_texts few_counts = record {
  series = subst (λ ss. length ss ≤ 4294967295) h.shown.series few_series;
  texts = subst (λ ts. length ts ≤ 4294967295) (h.shown.texts ∙ ap (λ ss. distinct same_text (flat_map texts_of ss)) h.shown.series) few_texts;
  counts = subst AreCountsWithin h.counted few_counts;
}

-- entries leave the least valid time
pub resolves_time : {v w : ResolverValue} {es : List Entry} {xs : List (ℕ × Item)} → Resolves v es xs w → w.min_valid ≡ v.min_valid
resolves_time none = refl
resolves_time (more es xs m e ys w t s) = s.min_valid ∙ resolves_time t

-- one entry more of those that a record lists, as a loop reads them
pub resolves_at : {A : Type 0} (f : A → Entry) (xs : List A) (i : ℕ) (x : A) {v m w : ResolverValue} {is js : List (ℕ × Item)} → i < length xs → x ≡ get_or xs i x
    → Resolves v (map f (take i xs)) is m → IsResolving m (f x) js w → Resolves v (map f (take (i + 1) xs)) (is ++ js) w
resolves_at f xs i x {v} {m} {w} {is} {js} within at t s =
    subst (λ es. Resolves v es (is ++ js) w)
    (sym (ap (map f) (take_more xs i x within ∙ ap (λ y. take i xs ++ y ∷ []) (sym at)) ∙ map_push f (take i xs) x))
    (more (map f (take i xs)) is m (f x) js w t s)

-- the entry that a loop reads could not be
pub stopped_at : {A : Type 0} (f : A → Entry) (xs : List A) (i : ℕ) (x : A) {v m : ResolverValue} {is : List (ℕ × Item)} → i < length xs → x ≡ get_or xs i x
    → Resolves v (map f (take i xs)) is m → IsStopped m (f x) → IsStoppedIn v (map f xs)
stopped_at f xs i x {v} {m} {is} within at t s = record {
  front = map f (take i xs);
  next = f x;
  rest = map f (drop (i + 1) xs);
  items = is;
  middle = m;
  whole = ap (map f) (sym (take-append-drop i xs) ∙ ap (λ ys. take i xs ++ ys) (drop_more xs i x within ∙ ap (λ y. y ∷ drop (i + 1) xs) (sym at))) ∙ map-append f (take i xs) (x ∷ drop (i + 1) xs);
  read = t;
  stopped = s;
}

-- a binding that was refused
pub binding_stopped : (v : ResolverValue) (e : SeriesEntry) → (IsFull v.table e.labels ⊎ (v.counts.series_entries ≡ 18446744073709551615)) × (v.table.most ≡ 4294967295) → IsStopped v (series e)
binding_stopped v e h = record { over = h.0; limit = h.1 }

pub one_at_most : {A : Type 0} (o : Option A) → length (option_to_list o) ≤ 1
one_at_most None = omega arith
one_at_most (Some x) = omega arith
