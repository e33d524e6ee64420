-- What the records of a window say whose bindings were all made ahead: their items, and the counts that they add.
use Rattle.std.proofs.Common.{◌≡◌, ℕ, ℤ, ◌+◌, ◌<◌, List, [], ◌∷◌, ◌++◌, Some, None, Option, Ok, Err, Result, OnOk, true, false, ap, sym, subst, ◌∙◌, refl, arith, add-zero, append_assoc, length, length-append, take, drop, get_or}
use Rattle.std.specs.Prelude.{map}
use Rattle.std.specs.List.{flat_map, fold, list_any}
use Rattle.std.specs.Option.{option_and_then}
use Rattle.std.proofs.lemmas.Grind.{fold-append}
use Rattle.std.proofs.lemmas.List.Concat.{flat_map-append}
use Rattle.hw_bytes.proofs.Lists.{along-push, append_none}
use Rattle.wal_record.specs.declared.record.SampleEntry.{SampleEntry}
use Rattle.wal_record.specs.declared.record.SeriesEntry.{SeriesEntry}
use Rattle.wal_record.specs.declared.record.StoneEntry.{StoneEntry}
use Rattle.wal_record.specs.declared.record.WalRecord.{WalRecord}
use Rattle.wal_record.specs.declared.record.WalRecord.TheVariants.{Series, Samples, Stones, Other}
use Rattle.wal_record.specs.Labels.{same_labels}
use Rattle.wal_record.specs.Entries.{Entry, series, sample, stone, entries_in, entries_of}
use Rattle.wal_record.specs.Validity.{valid, valid_entry, valid_in, valid_sample, valid_stone}
use Rattle.wal_record.proofs.Validity.{record_entries, valid_entries}
use Rattle.head_column.specs.declared.items.Item.{Item}
use Rattle.head_column.specs.Items.{outcome_of}
use Rattle.head_series.specs.Texts.{place}
use Rattle.head_series.specs.Table.{Labels, slot_at}
use Rattle.head_series.specs.Bindings.{IsTableOf, series_of}
use Rattle.head_series.proofs.Places.{place_none}
use Rattle.head_resolver.specs.declared.counts.Counts.{Counts}
use Rattle.head_resolver.specs.Owners.{bindings, owner}
use Rattle.head_resolver.specs.Taken.{Taken, taken_after, taken_with}
use Rattle.head_resolver.specs.Counts.{bound, sample_item, stone_item, items_of, item_fate, fate_at, counts_of}
use Rattle.head_resolver.specs.Limits.{AreCountsWithin}
use Rattle.head_resolver.specs.Steps.{no_counts, plus, with_expired, with_record}
use Rattle.head_resolver.specs.Resolved.{ResolverValue, slot_behind, with_slot, items_at, resolved, known_counts_of, IsResolvable}
use Rattle.head_resolver.specs.Resolving.{with_item}
use Rattle.head_resolver.specs.Changes.{Change, changes_of, placed_series, slot_before}
use Rattle.head_resolver.specs.Ahead.{counts_from, counts_with, items_from, items_with, record_with, AreSpreadAt, IsAhead}
use Rattle.head_resolver.proofs.Counting.{counts_at, entries_of-push, record_more, tally}
use Rattle.head_resolver.proofs.Entries.{bindings_append, bindings_push}
use Rattle.head_resolver.proofs.Known.{is_bound-series_of, owner_is_bound}
use Rattle.head_resolver.proofs.Resolving.{by_column, by_none, told_alone, told_more, with_told}
use Rattle.head_resolver.proofs.ResolvingValid.{left_split}
use Rattle.head_resolver.proofs.Sums.{plus_expired, plus_fate, plus_item, plus_none, plus_record, within_sum}
use Rattle.head_resolver.proofs.Validity.{bindings_valid}
use Rattle.head_resolver.proofs.Whole.{taken_with-push}
use Rattle.head_resolver.proofs.Windows.{at_place, same_slots, table_slots}

-- ---- one entry, by the slots after those before it

module _ (es : List Entry) where
  item_told : (r : ℕ) (i : Item) (c : Counts) → with_item (slot_behind es r) i c ≡ with_told (item_fate es (owner es r) i) c
  item_told r i c = by (owner es r) refl where
    at : (l : Labels) → list_any (same_labels l) (series_of (bindings es)) ≡ true → (o : Option ℕ) → place (same_labels l) (series_of (bindings es)) ≡ o → with_item o i c ≡ with_told (item_fate es (Some l) i) c
    at l among None e = let k : list_any (same_labels l) (series_of (bindings es)) ≡ false = place_none (same_labels l) (series_of (bindings es)) e in cc
    at l among (Some s) e = sym (by_column (outcome_of (items_of l es) i) c)

    by : (o : Option Labels) → owner es r ≡ o → with_item (option_and_then (λ l. place (same_labels l) (series_of (bindings es))) o) i c ≡ with_told (item_fate es o i) c
    by None e = sym (by_none i c)
    by (Some l) e = at l (is_bound-series_of (bindings es) l ∙ owner_is_bound (bindings es) r l e) (place (same_labels l) (series_of (bindings es))) refl

-- the entry's reference has its slot after these entries
abbrev Sees : (ℕ → Option ℕ) → List Entry → Entry → Type 0
Sees slots es (series e) = Unit {0}
Sees slots es (sample s) = slots s.reference ≡ slot_behind es s.reference
Sees slots es (stone d) = slots d.reference ≡ slot_behind es d.reference

-- so does each entry after those before it
abbrev pub SeeAll : (ℕ → Option ℕ) → List Entry → List Entry → Type 0
SeeAll slots es [] = Unit {0}
SeeAll slots es (e ∷ fs) = Sees slots es e × SeeAll slots (es ++ e ∷ []) fs

counts_told : (slots : ℕ → Option ℕ) (es : List Entry) (e : Entry) (c : Counts) → Sees slots es e → counts_with slots c e ≡ with_told (fate_at es e) c
counts_told slots es (series e) c h = refl
counts_told slots es (sample s) c h = ap (λ o. with_item o (sample_item s) c) h ∙ item_told es s.reference (sample_item s) c
counts_told slots es (stone d) c h = ap (λ o. with_item o (stone_item d) c) h ∙ item_told es d.reference (stone_item d) c

items_are : (slots : ℕ → Option ℕ) (es : List Entry) (e : Entry) → Sees slots es e → items_at es e ≡ items_with slots e
items_are slots es (series e) h = refl
items_are slots es (sample s) h = ap (λ o. with_slot o (sample_item s)) (sym h)
items_are slots es (stone d) h = ap (λ o. with_slot o (stone_item d)) (sym h)

-- ---- the entries of a record, which are all of one kind

see_series : (slots : ℕ → Option ℕ) (es : List Entry) (xs : List SeriesEntry) → SeeAll slots es (map series xs)
see_series slots es [] = tt
see_series slots es (x ∷ xs) = (tt, see_series slots (es ++ series x ∷ []) xs)

see_samples : (slots : ℕ → Option ℕ) (es : List Entry) (xs : List SampleEntry) → ((r : ℕ) → slots r ≡ slot_behind es r) → SeeAll slots es (map sample xs)
see_samples slots es [] h = tt
see_samples slots es (x ∷ xs) h =
    (h x.reference, see_samples slots (es ++ sample x ∷ []) xs (λ r. h r ∙ same_slots es (es ++ sample x ∷ []) r (sym (bindings_push es (sample x) ∙ append_none (bindings es)))))

see_stones : (slots : ℕ → Option ℕ) (es : List Entry) (xs : List StoneEntry) → ((r : ℕ) → slots r ≡ slot_behind es r) → SeeAll slots es (map stone xs)
see_stones slots es [] h = tt
see_stones slots es (x ∷ xs) h =
    (h x.reference, see_stones slots (es ++ stone x ∷ []) xs (λ r. h r ∙ same_slots es (es ++ stone x ∷ []) r (sym (bindings_push es (stone x) ∙ append_none (bindings es)))))

see_record : (slots : ℕ → Option ℕ) (es : List Entry) (m : ℤ) (r : WalRecord) → ((q : ℕ) → slots q ≡ slot_behind es q) → SeeAll slots es (entries_in (valid_in m r))
see_record slots es m (Series xs) h = see_series slots es xs
see_record slots es m (Samples xs) h = see_samples slots es (flat_map (valid_sample m) xs) h
see_record slots es m (Stones xs) h = see_stones slots es (flat_map (valid_stone m) xs) h
see_record slots es m (Other kind) h = tt

-- ---- some entries

told_all : (base : Counts) (slots : ℕ → Option ℕ) (es fs : List Entry) (c : Counts) → SeeAll slots es fs → c ≡ counts_at base (told_alone (tally es)) → fold (counts_with slots) c fs ≡ counts_at base (told_alone (tally (es ++ fs)))
told_all base slots es [] c see h = h ∙ ap (λ gs. counts_at base (told_alone (tally gs))) (sym (append_none es))
told_all base slots es (e ∷ fs) c see h =
    told_all base slots (es ++ e ∷ []) fs (counts_with slots c e) see.1 (counts_told slots es e c see.0 ∙ ap (with_told (fate_at es e)) h ∙ sym (told_more base es e))
    ∙ ap (λ gs. counts_at base (told_alone (tally gs))) (append_assoc es (e ∷ []) fs)

items_all : (slots : ℕ → Option ℕ) (es fs : List Entry) → SeeAll slots es fs → resolved (es ++ fs) ≡ resolved es ++ flat_map (items_with slots) fs
items_all slots es [] see = ap resolved (append_none es) ∙ sym (append_none (resolved es))
items_all slots es (e ∷ fs) see =
    ap resolved (sym (append_assoc es (e ∷ []) fs))
    ∙ items_all slots (es ++ e ∷ []) fs see.1
    ∙ ap (λ (is : List (ℕ × Item)). is ++ flat_map (items_with slots) fs) (along-push items_at es e ∙ ap (λ (is : List (ℕ × Item)). resolved es ++ is) (items_are slots es e see.0))
    ∙ append_assoc (resolved es) (items_with slots e) (flat_map (items_with slots) fs)

-- ---- a record

module _ (m : ℤ) (t : Taken) (r : WalRecord) (slots : ℕ → Option ℕ) (h : (q : ℕ) → slots q ≡ slot_behind (entries_of t.kept) q) where
  pushed : entries_of (taken_after m t r).kept ≡ entries_of t.kept ++ entries_in (valid_in m r)
  pushed = entries_of-push t.kept (valid_in m r)

  record_told : (c : Counts) → c ≡ known_counts_of t → record_with m slots r c ≡ known_counts_of (taken_after m t r)
  record_told c counted =
      told_all (counts_of (taken_after m t r)) slots (entries_of t.kept) (entries_in (valid_in m r)) (with_expired m r (with_record r c)) (see_record slots (entries_of t.kept) m r h)
      (ap (λ n. with_expired m r (with_record r n)) counted ∙ sym (record_more m t r (told_alone (tally (entries_of t.kept)))))
      ∙ ap (λ es. counts_at (counts_of (taken_after m t r)) (told_alone (tally es))) (sym pushed)

  record_items : resolved (entries_of (taken_after m t r).kept) ≡ resolved (entries_of t.kept) ++ flat_map (items_with slots) (entries_in (valid_in m r))
  record_items = ap resolved pushed ∙ items_all slots (entries_of t.kept) (entries_in (valid_in m r)) (see_record slots (entries_of t.kept) m r h)

-- what is kept of records binds what they bind
pub kept_bind : (m : ℤ) (t : Taken) (rs : List WalRecord) → bindings (entries_of (taken_with m t rs).kept) ≡ bindings (entries_of t.kept ++ entries_of rs)
kept_bind m t rs =
    ap bindings (flat_map-append entries_in t.kept (valid m rs))
    ∙ bindings_append (entries_of t.kept) (entries_of (valid m rs))
    ∙ ap (λ bs. bindings (entries_of t.kept) ++ bs) (ap bindings (valid_entries m rs) ∙ bindings_valid m (entries_of rs))
    ∙ sym (bindings_append (entries_of t.kept) (entries_of rs))

-- ---- the records of a window

module _ (m : ℤ) (t : Taken) (slots : ℕ → ℕ → Option ℕ) (all : List WalRecord)
    (see : (qs ps : List WalRecord) → all ≡ qs ++ ps → (r : ℕ) → slots (length qs) r ≡ slot_behind (entries_of t.kept ++ entries_of qs) r) where
  see_kept : (qs ps : List WalRecord) → all ≡ qs ++ ps → (r : ℕ) → slots (length qs) r ≡ slot_behind (entries_of (taken_with m t qs).kept) r
  see_kept qs ps split r = see qs ps split r ∙ same_slots (entries_of t.kept ++ entries_of qs) (entries_of (taken_with m t qs).kept) r (sym (kept_bind m t qs))

  one_long : (front : List WalRecord) (r : WalRecord) → length (front ++ r ∷ []) ≡ length front + 1
  one_long front r = length-append front (r ∷ [])

  moved : (front rs back : List WalRecord) (r : WalRecord) → all ≡ front ++ ((r ∷ rs) ++ back) → all ≡ (front ++ r ∷ []) ++ (rs ++ back)
  moved front rs back r split = split ∙ sym (append_assoc front (r ∷ []) (rs ++ back))

  pub window_told : (front rs back : List WalRecord) (c : Counts) → all ≡ front ++ (rs ++ back) → c ≡ known_counts_of (taken_with m t front) → counts_from m slots (length front) rs c ≡ known_counts_of (taken_with m t (front ++ rs))
  window_told front [] back c split h = h ∙ ap (λ qs. known_counts_of (taken_with m t qs)) (sym (append_none front))
  window_told front (r ∷ rs) back c split h =
      let d : Counts = record_with m (slots (length front)) r c in
      let told : d ≡ known_counts_of (taken_with m t (front ++ r ∷ [])) =
      record_told m (taken_with m t front) r (slots (length front)) (see_kept front ((r ∷ rs) ++ back) split) c h ∙ ap known_counts_of (sym (taken_with-push m t front r)) in
      ap (λ n. counts_from m slots n rs d) (sym (one_long front r))
      ∙ window_told (front ++ r ∷ []) rs back d (moved front rs back r split) told
      ∙ ap (λ qs. known_counts_of (taken_with m t qs)) (append_assoc front (r ∷ []) rs)

  pub window_items : (front rs back : List WalRecord) → all ≡ front ++ (rs ++ back)
      → resolved (entries_of (taken_with m t (front ++ rs)).kept) ≡ resolved (entries_of (taken_with m t front).kept) ++ items_from m slots (length front) rs
  window_items front [] back split = ap (λ qs. resolved (entries_of (taken_with m t qs).kept)) (append_none front) ∙ sym (append_none (resolved (entries_of (taken_with m t front).kept)))
  window_items front (r ∷ rs) back split =
      let here : List (ℕ × Item) = flat_map (items_with (slots (length front))) (entries_in (valid_in m r)) in
      ap (λ qs. resolved (entries_of (taken_with m t qs).kept)) (sym (append_assoc front (r ∷ []) rs))
      ∙ window_items (front ++ r ∷ []) rs back (moved front rs back r split)
      ∙ ap (λ n. resolved (entries_of (taken_with m t (front ++ r ∷ [])).kept) ++ items_from m slots n rs) (one_long front r)
      ∙ ap (λ (is : List (ℕ × Item)). is ++ items_from m slots (length front + 1) rs)
      (ap (λ (u : Taken). resolved (entries_of u.kept)) (taken_with-push m t front r) ∙ record_items m (taken_with m t front) r (slots (length front)) (see_kept front ((r ∷ rs) ++ back) split))
      ∙ append_assoc (resolved (entries_of (taken_with m t front).kept)) here (items_from m slots (length front + 1) rs)

-- ---- sums of counts

plus_with : (slots : ℕ → Option ℕ) (e : Entry) (c d : Counts) → counts_with slots (plus c d) e ≡ plus c (counts_with slots d e)
plus_with slots (series e) c d = plus_fate bound c d
plus_with slots (sample s) c d = plus_item (slots s.reference) (sample_item s) c d
plus_with slots (stone x) c d = plus_item (slots x.reference) (stone_item x) c d

plus_all : (slots : ℕ → Option ℕ) (es : List Entry) (c d : Counts) → fold (counts_with slots) (plus c d) es ≡ plus c (fold (counts_with slots) d es)
plus_all slots [] c d = refl
plus_all slots (e ∷ es) c d = ap (λ k. fold (counts_with slots) k es) (plus_with slots e c d) ∙ plus_all slots es c (counts_with slots d e)

plus_recorded : (m : ℤ) (slots : ℕ → Option ℕ) (r : WalRecord) (c d : Counts) → record_with m slots r (plus c d) ≡ plus c (record_with m slots r d)
plus_recorded m slots r c d =
    ap (λ k. fold (counts_with slots) (with_expired m r k) (entries_in (valid_in m r))) (plus_record r c d)
    ∙ ap (λ k. fold (counts_with slots) k (entries_in (valid_in m r))) (plus_expired m r c (with_record r d))
    ∙ plus_all slots (entries_in (valid_in m r)) c (with_expired m r (with_record r d))

plus_from : (m : ℤ) (slots : ℕ → ℕ → Option ℕ) (n : ℕ) (rs : List WalRecord) (c d : Counts) → counts_from m slots n rs (plus c d) ≡ plus c (counts_from m slots n rs d)
plus_from m slots n [] c d = refl
plus_from m slots n (r ∷ rs) c d = ap (counts_from m slots (n + 1) rs) (plus_recorded m (slots n) r c d) ∙ plus_from m slots (n + 1) rs c (record_with m (slots n) r d)

pub counts_added : (m : ℤ) (slots : ℕ → ℕ → Option ℕ) (n : ℕ) (rs : List WalRecord) (c : Counts) → counts_from m slots n rs c ≡ plus c (counts_from m slots n rs no_counts)
counts_added m slots n rs c = ap (counts_from m slots n rs) (sym (plus_none c)) ∙ plus_from m slots n rs c no_counts

-- where the counts with some entries are within the limits, so are those without
pub within_before : (slots : ℕ → Option ℕ) (es : List Entry) (c : Counts) → AreCountsWithin (fold (counts_with slots) c es) → AreCountsWithin c
within_before slots es c w =
    (within_sum c (fold (counts_with slots) no_counts es) (subst AreCountsWithin (ap (λ k. fold (counts_with slots) k es) (sym (plus_none c)) ∙ plus_all slots es c no_counts) w)).0

-- ---- records after others

counts_both : (m : ℤ) (slots : ℕ → ℕ → Option ℕ) (n : ℕ) (rs qs : List WalRecord) (c : Counts) → counts_from m slots n (rs ++ qs) c ≡ counts_from m slots (n + length rs) qs (counts_from m slots n rs c)
counts_both m slots n [] qs c = ap (λ k. counts_from m slots k qs c) (sym (add-zero n))
counts_both m slots n (r ∷ rs) qs c =
    let k : (n + 1) + length rs ≡ n + length (r ∷ rs) = omega arith in
    let d : Counts = record_with m (slots n) r c in
    counts_both m slots (n + 1) rs qs d ∙ ap (λ j. counts_from m slots j qs (counts_from m slots (n + 1) rs d)) k

items_both : (m : ℤ) (slots : ℕ → ℕ → Option ℕ) (n : ℕ) (rs qs : List WalRecord) → items_from m slots n (rs ++ qs) ≡ items_from m slots n rs ++ items_from m slots (n + length rs) qs
items_both m slots n [] qs = ap (λ k. items_from m slots k qs) (sym (add-zero n))
items_both m slots n (r ∷ rs) qs =
    let k : (n + 1) + length rs ≡ n + length (r ∷ rs) = omega arith in
    let here : List (ℕ × Item) = flat_map (items_with (slots n)) (entries_in (valid_in m r)) in
    ap (λ (is : List (ℕ × Item)). here ++ is) (items_both m slots (n + 1) rs qs ∙ ap (λ j. items_from m slots (n + 1) rs ++ items_from m slots j qs) k)
    ∙ sym (append_assoc here (items_from m slots (n + 1) rs) (items_from m slots (n + length (r ∷ rs)) qs))

-- two facts of a call that succeeds make a third
pub both_ok : {T E P Q R : Type 0} (r : Result T E) → (P → Q → R) → OnOk r P → OnOk r Q → OnOk r R
both_ok (Ok x) f p q = f p q
both_ok (Err e) f p q = tt

-- one record more is spread
pub spread_more : (m : ℤ) (slots : ℕ → ℕ → Option ℕ) (n p : ℕ) (rs : List WalRecord) (r : WalRecord) (items new : List (ℕ × Item)) (c d : Counts) → AreSpreadAt m slots n rs items c → p ≡ n + length rs
    → new ≡ items ++ flat_map (items_with (slots p)) (flat_map (valid_entry m) (entries_in r)) → d ≡ fold (counts_with (slots p)) (with_expired m r (with_record r c)) (flat_map (valid_entry m) (entries_in r))
    → AreSpreadAt m slots n (rs ++ r ∷ []) new d
spread_more m slots n p rs r items new c d s at more counted = record {
  items_are =
      more
      ∙ ap (λ es. items ++ flat_map (items_with (slots p)) es) (sym (record_entries m r))
      ∙ ap (λ (is : List (ℕ × Item)). is ++ flat_map (items_with (slots p)) (entries_in (valid_in m r))) s.items_are
      ∙ ap (λ k. items_from m slots n rs ++ flat_map (items_with (slots k)) (entries_in (valid_in m r))) at
      ∙ ap (λ (is : List (ℕ × Item)). items_from m slots n rs ++ is) (sym (append_none (flat_map (items_with (slots (n + length rs))) (entries_in (valid_in m r)))))
      ∙ sym (items_both m slots n rs (r ∷ []));
  counts_are =
      counted
      ∙ ap (fold (counts_with (slots p)) (with_expired m r (with_record r c))) (sym (record_entries m r))
      ∙ ap (record_with m (slots p) r) s.counts_are
      ∙ ap (λ k. record_with m (slots k) r (counts_from m slots n rs no_counts)) at
      ∙ sym (counts_both m slots n rs (r ∷ []) no_counts);
}

-- ---- a window whose bindings were made

module _ (t : Taken) (front back : List WalRecord) (cs : List Change) (v : ResolverValue) (h : IsAhead t front back cs v) where
  ahead_slots : (qs ps : List WalRecord) → front ++ back ≡ qs ++ ps → (r : ℕ) → slot_before cs (slot_at v.table) (length qs) r ≡ slot_behind (entries_of t.kept ++ entries_of qs) r
  ahead_slots qs ps split r =
      ap (λ ds. slot_before ds (slot_at v.table) (length qs) r) (h.changes_are ∙ ap (λ rs. changes_of (entries_of t.kept) (placed_series 0 rs)) split)
      ∙ at_place (entries_of t.kept) qs ps (slot_at v.table) (length qs) r
      (table_slots (entries_of t.kept ++ entries_of (front ++ back)) v.table r h.shown ∙ ap (λ rs. slot_behind (entries_of t.kept ++ entries_of rs) r) split)
      refl

  -- the slots at a place are those after what is kept of the records before it
  pub ahead_places : (qs ps : List WalRecord) → front ++ back ≡ qs ++ ps → (r : ℕ) → slot_before cs (slot_at v.table) (length qs) r ≡ slot_behind (entries_of (taken_with v.min_valid t qs).kept) r
  ahead_places qs ps split r = ahead_slots qs ps split r ∙ same_slots (entries_of t.kept ++ entries_of qs) (entries_of (taken_with v.min_valid t qs).kept) r (sym (kept_bind v.min_valid t qs))

module _ (t : Taken) (front rs back : List WalRecord) (cs : List Change) (v : ResolverValue) (h : IsAhead t front (rs ++ back) cs v) where
  -- the counts of the next records, by the changes
  ahead_counts : counts_from v.min_valid (slot_before cs (slot_at v.table)) (length front) rs v.counts ≡ known_counts_of (taken_with v.min_valid t (front ++ rs))
  ahead_counts = window_told v.min_valid t (slot_before cs (slot_at v.table)) (front ++ (rs ++ back)) (ahead_slots t front (rs ++ back) cs v h) front rs back v.counts refl h.counted

  module _ (items : List (ℕ × Item)) (c : Counts) (s : AreSpreadAt v.min_valid (slot_before cs (slot_at v.table)) (length front) rs items c) where
    sums : plus v.counts c ≡ known_counts_of (taken_with v.min_valid t (front ++ rs))
    sums = ap (plus v.counts) s.counts_are ∙ sym (counts_added v.min_valid (slot_before cs (slot_at v.table)) (length front) rs v.counts) ∙ ahead_counts

    -- the next records are taken
    pub ahead_taken : IsAhead t (front ++ rs) back cs (record v { counts = plus v.counts c })
    ahead_taken = record {
      shown = subst (λ qs. IsTableOf (bindings (entries_of t.kept ++ entries_of qs)) v.table) (sym (append_assoc front rs back)) h.shown;
      changes_are = h.changes_are ∙ ap (λ qs. changes_of (entries_of t.kept) (placed_series 0 qs)) (sym (append_assoc front rs back));
      counted = sums;
    }

    pub ahead_items : resolved (entries_of (taken_with v.min_valid t (front ++ rs)).kept) ≡ resolved (entries_of (taken_with v.min_valid t front).kept) ++ items
    ahead_items =
        window_items v.min_valid t (slot_before cs (slot_at v.table)) (front ++ (rs ++ back)) (ahead_slots t front (rs ++ back) cs v h) front rs back refl
        ∙ ap (λ (is : List (ℕ × Item)). resolved (entries_of (taken_with v.min_valid t front).kept) ++ is) (sym s.items_are)

    pub ahead_within : IsResolvable (taken_with v.min_valid t (front ++ rs)) → AreCountsWithin (plus v.counts c)
    ahead_within w = subst AreCountsWithin (sym sums) w.counts

-- the counts of records that are not the first of the window are within the limits where those of all records are
pub added_within : (t : Taken) (front before rs back : List WalRecord) (r : WalRecord) (cs : List Change) (v : ResolverValue) (items : List (ℕ × Item)) (c : Counts) (n p : ℕ) → IsAhead t front (before ++ (rs ++ r ∷ back)) cs v
    → n ≡ length front + length before → p ≡ n + length rs → AreSpreadAt v.min_valid (slot_before cs (slot_at v.table)) n rs items c
    → IsResolvable (taken_with v.min_valid t (front ++ (before ++ (rs ++ r ∷ [])))) → AreCountsWithin (fold (counts_with (slot_before cs (slot_at v.table) p)) (with_expired v.min_valid r (with_record r c)) (flat_map (valid_entry v.min_valid) (entries_in r)))
added_within t front before rs back r cs v items c n p h first at s w =
    let m = v.min_valid in
    let slots : ℕ → ℕ → Option ℕ = slot_before cs (slot_at v.table) in
    let these : List WalRecord = rs ++ r ∷ [] in
    let split : before ++ (rs ++ r ∷ back) ≡ (before ++ these) ++ back = ap (λ qs. before ++ qs) (sym (append_assoc rs (r ∷ []) back)) ∙ sym (append_assoc before these back) in
    let all = ahead_counts t front (before ++ these) back cs v (subst (λ qs. IsAhead t front qs cs v) split h) in
    let d : Counts = counts_from m slots (length front) before v.counts in
    let sums : plus d (counts_from m slots n these no_counts) ≡ known_counts_of (taken_with m t (front ++ (before ++ these))) =
    sym (counts_added m slots n these d) ∙ ap (λ k. counts_from m slots k these d) first ∙ sym (counts_both m slots (length front) before these v.counts) ∙ all in
    let few : AreCountsWithin (counts_from m slots n these no_counts) = (within_sum d (counts_from m slots n these no_counts) (subst AreCountsWithin (sym sums) w.counts)).1 in
    subst AreCountsWithin
    (counts_both m slots n rs (r ∷ []) no_counts
    ∙ ap (record_with m (slots (n + length rs)) r) (sym s.counts_are)
    ∙ ap (λ k. record_with m (slots k) r c) (sym at)
    ∙ ap (fold (counts_with (slots p)) (with_expired m r (with_record r c))) (record_entries m r)) few

-- ---- the entries that a loop has read, and the one that it reads

module _ {A : Type 0} (m : ℤ) (slots : ℕ → Option ℕ) (f : A → Entry) (xs : List A) (i : ℕ) (x : A) (within : i < length xs) (at : x ≡ get_or xs i x) where
  -- where the counts with the one that it reads are past their limits, so are those with all
  pub past_at : (old now : Counts) → now ≡ fold (counts_with slots) old (flat_map (valid_entry m) (map f (take i xs))) → (AreCountsWithin (fold (counts_with slots) now (valid_entry m (f x))) → ⊥)
      → AreCountsWithin (fold (counts_with slots) old (flat_map (valid_entry m) (map f xs))) → ⊥
  past_at old now before past w =
      let read : List Entry = flat_map (valid_entry m) (map f (take i xs)) in
      let rest : List Entry = flat_map (valid_entry m) (map f (drop (i + 1) xs)) in
      past (within_before slots rest (fold (counts_with slots) now (valid_entry m (f x)))
      (subst AreCountsWithin
      (ap (fold (counts_with slots) old) (left_split m f xs i x within at)
      ∙ fold-append (counts_with slots) old read (valid_entry m (f x) ++ rest)
      ∙ ap (λ c. fold (counts_with slots) c (valid_entry m (f x) ++ rest)) (sym before)
      ∙ fold-append (counts_with slots) now (valid_entry m (f x)) rest) w))

-- series entries count as bound, and have no item
pub bound_counted : (slots : ℕ → Option ℕ) (xs : List SeriesEntry) (c : Counts) → fold (counts_with slots) c (map series xs) ≡ record c { series_entries = c.series_entries + length xs }
bound_counted slots [] c = ap (λ n. record c { series_entries = n }) (sym (add-zero c.series_entries))
bound_counted slots (x ∷ xs) c =
    let n : (c.series_entries + 1) + length xs ≡ c.series_entries + length (x ∷ xs) = omega arith in
    bound_counted slots xs (record c { series_entries = c.series_entries + 1 }) ∙ ap (λ k. record c { series_entries = k }) n

pub bound_itemless : (slots : ℕ → Option ℕ) (xs : List SeriesEntry) → flat_map (items_with slots) (map series xs) ≡ []
bound_itemless slots [] = refl
bound_itemless slots (x ∷ xs) = bound_itemless slots xs
