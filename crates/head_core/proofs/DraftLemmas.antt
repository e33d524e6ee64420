-- What a draft knows of the entries so far, with one entry more.
use Rattle.std.proofs.Common.{◌≡◌, ℕ, zero, suc, ◌+◌, ◌-◌, ◌<◌, ◌≤◌, Bool, true, false, List, [], ◌∷◌, ◌++◌, Option, Some, None, cond, refl, ap, sym, subst, ◌∙◌, arith, append_assoc, length, length-append, take, drop, get_or}
use Rattle.std.proofs.Math.Path.{fun_ext}
use Rattle.std.specs.Prelude.{◌==◌, ◌||◌, All, map, count_by, nat_eq, unwrap_or, slice_get, slice_set, if◌then◌else◌}
use Rattle.std.specs.List.{list_any, flat_map}
use Rattle.std.specs.Map.{lookup}
use Rattle.std.specs.Option.{option_map, option_and_then}
use Rattle.std.proofs.lemmas.Bool.{eq-eqb, ne_eqb, eqb-true}
use Rattle.std.proofs.lemmas.List.{map-append, take-append-drop}
use Rattle.std.proofs.lemmas.List.Sums.{sum_by-append}
use Rattle.hw_bytes.specs.Lists.{distinct, or_else}
use Rattle.hw_bytes.proofs.Lists.{append_none, map_push}
use Rattle.wal_record.specs.declared.record.SeriesEntry.{SeriesEntry}
use Rattle.wal_record.specs.declared.record.WalRecord.{WalRecord}
use Rattle.wal_record.specs.Labels.{same_labels, same_text}
use Rattle.wal_record.specs.Entries.{Entry, series, sample, stone, entries_of}
use Rattle.wal_record.specs.Validity.{valid}
use Rattle.head_deal.proofs.Entries.{all-push}
use Rattle.head_column.specs.Histories.{ColumnValue, no_history}
use Rattle.head_series.specs.Texts.{Text, place, texts_of}
use Rattle.head_series.specs.Table.{Labels, Table, slot_at, has_series, with_series}
use Rattle.head_series.specs.Bindings.{Binding, series_of}
use Rattle.head_series.specs.Room as table_room
use Rattle.head_series.proofs.Places.{place_some, place_within}
use Rattle.head_series.proofs.PlanLemmas.{front_same, back_same, series_after-push}
use Rattle.head_postings.specs.Postings.{Lists}
use Rattle.head_postings.specs.Room as postings_room
use Rattle.head_resolver.specs.Owners.{binding, bindings}
use Rattle.head_resolver.specs.Taken.{Taken}
use Rattle.head_resolver.specs.Room.{HaveClasses, HaveCounts, HaveExpired}
use Rattle.head_resolver.proofs.Entries.{bindings_push, bindings_append, front_at}
use Rattle.head_core.specs.Content.{Content, AreAlike, AreHistoriesOf, IsContentOf, IsShownBy}
use Rattle.head_core.specs.Heads.{HeadValue}
use Rattle.head_core.specs.Room.{ReservedValue, sets_of, pointed, to_slot, targets, spare_at, spares_with, HasRoom, HaveSpare, IsReserved}
use Rattle.head_core.specs.Draft.{Drafted, slot_after, many_at, slots_behind, AreWider, FitsIn, HaveColumns, IsDraft, IsItemEntry, IsKept, IsLonger, IsNoted}
use Rattle.head_core.proofs.RoomLemmas.{same_many, spare_append, spare_front}

-- the place in a list in front of another
pub place_front : {A : Type 0} (p : A → Bool) (xs ys : List A) (s : ℕ) → place p xs ≡ Some s → place p (xs ++ ys) ≡ Some s
place_front p [] ys s h = cc
place_front p (x ∷ xs) ys s h = at (p x) (place p xs) refl (λ n e. place_front p xs ys n e) h where
  at : (b : Bool) (o : Option ℕ) → place p xs ≡ o → ((n : ℕ) → place p xs ≡ Some n → place p (xs ++ ys) ≡ Some n) → (if b then Some 0 else option_map (λ n. n + 1) o) ≡ Some s
      → (if b then Some 0 else option_map (λ n. n + 1) (place p (xs ++ ys))) ≡ Some s
  at true o e deep k = k
  at false None e deep k = cc
  at false (Some n) e deep k = ap (option_map (λ n. n + 1)) (deep n e) ∙ k

-- the place after a list that has none
pub place_behind : {A : Type 0} (p : A → Bool) (xs ys : List A) (s : ℕ) → list_any p xs ≡ false → place p ys ≡ Some s → place p (xs ++ ys) ≡ Some (length xs + s)
place_behind p [] ys s n h = h ∙ ap Some (omega arith)
place_behind p (x ∷ xs) ys s n h = at (p x) refl n (λ k. place_behind p xs ys s k h) where
  at : (b : Bool) → p x ≡ b → (b || list_any p xs) ≡ false → (list_any p xs ≡ false → place p (xs ++ ys) ≡ Some (length xs + s))
      → (if b then Some 0 else option_map (λ n. n + 1) (place p (xs ++ ys))) ≡ Some (suc (length xs) + s)
  at true e k deep = cc
  at false e k deep = ap (option_map (λ n. n + 1)) (deep k) ∙ ap Some (omega arith)

-- a series that the table has
pub slot_known : (ss more : List Labels) (l : Labels) (s : ℕ) → place (same_labels l) ss ≡ Some s → (ss ++ more ≡ with_series (ss ++ more) l) × (place (same_labels l) (ss ++ more) ≡ Some s)
slot_known ss more l s h = (
  sym (ap (λ b. if b then ss ++ more else (ss ++ more) ++ l ∷ []) (front_same (same_labels l) ss more (place_some (same_labels l) ss s h))),
  place_front (same_labels l) ss more s h,
)

-- a series that the table has not
pub series_new : (ss old new : List Labels) (l : Labels) → has_series ss l ≡ false → new ≡ with_series old l → ss ++ new ≡ with_series (ss ++ old) l
series_new ss old new l none is = ap (λ ls. ss ++ ls) is ∙ at (has_series old l) ∙ sym (ap (λ b. if b then ss ++ old else (ss ++ old) ++ l ∷ []) (back_same (same_labels l) ss old none)) where
  at : (b : Bool) → ss ++ (if b then old else old ++ l ∷ []) ≡ (if b then ss ++ old else (ss ++ old) ++ l ∷ [])
  at true = refl
  at false = sym (append_assoc ss old (l ∷ []))

-- the slots of the references, with one entry more
pub slots_push : (ss : List Labels) (at : ℕ → Option ℕ) (es : List Entry) (e : Entry) → slots_behind ss at (es ++ e ∷ []) ≡ slots_behind (table_room.series_after ss (bindings es)) (slots_behind ss at es) (e ∷ [])
slots_push ss at [] e = refl
slots_push ss at (series f ∷ es) e = slots_push (with_series ss f.labels) (pointed at f.reference (place (same_labels f.labels) (with_series ss f.labels))) es e
slots_push ss at (sample f ∷ es) e = slots_push ss at es e
slots_push ss at (stone f ∷ es) e = slots_push ss at es e

to_slot_append : (o : Option ℕ) (xs ys : List ℕ) → to_slot o (xs ++ ys) ≡ to_slot o xs ++ ys
to_slot_append None xs ys = refl
to_slot_append (Some s) xs ys = refl

-- the slots that the items come to, with one entry more
pub targets_push : (ss : List Labels) (at : ℕ → Option ℕ) (es : List Entry) (e : Entry)
    → targets ss at (es ++ e ∷ []) ≡ targets ss at es ++ targets (table_room.series_after ss (bindings es)) (slots_behind ss at es) (e ∷ [])
targets_push ss at [] e = refl
targets_push ss at (series f ∷ es) e = targets_push (with_series ss f.labels) (pointed at f.reference (place (same_labels f.labels) (with_series ss f.labels))) es e
targets_push ss at (sample f ∷ es) e = ap (to_slot (at f.reference)) (targets_push ss at es e) ∙ to_slot_append (at f.reference) (targets ss at es) (targets (table_room.series_after ss (bindings es)) (slots_behind ss at es) (e ∷ []))
targets_push ss at (stone f ∷ es) e = ap (to_slot (at f.reference)) (targets_push ss at es e) ∙ to_slot_append (at f.reference) (targets ss at es) (targets (table_room.series_after ss (bindings es)) (slots_behind ss at es) (e ∷ []))

-- an item
pub item_binds : (es : List Entry) (e : Entry) (r : ℕ) → IsItemEntry e r → bindings (es ++ e ∷ []) ≡ bindings es
item_binds es (series e) r is = absurd is
item_binds es (sample e) r is = bindings_push es (sample e) ∙ append_none (bindings es)
item_binds es (stone e) r is = bindings_push es (stone e) ∙ append_none (bindings es)

pub item_slots : (ss : List Labels) (at : ℕ → Option ℕ) (es : List Entry) (e : Entry) (r : ℕ) → IsItemEntry e r → slots_behind ss at (es ++ e ∷ []) ≡ slots_behind ss at es
item_slots ss at es (series e) r is = absurd is
item_slots ss at es (sample e) r is = slots_push ss at es (sample e)
item_slots ss at es (stone e) r is = slots_push ss at es (stone e)

pub item_targets : (ss : List Labels) (at : ℕ → Option ℕ) (es : List Entry) (e : Entry) (r : ℕ) → IsItemEntry e r → targets ss at (es ++ e ∷ []) ≡ targets ss at es ++ to_slot (slots_behind ss at es r) []
item_targets ss at es (series e) r is = absurd is
item_targets ss at es (sample e) r is = targets_push ss at es (sample e) ∙ ap (λ q. targets ss at es ++ to_slot (slots_behind ss at es q) []) is
item_targets ss at es (stone e) r is = targets_push ss at es (stone e) ∙ ap (λ q. targets ss at es ++ to_slot (slots_behind ss at es q) []) is

-- one binding more
module _ (ss : List Labels) (at : ℕ → Option ℕ) (d f : Drafted) (es : List Entry) (e : SeriesEntry) (s : ℕ) (h : IsNoted ss at d es) where
  pub noted_binding : ss ++ f.series ≡ with_series (ss ++ d.series) e.labels → place (same_labels e.labels) (ss ++ f.series) ≡ Some s
      → ((r : ℕ) → lookup (nat_eq r) f.slots ≡ cond (nat_eq e.reference r) (Some s) (lookup (nat_eq r) d.slots)) → f.counts ≡ d.counts → IsNoted ss at f (es ++ series e ∷ [])
  noted_binding grown slot slots counts = record {
    series = grown_as;
    slots = λ r. ap (λ o. or_else o (at r)) (slots r) ∙ choose r (nat_eq e.reference r) ∙ sym (ap (λ a. a r) (slots_push ss at es (series e)));
    within = λ r q is. within_of r q (nat_eq e.reference r) (sym (slots r) ∙ is);
    many = λ q. ap (λ cs. unwrap_or (lookup (nat_eq q) cs) 0) counts ∙ h.many q ∙ ap (count_by (nat_eq q)) (sym (targets_push ss at es (series e) ∙ append_none (targets ss at es)));
  } where
    after : List Labels
    after = table_room.series_after ss (bindings es)

    grown_is : ss ++ f.series ≡ with_series after e.labels
    grown_is = grown ∙ ap (λ ls. with_series ls e.labels) h.series

    grown_as : ss ++ f.series ≡ table_room.series_after ss (bindings (es ++ series e ∷ []))
    grown_as = grown_is ∙ sym (ap (table_room.series_after ss) (bindings_push es (series e)) ∙ series_after-push ss (bindings es) (record { reference = e.reference; labels = e.labels }))

    slot_is : place (same_labels e.labels) (with_series after e.labels) ≡ Some s
    slot_is = ap (place (same_labels e.labels)) (sym grown_is) ∙ slot

    choose : (r : ℕ) (b : Bool) → or_else (cond b (Some s) (lookup (nat_eq r) d.slots)) (at r) ≡ (if b then place (same_labels e.labels) (with_series after e.labels) else slots_behind ss at es r)
    choose r true = sym slot_is
    choose r false = h.slots r

    longer : length (ss ++ d.series) ≤ length (ss ++ f.series)
    longer = by (has_series (ss ++ d.series) e.labels) refl where
      by : (b : Bool) → has_series (ss ++ d.series) e.labels ≡ b → length (ss ++ d.series) ≤ length (ss ++ f.series)
      by true k = let j = ap length (grown ∙ ap (λ b. if b then ss ++ d.series else (ss ++ d.series) ++ e.labels ∷ []) k) in omega (arith, j)
      by false k = let j = ap length (grown ∙ ap (λ b. if b then ss ++ d.series else (ss ++ d.series) ++ e.labels ∷ []) k) ∙ length-append (ss ++ d.series) (e.labels ∷ []) in omega (arith, j)

    within_of : (r q : ℕ) (b : Bool) → cond b (Some s) (lookup (nat_eq r) d.slots) ≡ Some q → q < length (ss ++ f.series)
    within_of r q true is = let k : s ≡ q = cc in let j = place_within (same_labels e.labels) (ss ++ f.series) s slot in omega (arith, j, k)
    within_of r q false is = let j = h.within r q is in omega (arith, j, longer)

-- one item more
module _ (ss : List Labels) (at : ℕ → Option ℕ) (d : Drafted) (es : List Entry) (e : Entry) (r : ℕ) (is : IsItemEntry e r) (h : IsNoted ss at d es) where
  -- its reference has no slot
  pub noted_none : slot_after d at r ≡ None → IsNoted ss at d (es ++ e ∷ [])
  noted_none none = record {
    series = h.series ∙ ap (table_room.series_after ss) (sym (item_binds es e r is));
    slots = λ q. h.slots q ∙ ap (λ a. a q) (sym (item_slots ss at es e r is));
    within = h.within;
    many = λ q. h.many q ∙ ap (count_by (nat_eq q)) (sym (item_targets ss at es e r is ∙ ap (λ o. targets ss at es ++ to_slot o []) (sym (h.slots r) ∙ none) ∙ append_none (targets ss at es)));
  }

  -- its reference has a slot
  pub noted_item : (f : Drafted) (s many : ℕ) → slot_after d at r ≡ Some s → f.series ≡ d.series → f.slots ≡ d.slots → many ≡ many_at d s + 1
      → ((q : ℕ) → many_at f q ≡ (if s == q then many else many_at d q)) → IsNoted ss at f (es ++ e ∷ [])
  noted_item f s many slot new slots more counts = record {
    series = ap (λ (ls : List Labels). ss ++ ls) new ∙ h.series ∙ ap (table_room.series_after ss) (sym (item_binds es e r is));
    slots = λ q. ap (λ (xs : List (ℕ × ℕ)). or_else (lookup (nat_eq q) xs) (at q)) slots ∙ h.slots q ∙ ap (λ a. a q) (sym (item_slots ss at es e r is));
    within = λ q p k. subst (λ (ls : List Labels). p < length (ss ++ ls)) (sym new) (h.within q p (sym (ap (λ (xs : List (ℕ × ℕ)). lookup (nat_eq q) xs) slots) ∙ k));
    many = λ q. counts q ∙ by q (nat_eq s q) refl ∙ sym (sum_by-append (λ p. cond (nat_eq q p) 1 0) (targets ss at es) (s ∷ [])) ∙ ap (count_by (nat_eq q)) (sym now);
  } where
    now : targets ss at (es ++ e ∷ []) ≡ targets ss at es ++ s ∷ []
    now = item_targets ss at es e r is ∙ ap (λ o. targets ss at es ++ to_slot o []) (sym (h.slots r) ∙ slot)

    by : (q : ℕ) (b : Bool) → nat_eq s q ≡ b → (if b then many else many_at d q) ≡ count_by (nat_eq q) (targets ss at es) + count_by (nat_eq q) (s ∷ [])
    by q true k =
        let e : s ≡ q = eqb-true s q k in
        let one : count_by (nat_eq q) (s ∷ []) ≡ 1 = ap (λ b. 0 + cond b 1 0) (eq-eqb q s (sym e)) in
        let n = ap (many_at d) e in
        let m = h.many q in
        omega (arith, one, n, m, more)
    by q false k =
        let zero : count_by (nat_eq q) (s ∷ []) ≡ 0 = ap (λ b. 0 + cond b 1 0) (ne_eqb q s (λ e. let j : true ≡ false = sym (eq-eqb s q (sym e)) ∙ k in cc)) in
        let m = h.many q in
        omega (arith, zero, m)

-- one column that takes more items
pub spare_wider : (cs : List ColumnValue) (p : ℕ) (x y : ColumnValue) → slice_get cs p ≡ Some x → x.spare ≤ y.spare
    → AreWider (map (λ c. c.spare) cs) (map (λ c. c.spare) (slice_set cs p y))
spare_wider cs p x y is l = record { many = same_length cs p; each = each cs p is } where
  same_length : (ds : List ColumnValue) (q : ℕ) → length (map (λ c. c.spare) (slice_set ds q y)) ≡ length (map (λ c. c.spare) ds)
  same_length [] q = refl
  same_length (d ∷ ds) zero = refl
  same_length (d ∷ ds) (suc q) = ap suc (same_length ds q)

  each : (ds : List ColumnValue) (q : ℕ) → slice_get ds q ≡ Some x → (s : ℕ) → spare_at (map (λ c. c.spare) ds) s ≤ spare_at (map (λ c. c.spare) (slice_set ds q y)) s
  each [] q e s = cc
  each (d ∷ ds) zero e zero = let k : d ≡ x = cc in let j = ap (λ (v : ColumnValue). v.spare) k in omega (arith, l, j)
  each (d ∷ ds) zero e (suc s) = omega arith
  each (d ∷ ds) (suc q) e zero = omega arith
  each (d ∷ ds) (suc q) e (suc s) = each ds q e s

pub spare_own : (cs : List ColumnValue) (p : ℕ) (x y : ColumnValue) → slice_get cs p ≡ Some x → spare_at (map (λ c. c.spare) (slice_set cs p y)) p ≡ y.spare
spare_own [] p x y is = cc
spare_own (c ∷ cs) zero x y is = refl
spare_own (c ∷ cs) (suc p) x y is = spare_own cs p x y is

-- its history stays
pub same_histories : (cs : List ColumnValue) (p : ℕ) (x y : ColumnValue) → slice_get cs p ≡ Some x → y.history ≡ x.history → map (λ c. c.history) (slice_set cs p y) ≡ map (λ c. c.history) cs
same_histories [] p x y is h = cc
same_histories (c ∷ cs) zero x y is h = let k : c ≡ x = cc in ap (λ z. z ∷ map (λ (v : ColumnValue). v.history) cs) (h ∙ ap (λ (v : ColumnValue). v.history) (sym k))
same_histories (c ∷ cs) (suc p) x y is h = ap (λ zs. c.history ∷ zs) (same_histories cs p x y is h)

-- no entries
pub draft_none : (h : HeadValue) (d : Drafted) → d.made.ready ≡ [] → d.made.columns ≡ [] → d.series ≡ [] → d.slots ≡ [] → d.counts ≡ []
    → table_room.IsReserved h.content.table [] d.plan → postings_room.IsReserved h.content.postings [] d.batch → length h.room.spares ≡ length h.content.table.series → IsDraft h d []
draft_none h d ready columns new slots counts table postings own = record {
  ready = ready;
  table = table;
  postings = postings;
  own = own;
  columns = record { each = ap length columns ∙ sym (ap length new); unused = λ k e l. let m = ap length columns in absurd (omega (arith, l, m)) };
  noted = record {
    series = ap (λ ss. h.content.table.series ++ ss) new ∙ append_none h.content.table.series;
    slots = λ r. ap (λ (es : List (ℕ × ℕ)). or_else (lookup (nat_eq r) es) (slot_at h.content.table r)) slots;
    within = λ r s e. let k : lookup (nat_eq r) d.slots ≡ None = ap (λ (es : List (ℕ × ℕ)). lookup (nat_eq r) es) slots in cc;
    many = λ s. ap (λ (es : List (ℕ × ℕ)). unwrap_or (lookup (nat_eq s) es) 0) counts;
  };
  spares = λ s. omega arith;
}

-- the histories and the rest of what is shown stay
pub alike_refl : (c : Content) → AreAlike c c
alike_refl c = record { series = refl; slots = λ r. refl; greatest = refl; texts = refl; histories = refl; all = refl; selected = λ n v. refl; greatest_time = refl; counts = refl; min_valid = refl }

pub alike_trans : {b c d : Content} → AreAlike b c → AreAlike c d → AreAlike b d
alike_trans h k = record {
  series = k.series ∙ h.series;
  slots = λ r. k.slots r ∙ h.slots r;
  greatest = k.greatest ∙ h.greatest;
  texts = k.texts ∙ h.texts;
  histories = k.histories ∙ h.histories;
  all = k.all ∙ h.all;
  selected = λ n v. k.selected n v ∙ h.selected n v;
  greatest_time = k.greatest_time ∙ h.greatest_time;
  counts = k.counts ∙ h.counts;
  min_valid = k.min_valid ∙ h.min_valid;
}

pub kept_refl : (h : HeadValue) → IsKept h h
kept_refl h = record { content = alike_refl h.content; failed = refl; most = refl }

pub kept_trans : {h k l : HeadValue} → IsKept h k → IsKept k l → IsKept h l
kept_trans a b = record { content = alike_trans a.content b.content; failed = b.failed ∙ a.failed; most = b.most ∙ a.most }

pub kept_same : (h k : HeadValue) → k.content ≡ h.content → k.failed ≡ h.failed → IsKept h k
kept_same h k content failed = record { content = subst (λ c. AreAlike h.content c) (sym content) (alike_refl h.content); failed = failed; most = ap (λ (c : Content). c.table.most) content }

-- what is shown of entries stays
shown_alike : (es : List Entry) (c d : Content) → AreAlike c d → IsShownBy es c → IsShownBy es d
shown_alike es c d a h = record {
  shown = record {
    series = a.series ∙ h.shown.series;
    owners = λ r. ap (λ (ss : List Labels). option_and_then (slice_get ss) (slot_at d.table r)) a.series ∙ ap (option_and_then (slice_get c.table.series)) (a.slots r) ∙ h.shown.owners r;
    within = λ r s e. let k = h.shown.within r s (sym (a.slots r) ∙ e) in let m = ap length a.series in omega (arith, k, m);
    greatest = a.greatest ∙ h.shown.greatest;
    texts = a.texts ∙ h.shown.texts ∙ ap (λ (ss : List Labels). distinct same_text (flat_map texts_of ss)) (sym a.series);
  };
  histories = subst (λ hs. AreHistoriesOf es (series_of (bindings es)) hs) (sym a.histories) h.histories;
  postings = record { every = a.all ∙ h.postings.every; each = λ n v. a.selected n v ∙ h.postings.each n v };
  greatest_time = a.greatest_time ∙ h.greatest_time;
}

-- the content of what was taken stays
pub content_alike : (t : Taken) (c d : Content) → AreAlike c d → IsContentOf t c → IsContentOf t d
content_alike t c d a h = record {
  entries = subst (λ m. IsShownBy (entries_of (valid m t.kept)) d) (sym a.min_valid) (shown_alike (entries_of (valid c.min_valid t.kept)) c d a h.entries);
  counted = a.counts ∙ h.counted;
}

-- the front of what fits
fits_bindings : (most : ℕ) (ss : List Labels) (ts : List Text) (bs cs : List Binding) → table_room.Fits most ss ts (bs ++ cs) → table_room.Fits most ss ts bs
fits_bindings most ss ts [] cs h = tt
fits_bindings most ss ts (b ∷ bs) cs (x, y, z) = (x, y, fits_bindings most (with_series ss b.labels) (table_room.texts_seen ss ts b.labels) bs cs z)

pub fits_front : (c : Content) (es fs : List Entry) → FitsIn c (es ++ fs) → FitsIn c es
fits_front c es fs h = fits_bindings c.table.most c.table.series c.table.texts (bindings es) (bindings fs) (subst (table_room.Fits c.table.most c.table.series c.table.texts) (bindings_append es fs) h)

-- what fits in a head fits in one that is alike
pub fits_kept : (h k : HeadValue) (es : List Entry) → IsKept h k → FitsIn h.content es → FitsIn k.content es
fits_kept h k es a f =
    subst (λ n. table_room.Fits n k.content.table.series k.content.table.texts (bindings es)) (sym a.most)
    (subst (λ (ss : List Labels). table_room.Fits h.content.table.most ss k.content.table.texts (bindings es)) (sym a.content.series)
    (subst (λ (ts : List Text). table_room.Fits h.content.table.most h.content.table.series ts (bindings es)) (sym a.content.texts) f))

-- and the other way round
pub kept_fits : (h k : HeadValue) (es : List Entry) → IsKept h k → FitsIn k.content es → FitsIn h.content es
kept_fits h k es a f =
    subst (λ n. table_room.Fits n h.content.table.series h.content.table.texts (bindings es)) a.most
    (subst (λ (ss : List Labels). table_room.Fits k.content.table.most ss h.content.table.texts (bindings es)) a.content.series
    (subst (λ (ts : List Text). table_room.Fits k.content.table.most k.content.table.series ts (bindings es)) a.content.texts f))

-- The draft of no records is one for the head h, of which v is what its parts show.
pub draft_start : {h v : HeadValue} {t : Table} {p : Lists} {d : Drafted} → v ≡ h → t ≡ v.content.table → p ≡ v.content.postings → length v.room.spares ≡ length v.content.table.series
    → ((k : HeadValue) → k.content.table ≡ t → k.content.postings ≡ p → length k.room.spares ≡ length t.series → IsDraft k d []) → IsDraft h d []
draft_start {h} {v} {t} {p} {d} is table postings own made = subst (λ (k : HeadValue). IsDraft k d []) is (made v (sym table) (sym postings) (own ∙ ap (λ (u : Table). length u.series) (sym table)))

-- more columns, and each takes as many items as before
pub spare_longer : (xs ys : List ℕ) (s : ℕ) → spare_at xs s ≤ spare_at (xs ++ ys) s
spare_longer [] ys s = omega arith
spare_longer (x ∷ xs) ys zero = omega arith
spare_longer (x ∷ xs) ys (suc s) = spare_longer xs ys s

-- the slots of the series and of the references, in a head that shows the same
slots_alike : (t u : Table) → ((r : ℕ) → slot_at u r ≡ slot_at t r) → slot_at u ≡ slot_at t
slots_alike t u h = fun_ext h

-- room was made for one binding more
pub draft_binding : (h k : HeadValue) (d f : Drafted) (es : List Entry) (e : SeriesEntry) → IsDraft h d es → IsNoted h.content.table.series (slot_at h.content.table) f (es ++ series e ∷ [])
    → f.made.ready ≡ d.made.ready ++ e.labels ∷ [] → IsLonger d.made.columns f.made.columns → HaveColumns f → k.room.spares ≡ h.room.spares
    → k.content.table.series ≡ h.content.table.series → ((r : ℕ) → slot_at k.content.table r ≡ slot_at h.content.table r)
    → table_room.IsReserved k.content.table (bindings es ++ (record { reference = e.reference; labels = e.labels }) ∷ []) f.plan → postings_room.IsReserved k.content.postings (sets_of es ++ e.labels ∷ []) f.batch
    → IsDraft k f (es ++ series e ∷ [])
draft_binding h k d f es e is noted ready (more, longer) columns spares same slots table postings = record {
  ready = ready ∙ ap (λ ls. ls ++ e.labels ∷ []) is.ready ∙ sym sets;
  table = subst (λ bs. table_room.IsReserved k.content.table bs f.plan) (sym (bindings_push es (series e))) table;
  postings = subst (λ ls. postings_room.IsReserved k.content.postings ls f.batch) (sym sets) postings;
  own = ap length spares ∙ is.own ∙ sym (ap length same);
  columns = columns;
  noted = subst (λ (ss : List Labels). IsNoted ss (slot_at k.content.table) f (es ++ series e ∷ [])) (sym same) (subst (λ (a : ℕ → Option ℕ). IsNoted h.content.table.series a f (es ++ series e ∷ [])) (sym slots_same) noted);
  spares = subst (λ ts. HaveSpare (spares_with k.room f.made) ts) (sym targets_same) (λ s.
      let a = is.spares s in
      let b = spare_longer (spares_with h.room d.made) (map (λ c. c.spare) more) s in
      let c = ap (λ xs. spare_at xs s) wide in
      omega (arith, a, b, c));
} where
  sets : sets_of (es ++ series e ∷ []) ≡ sets_of es ++ e.labels ∷ []
  sets = ap (map (λ (b : Binding). b.labels)) (bindings_push es (series e)) ∙ map-append (λ (b : Binding). b.labels) (bindings es) (binding (series e))

  slots_same : slot_at k.content.table ≡ slot_at h.content.table
  slots_same = slots_alike h.content.table k.content.table slots

  targets_same : targets k.content.table.series (slot_at k.content.table) (es ++ series e ∷ []) ≡ targets h.content.table.series (slot_at h.content.table) es
  targets_same =
      ap (λ (ss : List Labels). targets ss (slot_at k.content.table) (es ++ series e ∷ [])) same
      ∙ ap (λ (a : ℕ → Option ℕ). targets h.content.table.series a (es ++ series e ∷ [])) slots_same
      ∙ targets_push h.content.table.series (slot_at h.content.table) es (series e) ∙ append_none (targets h.content.table.series (slot_at h.content.table) es)

  wide : spares_with k.room f.made ≡ spares_with h.room d.made ++ map (λ c. c.spare) more
  wide =
      ap (λ xs. xs ++ map (λ c. c.spare) f.made.columns) spares
      ∙ ap (λ (cs : List ColumnValue). h.room.spares ++ map (λ c. c.spare) cs) longer
      ∙ ap (λ xs. h.room.spares ++ xs) (map-append (λ (c : ColumnValue). c.spare) d.made.columns more)
      ∙ sym (append_assoc h.room.spares (map (λ c. c.spare) d.made.columns) (map (λ c. c.spare) more))

-- wider columns in front of others, and after others
pub wider_front : (xs ys zs : List ℕ) → AreWider xs ys → (s : ℕ) → spare_at (xs ++ zs) s ≤ spare_at (ys ++ zs) s
wider_front xs ys zs w s = let k = spare_append xs ys zs (λ n. 0) w.many (λ t. let j = w.each t in omega (arith, j)) s in omega (arith, k)

pub wider_behind : (xs ys zs : List ℕ) → AreWider ys zs → (s : ℕ) → spare_at (xs ++ ys) s ≤ spare_at (xs ++ zs) s
wider_behind [] ys zs w s = w.each s
wider_behind (x ∷ xs) ys zs w zero = omega arith
wider_behind (x ∷ xs) ys zs w (suc s) = wider_behind xs ys zs w s

pub spare_behind : (xs ys : List ℕ) (n : ℕ) → length xs ≤ n → spare_at (xs ++ ys) n ≡ spare_at ys (n - length xs)
spare_behind [] ys n l = ap (spare_at ys) (omega arith)
spare_behind (x ∷ xs) ys zero l = absurd (omega (arith, l))
spare_behind (x ∷ xs) ys (suc n) l = spare_behind xs ys n (omega (arith, l)) ∙ ap (spare_at ys) (omega arith)

module _ (h k : HeadValue) (d f : Drafted) (es : List Entry) (e : Entry) (r : ℕ) (is : IsItemEntry e r) (have : IsDraft h d es) where
  -- room for an item whose reference has no slot
  pub draft_no_slot : slot_after d (slot_at h.content.table) r ≡ None → IsDraft h d (es ++ e ∷ [])
  draft_no_slot none = record {
    ready = have.ready ∙ ap (map (λ (b : Binding). b.labels)) (sym (item_binds es e r is));
    table = subst (λ bs. table_room.IsReserved h.content.table bs d.plan) (sym (item_binds es e r is)) have.table;
    postings = subst (λ bs. postings_room.IsReserved h.content.postings (map (λ (b : Binding). b.labels) bs) d.batch) (sym (item_binds es e r is)) have.postings;
    own = have.own;
    columns = have.columns;
    noted = noted_none h.content.table.series (slot_at h.content.table) d es e r is have.noted none;
    spares = subst (λ ts. HaveSpare (spares_with h.room d.made) ts)
        (sym (item_targets h.content.table.series (slot_at h.content.table) es e r is ∙ ap (λ o. targets h.content.table.series (slot_at h.content.table) es ++ to_slot o []) (sym (have.noted.slots r) ∙ none) ∙ append_none (targets h.content.table.series (slot_at h.content.table) es)))
        have.spares;
  }

  -- room for one item more
  pub draft_item : (s many : ℕ) → slot_after d (slot_at h.content.table) r ≡ Some s → k.content ≡ h.content → length k.room.spares ≡ length h.room.spares
      → f.plan ≡ d.plan → f.batch ≡ d.batch → f.made.ready ≡ d.made.ready → f.series ≡ d.series → f.slots ≡ d.slots → HaveColumns f
      → many ≡ many_at d s + 1 → ((q : ℕ) → many_at f q ≡ (if s == q then many else many_at d q))
      → ((q : ℕ) → spare_at (spares_with h.room d.made) q ≤ spare_at (spares_with k.room f.made) q) → many ≤ spare_at (spares_with k.room f.made) s → IsDraft k f (es ++ e ∷ [])
  draft_item s many slot content own plan batch ready new slots columns more counts wider room = record {
    ready = ready ∙ have.ready ∙ ap (map (λ (b : Binding). b.labels)) (sym binds);
    table = subst (λ (c : Content). table_room.IsReserved c.table (bindings (es ++ e ∷ [])) f.plan) (sym content)
        (subst (λ p. table_room.IsReserved h.content.table (bindings (es ++ e ∷ [])) p) (sym plan) (subst (λ bs. table_room.IsReserved h.content.table bs d.plan) (sym binds) have.table));
    postings = subst (λ (c : Content). postings_room.IsReserved c.postings (sets_of (es ++ e ∷ [])) f.batch) (sym content)
        (subst (λ p. postings_room.IsReserved h.content.postings (sets_of (es ++ e ∷ [])) p) (sym batch) (subst (λ bs. postings_room.IsReserved h.content.postings (map (λ (b : Binding). b.labels) bs) d.batch) (sym binds) have.postings));
    own = own ∙ have.own ∙ ap (λ (c : Content). length c.table.series) (sym content);
    columns = columns;
    noted = subst (λ (c : Content). IsNoted c.table.series (slot_at c.table) f (es ++ e ∷ [])) (sym content) (noted_item ss (slot_at h.content.table) d es e r is have.noted f s many slot new slots more counts);
    spares = subst (λ (c : Content). HaveSpare (spares_with k.room f.made) (targets c.table.series (slot_at c.table) (es ++ e ∷ []))) (sym content)
        (subst (λ ts. HaveSpare (spares_with k.room f.made) ts) (sym now) (λ q. by q (nat_eq q s) refl));
  } where
    ss : List Labels
    ss = h.content.table.series

    ts : List ℕ
    ts = targets ss (slot_at h.content.table) es

    binds : bindings (es ++ e ∷ []) ≡ bindings es
    binds = item_binds es e r is

    now : targets ss (slot_at h.content.table) (es ++ e ∷ []) ≡ ts ++ s ∷ []
    now = item_targets ss (slot_at h.content.table) es e r is ∙ ap (λ o. ts ++ to_slot o []) (sym (have.noted.slots r) ∙ slot)

    by : (q : ℕ) (b : Bool) → nat_eq q s ≡ b → count_by (nat_eq q) (ts ++ s ∷ []) ≤ spare_at (spares_with k.room f.made) q
    by q true e =
        let same : q ≡ s = eqb-true q s e in
        let a : count_by (nat_eq q) (ts ++ s ∷ []) ≡ count_by (nat_eq q) ts + count_by (nat_eq q) (s ∷ []) = sum_by-append (λ p. cond (nat_eq q p) 1 0) ts (s ∷ []) in
        let b : count_by (nat_eq q) (s ∷ []) ≡ 1 = ap (λ x. 0 + cond x 1 0) e in
        let c = have.noted.many q in
        let m = ap (many_at d) same in
        let n = ap (spare_at (spares_with k.room f.made)) same in
        omega (arith, a, b, c, m, n, more, room)
    by q false e =
        let a : count_by (nat_eq q) (ts ++ s ∷ []) ≡ count_by (nat_eq q) ts + count_by (nat_eq q) (s ∷ []) = sum_by-append (λ p. cond (nat_eq q p) 1 0) ts (s ∷ []) in
        let b : count_by (nat_eq q) (s ∷ []) ≡ 0 = ap (λ x. 0 + cond x 1 0) e in
        let c = have.spares q in
        let w = wider q in
        omega (arith, a, b, c, w)

-- the same columns, beside the same new series
pub columns_same : (d f : Drafted) → f.made.columns ≡ d.made.columns → f.series ≡ d.series → HaveColumns d → HaveColumns f
columns_same d f made new h = record {
  each = ap length made ∙ h.each ∙ ap length (sym new);
  unused = subst (All (λ (c : ColumnValue). c.history ≡ no_history)) (sym made) h.unused;
}

-- one empty column more, for a series that is new
pub column_more : (d f : Drafted) (c : ColumnValue) (labels : Labels) → has_series d.series labels ≡ false → f.series ≡ with_series d.series labels → f.made.columns ≡ d.made.columns ++ c ∷ [] → c.history ≡ no_history → HaveColumns d → HaveColumns f
column_more d f c labels absent new made unused h =
    let series : f.series ≡ d.series ++ labels ∷ [] = new ∙ ap (λ (b : Bool). if b then d.series else d.series ++ labels ∷ []) absent in
    record {
      each = omega (arith, ap length series, length-append d.series (labels ∷ []), ap length made, length-append d.made.columns (c ∷ []), h.each);
      unused = subst (All (λ (k : ColumnValue). k.history ≡ no_history)) (sym made) (all-push (λ (k : ColumnValue). k.history ≡ no_history) d.made.columns c h.unused unused);
    }

-- what is noted, beside another plan
pub noted_same : (ss : List Labels) (at : ℕ → Option ℕ) (d f : Drafted) (es : List Entry) → f.series ≡ d.series → f.slots ≡ d.slots → f.counts ≡ d.counts → IsNoted ss at d es → IsNoted ss at f es
noted_same ss at d f es new slots counts h = record {
  series = ap (λ (ls : List Labels). ss ++ ls) new ∙ h.series;
  slots = λ r. ap (λ (xs : List (ℕ × ℕ)). or_else (lookup (nat_eq r) xs) (at r)) slots ∙ h.slots r;
  within = λ q p k. subst (λ (ls : List Labels). p < length (ss ++ ls)) (sym new) (h.within q p (sym (ap (λ (xs : List (ℕ × ℕ)). lookup (nat_eq q) xs) slots) ∙ k));
  many = λ s. ap (λ (xs : List (ℕ × ℕ)). unwrap_or (lookup (nat_eq s) xs) 0) counts ∙ h.many s;
}

module _ (h k : HeadValue) (d f : Drafted) (es : List Entry) (e : Entry) (r : ℕ) (is : IsItemEntry e r) (have : IsDraft h d es) where
  -- the item comes to a series of the head
  pub draft_own : (s many : ℕ) → slot_after d (slot_at h.content.table) r ≡ Some s → k.content ≡ h.content → AreWider h.room.spares k.room.spares → s < length h.room.spares
      → f ≡ record d { counts = f.counts } → many ≡ many_at d s + 1 → ((q : ℕ) → many_at f q ≡ (if s == q then many else many_at d q)) → many ≤ spare_at k.room.spares s → IsDraft k f (es ++ e ∷ [])
  draft_own s many slot content wider within same more counts room =
      let made : f.made ≡ d.made = ap (λ (x : Drafted). x.made) same in
      let zs = map (λ (c : ColumnValue). c.spare) d.made.columns in
      let behind : spares_with k.room f.made ≡ k.room.spares ++ zs = ap (λ (m : ReservedValue). k.room.spares ++ map (λ (c : ColumnValue). c.spare) m.columns) made in
      let long = wider.many in
      draft_item h k d f es e r is have s many slot content wider.many
      (ap (λ (x : Drafted). x.plan) same) (ap (λ (x : Drafted). x.batch) same) (ap (λ (m : ReservedValue). m.ready) made) (ap (λ (x : Drafted). x.series) same) (ap (λ (x : Drafted). x.slots) same)
      (columns_same d f (ap (λ (m : ReservedValue). m.columns) made) (ap (λ (x : Drafted). x.series) same) have.columns) more counts
      (λ q. subst (λ xs. spare_at (spares_with h.room d.made) q ≤ spare_at xs q) (sym behind) (wider_front h.room.spares k.room.spares zs wider q))
      (subst (λ n. many ≤ n) (sym (ap (λ xs. spare_at xs s) behind ∙ spare_front k.room.spares zs s (omega (arith, within, long)))) room)

  -- the item comes to a series that will be new
  pub draft_made : (g : Drafted) (s many : ℕ) → slot_after d (slot_at h.content.table) r ≡ Some s → g ≡ record d { counts = g.counts } → f ≡ record g { made = record g.made { columns = f.made.columns } }
      → (HaveColumns g → HaveColumns f) → AreWider (map (λ c. c.spare) g.made.columns) (map (λ c. c.spare) f.made.columns) → length h.room.spares ≤ s
      → many ≡ many_at d s + 1 → ((q : ℕ) → many_at g q ≡ (if s == q then many else many_at d q)) → (s - length h.room.spares < length g.made.columns → many ≤ spare_at (map (λ c. c.spare) f.made.columns) (s - length h.room.spares))
      → s < length (h.content.table.series ++ d.series) → IsDraft h f (es ++ e ∷ [])
  draft_made g s many slot same last columns wider past more counts room within =
      let made : g.made ≡ d.made = ap (λ (x : Drafted). x.made) same in
      let first = ap (λ (x : Drafted). x.series) same in
      let cs : map (λ (c : ColumnValue). c.spare) g.made.columns ≡ map (λ (c : ColumnValue). c.spare) d.made.columns = ap (λ (m : ReservedValue). map (λ (c : ColumnValue). c.spare) m.columns) made in
      let ds = map (λ (c : ColumnValue). c.spare) f.made.columns in
      let a = length-append h.content.table.series d.series in
      let b = have.own in
      let l = have.columns.each in
      let n = ap (λ (m : ReservedValue). length m.columns) made in
      draft_item h h d f es e r is have s many slot refl refl
      (ap (λ (x : Drafted). x.plan) last ∙ ap (λ (x : Drafted). x.plan) same) (ap (λ (x : Drafted). x.batch) last ∙ ap (λ (x : Drafted). x.batch) same)
      (ap (λ (x : Drafted). x.made.ready) last ∙ ap (λ (m : ReservedValue). m.ready) made)
      (ap (λ (x : Drafted). x.series) last ∙ first) (ap (λ (x : Drafted). x.slots) last ∙ ap (λ (x : Drafted). x.slots) same)
      (columns (columns_same d g (ap (λ (m : ReservedValue). m.columns) made) first have.columns)) more (λ q. ap (λ (x : Drafted). many_at x q) last ∙ counts q)
      (λ q. subst (λ xs. spare_at (h.room.spares ++ xs) q ≤ spare_at (h.room.spares ++ ds) q) cs (wider_behind h.room.spares (map (λ c. c.spare) g.made.columns) ds wider q))
      (subst (λ m. many ≤ m) (sym (spare_behind h.room.spares ds s past)) (room (omega (arith, within, past, a, b, l, n))))

-- a list that a loop goes over, at one of its elements
pub front_push : {A : Type 0} (f : A → Entry) (es : List Entry) (xs : List A) (i : ℕ) (x : A) → i < length xs → x ≡ get_or xs i x → (es ++ map f (take i xs)) ++ f x ∷ [] ≡ es ++ map f (take (i + 1) xs)
front_push f es xs i x within is =
    append_assoc es (map f (take i xs)) (f x ∷ []) ∙ ap (λ fs. es ++ fs) (sym (ap (map f) (front_at xs i x within is) ∙ map_push f (take i xs) x))

pub whole_at : {A : Type 0} (f : A → Entry) (es : List Entry) (xs : List A) (i : ℕ) (x : A) → i < length xs → x ≡ get_or xs i x
    → es ++ map f xs ≡ ((es ++ map f (take i xs)) ++ f x ∷ []) ++ map f (drop (i + 1) xs)
whole_at f es xs i x within is =
    ap (λ ys. es ++ map f ys) (sym (take-append-drop (i + 1) xs)) ∙ ap (λ fs. es ++ fs) (map-append f (take (i + 1) xs) (drop (i + 1) xs))
    ∙ sym (append_assoc es (map f (take (i + 1) xs)) (map f (drop (i + 1) xs)))
    ∙ ap (λ fs. fs ++ map f (drop (i + 1) xs)) (sym (front_push f es xs i x within is))

-- what room was made for, once there is room for as many columns as there are bindings
pub draft_reserved : (k l : HeadValue) (d : Drafted) (m : ReservedValue) (rs : List WalRecord) → IsDraft k d (entries_of rs) → l.content ≡ k.content → l.failed ≡ false → l.room.spares ≡ k.room.spares
    → length d.made.ready ≤ l.room.columns → HaveCounts k.content.counts (entries_of rs) → HaveClasses k.content.counts rs → HaveExpired k.content.counts (entries_of rs) → m ≡ d.made → IsReserved l m rs
draft_reserved k l d m rs have content sound spares many counts classes expired made =
    subst (λ x. IsReserved l x rs) (sym made) (subst (λ (x : Content). IsReserved (record { content = x; failed = l.failed; room = l.room }) d.made rs) (sym content)
    (record { sound = sound; room = room; classes = classes; expired = expired }))
  where
    es : List Entry
    es = entries_of rs

    room : HasRoom (record { content = k.content; failed = l.failed; room = l.room }) d.made es
    room = record {
      ready = have.ready;
      table = have.table.room;
      postings = have.postings.room;
      columns = (let a = ap length have.ready in let b = same_many (λ (x : Binding). x.labels) (bindings es) in omega (arith, many, a, b));
      made =
          (let a = ap length have.noted.series in
          let b = length-append k.content.table.series d.series in
          let e = have.columns.each in
          let o = have.own in
          let f = ap length spares in
          omega (arith, a, b, e, o, f));
      unused = have.columns.unused;
      spares = subst (λ xs. HaveSpare (xs ++ map (λ c. c.spare) d.made.columns) (targets k.content.table.series (slot_at k.content.table) es)) (sym spares) have.spares;
      counts = counts;
    }
