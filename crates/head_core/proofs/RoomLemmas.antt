-- The room of a head, before and after one entry.
use Rattle.std.proofs.Common.{◌≡◌, ℕ, ℤ, zero, suc, ◌+◌, ◌<◌, ◌≤◌, ◌⊎◌, inl, inr, Bool, true, false, List, [], ◌∷◌, ◌++◌, Option, Some, None, ap, sym, subst, ◌∙◌, refl, arith, append_assoc, length, length-append, drop, get_or}
use Rattle.std.proofs.Math.Path.{fun_ext}
use Rattle.std.proofs.Math.Dec.{eqb-suc-suc}
use Rattle.std.specs.Prelude.{All, cond, map, count_by, nat_eq, slice_get, slice_set, if◌then◌else◌}
use Rattle.std.proofs.lemmas.List.{drop_more}
use Rattle.std.proofs.lemmas.List.Sums.{sum_by-append}
use Rattle.hw_bytes.proofs.Lists.{map_push}
use Rattle.wal_record.specs.declared.record.SampleEntry.{SampleEntry}
use Rattle.wal_record.specs.declared.record.StoneEntry.{StoneEntry}
use Rattle.wal_record.specs.declared.record.SeriesEntry.{SeriesEntry}
use Rattle.wal_record.specs.Labels.{same_labels}
use Rattle.wal_record.specs.Entries.{Entry, series, sample, stone}
use Rattle.wal_record.specs.Validity.{raised}
use Rattle.head_column.specs.Histories.{ColumnValue, no_history}
use Rattle.head_series.specs.Texts.{place, with_texts, texts_of}
use Rattle.head_series.specs.Table.{Labels, Table, slot_at, has_series, with_series, IsWith, IsFull}
use Rattle.head_series.specs.Bindings.{Binding}
use Rattle.head_series.specs.Room as table_room
use Rattle.head_postings.specs.Room as postings_room
use Rattle.head_resolver.specs.declared.counts.Counts.{Counts}
use Rattle.head_resolver.specs.Owners.{bindings}
use Rattle.head_resolver.specs.Counts.{sample_item, stone_item, Fate, bound, accepted, stale, unknown, hides, empty_stone, unknown_stone}
use Rattle.head_resolver.specs.Steps.{count_of_fate, with_fate}
use Rattle.head_resolver.specs.Room.{HaveCounts}
use Rattle.head_core.specs.Heads.{ColumnRoom, HeadValue}
use Rattle.head_core.specs.Steps.{found, told_item}
use Rattle.head_core.specs.Room.{CanPut, sets_of, pointed, to_slot, targets, spare_at, HaveSpare, ReservedValue, spares_with, HasRoom, PutUses}

-- after two lists that are as long, others are alike
pub spare_append : (xs ys zs : List ℕ) (n : ℕ → ℕ) → length ys ≡ length xs → ((s : ℕ) → spare_at xs s ≤ spare_at ys s + n s) → (s : ℕ) → spare_at (xs ++ zs) s ≤ spare_at (ys ++ zs) s + n s
spare_append [] [] zs n l h s = omega arith
spare_append [] (y ∷ ys) zs n l h s = cc
spare_append (x ∷ xs) [] zs n l h s = cc
spare_append (x ∷ xs) (y ∷ ys) zs n l h zero = h zero
spare_append (x ∷ xs) (y ∷ ys) zs n l h (suc s) = spare_append xs ys zs (λ t. n (suc t)) (let k : length ys ≡ length xs = omega (arith, l) in k) (λ t. h (suc t)) s

nat_eq_suc : (m n : ℕ) → nat_eq (suc m) (suc n) ≡ nat_eq m n
nat_eq_suc m n = eqb-suc-suc m n

count_suc : (s p : ℕ) → count_by (nat_eq (suc s)) (suc p ∷ []) ≡ count_by (nat_eq s) (p ∷ [])
count_suc s p = ap (λ b. 0 + cond b 1 0) (nat_eq_suc s p)

-- one column that has taken an item
pub spare_put : (cs : List ColumnValue) (p : ℕ) (x y : ColumnValue) → slice_get cs p ≡ Some x → x.spare ≤ y.spare + 1
    → (s : ℕ) → spare_at (map (λ c. c.spare) cs) s ≤ spare_at (map (λ c. c.spare) (slice_set cs p y)) s + count_by (nat_eq s) (p ∷ [])
spare_put [] p x y e l s = cc
spare_put (c ∷ cs) zero x y e l zero = let k : c ≡ x = cc in let j = ap (λ (v : ColumnValue). v.spare) k in omega (arith, l, j)
spare_put (c ∷ cs) zero x y e l (suc s) = omega arith
spare_put (c ∷ cs) (suc p) x y e l zero = omega arith
spare_put (c ∷ cs) (suc p) x y e l (suc s) = let k = spare_put cs p x y e l s in let j = count_suc s p in omega (arith, k, j)

count_to : (s : ℕ) (o : Option ℕ) (ts : List ℕ) → count_by (nat_eq s) (to_slot o ts) ≡ count_by (nat_eq s) (to_slot o []) + count_by (nat_eq s) ts
count_to s None ts = omega arith
count_to s (Some p) ts = sum_by-append (λ q. cond (nat_eq s q) 1 0) (p ∷ []) ts

-- one entry raises each count by one at most
pub one_fate : (f g : Fate) (c : Counts) → count_of_fate f (with_fate g c) ≤ count_of_fate f c + 1
one_fate bound bound c = omega arith
one_fate bound accepted c = omega arith
one_fate bound stale c = omega arith
one_fate bound unknown c = omega arith
one_fate bound hides c = omega arith
one_fate bound empty_stone c = omega arith
one_fate bound unknown_stone c = omega arith
one_fate accepted bound c = omega arith
one_fate accepted accepted c = omega arith
one_fate accepted stale c = omega arith
one_fate accepted unknown c = omega arith
one_fate accepted hides c = omega arith
one_fate accepted empty_stone c = omega arith
one_fate accepted unknown_stone c = omega arith
one_fate stale bound c = omega arith
one_fate stale accepted c = omega arith
one_fate stale stale c = omega arith
one_fate stale unknown c = omega arith
one_fate stale hides c = omega arith
one_fate stale empty_stone c = omega arith
one_fate stale unknown_stone c = omega arith
one_fate unknown bound c = omega arith
one_fate unknown accepted c = omega arith
one_fate unknown stale c = omega arith
one_fate unknown unknown c = omega arith
one_fate unknown hides c = omega arith
one_fate unknown empty_stone c = omega arith
one_fate unknown unknown_stone c = omega arith
one_fate hides bound c = omega arith
one_fate hides accepted c = omega arith
one_fate hides stale c = omega arith
one_fate hides unknown c = omega arith
one_fate hides hides c = omega arith
one_fate hides empty_stone c = omega arith
one_fate hides unknown_stone c = omega arith
one_fate empty_stone bound c = omega arith
one_fate empty_stone accepted c = omega arith
one_fate empty_stone stale c = omega arith
one_fate empty_stone unknown c = omega arith
one_fate empty_stone hides c = omega arith
one_fate empty_stone empty_stone c = omega arith
one_fate empty_stone unknown_stone c = omega arith
one_fate unknown_stone bound c = omega arith
one_fate unknown_stone accepted c = omega arith
one_fate unknown_stone stale c = omega arith
one_fate unknown_stone unknown c = omega arith
one_fate unknown_stone hides c = omega arith
one_fate unknown_stone empty_stone c = omega arith
one_fate unknown_stone unknown_stone c = omega arith

pub counts_left : (c d : Counts) (g : Fate) (e : Entry) (es : List Entry) → d ≡ with_fate g c → HaveCounts c (e ∷ es) → HaveCounts d es
counts_left c d g e es is h f =
    let k = h f in
    let l = subst (λ x. count_of_fate f x ≤ count_of_fate f c + 1) (sym is) (one_fate f g c) in
    omega (arith, k, l)

module _ (h k : HeadValue) (m : ReservedValue) (r : ℕ) (ts : List ℕ) (uses : PutUses h k r) where
  pub spares_left : HaveSpare (spares_with h.room m) (to_slot (slot_at h.content.table r) ts) → HaveSpare (spares_with k.room m) ts
  spares_left have s =
      let a = have s in
      let b = spare_append h.room.spares k.room.spares (map (λ c. c.spare) m.columns) (λ t. count_by (nat_eq t) (to_slot (slot_at h.content.table r) [])) uses.length uses.spares s in
      let c = count_to s (slot_at h.content.table r) ts in
      omega (arith, a, b, c)

-- an item that was put to the column of its slot
pub put_uses : (h k : HeadValue) (r p : ℕ) (cs : List ColumnValue) (x y : ColumnValue) → slot_at h.content.table r ≡ Some p → slice_get cs p ≡ Some x → x.spare ≤ y.spare + 1
    → h.room.spares ≡ map (λ c. c.spare) cs → k.room.spares ≡ map (λ c. c.spare) (slice_set cs p y) → k.room.columns ≡ h.room.columns → PutUses h k r
put_uses h k r p cs x y at is l before after columns = record {
  columns = columns;
  length = ap length after ∙ same_length cs p ∙ sym (ap length before);
  spares = λ s. subst (λ xs. spare_at xs s ≤ spare_at k.room.spares s + count_by (nat_eq s) (to_slot (slot_at h.content.table r) [])) (sym before)
      (subst (λ xs. spare_at (map (λ c. c.spare) cs) s ≤ spare_at xs s + count_by (nat_eq s) (to_slot (slot_at h.content.table r) [])) (sym after)
      (subst (λ o. spare_at (map (λ c. c.spare) cs) s ≤ spare_at (map (λ c. c.spare) (slice_set cs p y)) s + count_by (nat_eq s) (to_slot o [])) (sym at) (spare_put cs p x y is l s)));
} where
  same_length : (ds : List ColumnValue) (q : ℕ) → length (map (λ c. c.spare) (slice_set ds q y)) ≡ length (map (λ c. c.spare) ds)
  same_length [] q = refl
  same_length (d ∷ ds) zero = refl
  same_length (d ∷ ds) (suc q) = ap suc (same_length ds q)

-- an item without a slot
pub put_none : (h k : HeadValue) (r : ℕ) → k.room ≡ h.room → PutUses h k r
put_none h k r is = record {
  columns = ap (λ (x : ColumnRoom). x.columns) is;
  length = ap (λ (x : ColumnRoom). length x.spares) is;
  spares = λ s. subst (λ (x : ColumnRoom). spare_at h.room.spares s ≤ spare_at x.spares s + count_by (nat_eq s) (to_slot (slot_at h.content.table r) [])) (sym is) (omega arith);
}

-- room for an item that is left out is room for the others
pub without_sample : (h : HeadValue) (m : ReservedValue) (x : SampleEntry) (es : List Entry) → HasRoom h m (sample x ∷ es) → HasRoom h m es
without_sample h m x es have = record {
  ready = have.ready;
  table = have.table;
  postings = have.postings;
  columns = have.columns;
  made = have.made;
  unused = have.unused;
  spares = λ s. let a = have.spares s in let b = count_to s (slot_at h.content.table x.reference) (targets h.content.table.series (slot_at h.content.table) es) in omega (arith, a, b);
  counts = λ f. let a = have.counts f in omega (arith, a);
}

pub without_stone : (h : HeadValue) (m : ReservedValue) (x : StoneEntry) (es : List Entry) → HasRoom h m (stone x ∷ es) → HasRoom h m es
without_stone h m x es have = record {
  ready = have.ready;
  table = have.table;
  postings = have.postings;
  columns = have.columns;
  made = have.made;
  unused = have.unused;
  spares = λ s. let a = have.spares s in let b = count_to s (slot_at h.content.table x.reference) (targets h.content.table.series (slot_at h.content.table) es) in omega (arith, a, b);
  counts = λ f. let a = have.counts f in omega (arith, a);
}

-- a deletion that is raised takes the room of the whole
pub raised_room : (h : HeadValue) (m : ReservedValue) (t : ℤ) (x : StoneEntry) (es : List Entry) → HasRoom h m (stone x ∷ es) → HasRoom h m (stone (raised t x) ∷ es)
raised_room h m t x es have = record {
  ready = have.ready;
  table = have.table;
  postings = have.postings;
  columns = have.columns;
  made = have.made;
  unused = have.unused;
  spares = have.spares;
  counts = have.counts;
}

-- room for the entries after a sample
pub sample_left : (h k : HeadValue) (m : ReservedValue) (x : SampleEntry) (es : List Entry) (g : Fate) → HasRoom h m (sample x ∷ es) → PutUses h k x.reference
    → k.content.table ≡ h.content.table → k.content.postings ≡ h.content.postings → k.content.counts ≡ with_fate g h.content.counts → HasRoom k m es
sample_left h k m x es g have uses table postings counts = record {
  ready = have.ready;
  table = subst (λ t. table_room.HasRoom t (bindings es)) (sym table) have.table;
  postings = subst (λ p. postings_room.HasRoom p (sets_of es)) (sym postings) have.postings;
  columns = subst (λ n. length (bindings es) ≤ n) (sym uses.columns) have.columns;
  made = subst (λ t. length (table_room.series_after t.series (bindings es)) ≤ length k.room.spares + length m.columns) (sym table)
      (subst (λ n. length (table_room.series_after h.content.table.series (bindings es)) ≤ n + length m.columns) (sym uses.length) have.made);
  unused = have.unused;
  spares = subst (λ t. HaveSpare (spares_with k.room m) (targets t.series (slot_at t) es)) (sym table)
      (spares_left h k m x.reference (targets h.content.table.series (slot_at h.content.table) es) uses have.spares);
  counts = counts_left h.content.counts k.content.counts g (sample x) es counts have.counts;
}

-- room for the entries after a deletion
pub stone_left : (h k : HeadValue) (m : ReservedValue) (x : StoneEntry) (es : List Entry) (g : Fate) → HasRoom h m (stone x ∷ es) → PutUses h k x.reference
    → k.content.table ≡ h.content.table → k.content.postings ≡ h.content.postings → k.content.counts ≡ with_fate g h.content.counts → HasRoom k m es
stone_left h k m x es g have uses table postings counts = record {
  ready = have.ready;
  table = subst (λ t. table_room.HasRoom t (bindings es)) (sym table) have.table;
  postings = subst (λ p. postings_room.HasRoom p (sets_of es)) (sym postings) have.postings;
  columns = subst (λ n. length (bindings es) ≤ n) (sym uses.columns) have.columns;
  made = subst (λ t. length (table_room.series_after t.series (bindings es)) ≤ length k.room.spares + length m.columns) (sym table)
      (subst (λ n. length (table_room.series_after h.content.table.series (bindings es)) ≤ n + length m.columns) (sym uses.length) have.made);
  unused = have.unused;
  spares = subst (λ t. HaveSpare (spares_with k.room m) (targets t.series (slot_at t) es)) (sym table)
      (spares_left h k m x.reference (targets h.content.table.series (slot_at h.content.table) es) uses have.spares);
  counts = counts_left h.content.counts k.content.counts g (stone x) es counts have.counts;
}

pub same_many : {A B : Type 0} (f : A → B) (xs : List A) → length (map f xs) ≡ length xs
same_many f [] = refl
same_many f (x ∷ xs) = ap suc (same_many f xs)

pub all_first : {A : Type 0} (P : A → Type 0) (x : A) (xs : List A) → All P (x ∷ xs) → P x
all_first P x xs h = h zero x (omega arith)

pub all_rest : {A : Type 0} (P : A → Type 0) (x : A) (xs : List A) → All P (x ∷ xs) → All P xs
all_rest P x xs h = λ k d l. h (suc k) d (omega (arith, l))

-- The columns with those after them are the same list, where the first of these went to the end of those.
pub moved_spares : (cs ds : List ColumnValue) (x : ColumnValue) (rest : List ColumnValue) → ds ≡ cs ++ x ∷ [] → map (λ c. c.spare) ds ++ map (λ c. c.spare) rest ≡ map (λ c. c.spare) cs ++ map (λ c. c.spare) (x ∷ rest)
moved_spares cs ds x rest e =
    ap (λ (xs : List ColumnValue). map (λ c. c.spare) xs ++ map (λ c. c.spare) rest) e
    ∙ ap (λ (xs : List ℕ). xs ++ map (λ c. c.spare) rest) (map_push (λ (c : ColumnValue). c.spare) cs x)
    ∙ append_assoc (map (λ c. c.spare) cs) (x.spare ∷ []) (map (λ c. c.spare) rest)

-- the columns of a head stand before those that were made
pub spare_front : (xs ys : List ℕ) (n : ℕ) → n < length xs → spare_at (xs ++ ys) n ≡ spare_at xs n
spare_front [] ys n l = absurd (omega (arith, l))
spare_front (x ∷ xs) ys zero l = refl
spare_front (x ∷ xs) ys (suc n) l = spare_front xs ys n (omega (arith, l))

-- The column of the first item's reference has room.
pub spare_first : (spares : List ℕ) (o : Option ℕ) (ts : List ℕ) (p : ℕ) → HaveSpare spares (to_slot o ts) → o ≡ Some p → 0 < spare_at spares p
spare_first spares None ts p h e = cc
spare_first spares (Some q) ts p h e =
    let k : q ≡ p = cc in
    let a = h p in
    let b : count_by (nat_eq p) (q ∷ ts) ≡ count_by (nat_eq p) ts + 1 = subst (λ n. count_by (nat_eq p) (n ∷ ts) ≡ count_by (nat_eq p) ts + 1) (sym k) (own p ts) in
    omega (arith, a, b)
  where
    same : (n : ℕ) → nat_eq n n ≡ true
    same zero = refl
    same (suc n) = nat_eq_suc n n ∙ same n

    own : (n : ℕ) (us : List ℕ) → count_by (nat_eq n) (n ∷ us) ≡ count_by (nat_eq n) us + 1
    own n us =
        let j : count_by (nat_eq n) (n ∷ []) ≡ 1 = ap (λ b. 0 + cond b 1 0) (same n) in
        let k : count_by (nat_eq n) (n ∷ us) ≡ count_by (nat_eq n) (n ∷ []) + count_by (nat_eq n) us = sum_by-append (λ q. cond (nat_eq n q) 1 0) (n ∷ []) us in
        omega (arith, j, k)

pub can_sample : (h : HeadValue) (m : ReservedValue) (x : SampleEntry) (es : List Entry) → HasRoom h m (sample x ∷ es) → CanPut h m x.reference (sample_item x)
can_sample h m x es have = record {
  spare = λ s e. spare_first (spares_with h.room m) (slot_at h.content.table x.reference) (targets h.content.table.series (slot_at h.content.table) es) s have.spares e;
  count = (let k = have.counts (told_item (found h.content.table h.content.histories x.reference) (sample_item x)) in omega (arith, k));
}

pub can_stone : (h : HeadValue) (m : ReservedValue) (x : StoneEntry) (es : List Entry) → HasRoom h m (stone x ∷ es) → CanPut h m x.reference (stone_item x)
can_stone h m x es have = record {
  spare = λ s e. spare_first (spares_with h.room m) (slot_at h.content.table x.reference) (targets h.content.table.series (slot_at h.content.table) es) s have.spares e;
  count = (let k = have.counts (told_item (found h.content.table h.content.histories x.reference) (stone_item x)) in omega (arith, k));
}

-- Room for a binding: the table is not full.
pub room_not_full : (h : HeadValue) (m : ReservedValue) (e : SeriesEntry) (es : List Entry) → HasRoom h m (series e ∷ es) → has_series h.content.table.series e.labels ≡ false → IsFull h.content.table e.labels → ⊥
room_not_full h m e es have new (absent, over) = by over where
  ss : List Labels
  ss = h.content.table.series

  few : length (with_series ss e.labels) ≤ h.content.table.most
  few = have.table.fits.0

  few_texts : length (with_texts h.content.table.texts (texts_of e.labels)) ≤ h.content.table.most
  few_texts = subst (λ b. length (if b then h.content.table.texts else with_texts h.content.table.texts (texts_of e.labels)) ≤ h.content.table.most) new have.table.fits.1

  grown : length (with_series ss e.labels) ≡ length ss + 1
  grown = ap (λ b. length (if b then ss else ss ++ e.labels ∷ [])) new ∙ length-append ss (e.labels ∷ [])

  by : (length ss ≡ h.content.table.most) ⊎ (h.content.table.most < length (with_texts h.content.table.texts (texts_of e.labels))) → ⊥
  by (inl k) = absurd (omega (arith, few, grown, k))
  by (inr l) = absurd (omega (arith, few_texts, l))

series_longer : (ss : List Labels) (bs : List Binding) → length ss ≤ length (table_room.series_after ss bs)
series_longer ss [] = omega arith
series_longer ss (b ∷ bs) = at (has_series ss b.labels) (series_longer (with_series ss b.labels) bs) refl where
  at : (new : Bool) → length (with_series ss b.labels) ≤ length (table_room.series_after (with_series ss b.labels) bs) → has_series ss b.labels ≡ new → length ss ≤ length (table_room.series_after (with_series ss b.labels) bs)
  at true l e = let k : with_series ss b.labels ≡ ss = ap (λ t. if t then ss else ss ++ b.labels ∷ []) e in let j = ap length k in omega (arith, l, j)
  at false l e = let k : with_series ss b.labels ≡ ss ++ b.labels ∷ [] = ap (λ t. if t then ss else ss ++ b.labels ∷ []) e in let j = ap length k ∙ length-append ss (b.labels ∷ []) in omega (arith, l, j)

-- Where a series will be new, a column was made for it.
pub column_made : (h : HeadValue) (m : ReservedValue) (e : SeriesEntry) (es : List Entry) → HasRoom h m (series e ∷ es) → length h.room.spares ≡ length h.content.table.series → has_series h.content.table.series e.labels ≡ false → 0 < length m.columns
column_made h m e es have each new =
    let ss = h.content.table.series in
    let grown : with_series ss e.labels ≡ ss ++ e.labels ∷ [] = ap (λ t. if t then ss else ss ++ e.labels ∷ []) new in
    let a = series_longer (with_series ss e.labels) (bindings es) in
    let b = ap length grown ∙ length-append ss (e.labels ∷ []) in
    let c = have.made in
    omega (arith, a, b, c, each)

-- The slots that the items come to, once the table has taken a binding.
targets_bound : (t u : Table) (e : SeriesEntry) (es : List Entry) (s : ℕ) → u.series ≡ with_series t.series e.labels → place (same_labels e.labels) u.series ≡ Some s → IsWith (slot_at t) e.reference s (slot_at u)
    → targets u.series (slot_at u) es ≡ targets t.series (slot_at t) (series e ∷ es)
targets_bound t u e es s grown at with =
    let slot : Some s ≡ place (same_labels e.labels) (with_series t.series e.labels) = sym at ∙ ap (place (same_labels e.labels)) grown in
    let now : slot_at u ≡ pointed (slot_at t) e.reference (Some s) = fun_ext with in
    ap (λ a. targets u.series a es) (now ∙ ap (pointed (slot_at t) e.reference) slot) ∙ ap (λ ss. targets ss (pointed (slot_at t) e.reference (place (same_labels e.labels) (with_series t.series e.labels))) es) grown

-- Room for the entries after a binding, where the columns are the same list, those that were made after those of the head.
pub bound_left : (h k : HeadValue) (m n : ReservedValue) (e : SeriesEntry) (es : List Entry) (s : ℕ) → HasRoom h m (series e ∷ es)
    → m.ready ≡ e.labels ∷ n.ready → table_room.HasRoom k.content.table (bindings es) → postings_room.HasRoom k.content.postings (sets_of es) → h.room.columns ≤ k.room.columns + 1
    → spares_with k.room n ≡ spares_with h.room m → All (λ c. c.history ≡ no_history) n.columns
    → k.content.table.series ≡ with_series h.content.table.series e.labels → place (same_labels e.labels) k.content.table.series ≡ Some s → IsWith (slot_at h.content.table) e.reference s (slot_at k.content.table)
    → k.content.counts ≡ with_fate bound h.content.counts → HasRoom k n es
bound_left h k m n e es s have first table postings columns spares unused grown at with counts = record {
  ready = (let f : e.labels ∷ n.ready ≡ e.labels ∷ sets_of es = sym first ∙ have.ready in cc);
  table = table;
  postings = postings;
  columns = (let l = have.columns in omega (arith, l, columns));
  made =
      (let a = ap length spares in
      let b = length-append k.room.spares (map (λ c. c.spare) n.columns) in
      let d = length-append h.room.spares (map (λ c. c.spare) m.columns) in
      let f = same_many (λ (c : ColumnValue). c.spare) n.columns in
      let g = same_many (λ (c : ColumnValue). c.spare) m.columns in
      let l = subst (λ ss. length (table_room.series_after ss (bindings es)) ≤ length h.room.spares + length m.columns) (sym grown) have.made in omega (arith, a, b, d, f, g, l));
  unused = unused;
  spares = subst (λ ts. HaveSpare (spares_with k.room n) ts) (sym (targets_bound h.content.table k.content.table e es s grown at with))
      (subst (λ xs. HaveSpare xs (targets h.content.table.series (slot_at h.content.table) (series e ∷ es))) (sym spares) have.spares);
  counts = counts_left h.content.counts k.content.counts bound (series e) es counts have.counts;
}

-- the first of a list, as a loop reads it
pub drop_at : {A B : Type 0} (f : A → B) (xs : List A) (i : ℕ) (x : A) → i < length xs → x ≡ get_or xs i x → map f (drop i xs) ≡ f x ∷ map f (drop (i + 1) xs)
drop_at f xs i x within is = ap (map f) (drop_more xs i x within ∙ ap (λ y. y ∷ drop (i + 1) xs) (sym is))

pub first_at : {A : Type 0} (xs : List A) (i : ℕ) (x : A) → i < length xs → x ≡ get_or xs i x → drop i xs ≡ x ∷ drop (i + 1) xs
first_at xs i x within is = drop_more xs i x within ∙ ap (λ y. y ∷ drop (i + 1) xs) (sym is)
