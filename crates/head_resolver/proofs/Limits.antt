-- When a head is full: what was counted and bound stays so, and what keeps an entry or a record from being taken takes the content past the limits.
use Rattle.std.proofs.Common.{◌≡◌, ℕ, ℤ, ◌+◌, ◌<◌, ◌≤◌, ◌^◌, ◌⊎◌, inl, inr, Bool, true, false, List, [], ◌∷◌, ◌++◌, ap, sym, subst, ◌∙◌, refl, arith, append_assoc, length, length-append}
use Rattle.std.specs.Prelude.{count_by, cond, if◌then◌else◌}
use Rattle.std.specs.List.{flat_map}
use Rattle.std.proofs.lemmas.List.{map-append}
use Rattle.std.proofs.lemmas.List.Sums.{sum_by-append}
use Rattle.std.proofs.lemmas.Grind.{flat_map-append}
use Rattle.std.proofs.lemmas.Bool.{cases_lt}
use Rattle.hw_bytes.specs.Lists.{along, if_new, distinct}
use Rattle.hw_bytes.proofs.Lists.{flat_map-push}
use Rattle.wal_record.specs.declared.record.SeriesEntry.{SeriesEntry}
use Rattle.wal_record.specs.declared.record.WalRecord.{WalRecord}
use Rattle.wal_record.specs.declared.record.WalRecord.TheVariants.{Series, Samples, Stones, Other}
use Rattle.wal_record.specs.Labels.{same_text, same_labels}
use Rattle.wal_record.specs.Entries.{Entry, series, sample, stone, entries_in, entries_of}
use Rattle.head_series.specs.Texts.{Text, with_texts, texts_of}
use Rattle.head_series.specs.Table.{Labels, Table, has_series, with_series, texts_with, IsFull}
use Rattle.head_series.specs.Bindings.{Binding, IsTableOf, series_of}
use Rattle.head_series.proofs.BindLemmas.{with_texts-distinct}
use Rattle.head_resolver.specs.declared.counts.Counts.{Counts}
use Rattle.head_resolver.specs.Owners.{binding, bindings}
use Rattle.head_resolver.specs.Taken.{Taken, taken_after}
use Rattle.head_resolver.specs.Counts.{Fate, bound, accepted, stale, unknown, hides, empty_stone, unknown_stone, fate_at, fates, is_fate, counts_of, count_of_class}
use Rattle.head_resolver.specs.Limits.{AreCountsWithin, IsBounded}
use Rattle.head_resolver.specs.Steps.{with_expired, with_record, count_of_fate, IsOverTable}
use Rattle.head_resolver.proofs.Counting.{counts_at, entries_of-push, record_more}
use Rattle.head_resolver.proofs.Known.{bindings-push, label_sets, series_of-push}

along-append : {A B : Type 0} (f : List A → A → List B) (xs ys : List A) → along f (xs ++ ys) ≡ along f xs ++ along (λ before. f (xs ++ before)) ys
along-append f [] ys = refl
along-append f (x ∷ xs) ys =
    ap (λ t. f [] x ++ t) (along-append (λ before. f (x ∷ before)) xs ys)
    ∙ sym (append_assoc (f [] x) (along (λ before. f (x ∷ before)) xs) (along (λ before. f (x ∷ (xs ++ before))) ys))

longer : {A : Type 0} (xs ys : List A) → length xs ≤ length (xs ++ ys)
longer xs ys = let k = length-append xs ys in omega (arith, k)

longer_by : {A : Type 0} (xs ys zs : List A) → zs ≡ xs ++ ys → length xs ≤ length zs
longer_by xs ys zs e = subst (λ ws. length xs ≤ length ws) (sym e) (longer xs ys)

distinct_front : {A : Type 0} (same : A → A → Bool) (xs ys : List A) → length (distinct same xs) ≤ length (distinct same (xs ++ ys))
distinct_front same xs ys = longer_by (distinct same xs) (along (λ before. if_new same (xs ++ before)) ys) (distinct same (xs ++ ys)) (along-append (if_new same) xs ys)

-- the distinct texts of the series that the entries bind
abbrev pub texts_by : List Entry → List Text
texts_by es = distinct same_text (flat_map texts_of (series_of (bindings es)))

-- More entries take no count back.
pub fates_front : (f : Fate) (es more : List Entry) → count_by (is_fate f) (fates es) ≤ count_by (is_fate f) (fates (es ++ more))
fates_front f es more =
    let k = ap (count_by (is_fate f)) (along-append (λ before e. fate_at before e ∷ []) es more) ∙ sum_by-append (λ g. cond (is_fate f g) 1 0) (fates es) (along (λ before e. fate_at (es ++ before) e ∷ []) more) in
    omega (arith, k)

-- the series that more entries bind, after those that were bound
abbrev pub later_series : List Entry → List Entry → List Labels
later_series es more = along (λ before. if_new same_labels (label_sets (bindings es) ++ before)) (label_sets (bindings more))

pub series_split : (es more : List Entry) → series_of (bindings (es ++ more)) ≡ series_of (bindings es) ++ later_series es more
series_split es more =
    ap series_of (flat_map-append binding es more)
    ∙ ap (distinct same_labels) (map-append (λ (b : Binding). b.labels) (bindings es) (bindings more))
    ∙ along-append (if_new same_labels) (label_sets (bindings es)) (label_sets (bindings more))

-- More entries take no series back.
pub series_front : (es more : List Entry) → length (series_of (bindings es)) ≤ length (series_of (bindings (es ++ more)))
series_front es more = longer_by (series_of (bindings es)) (later_series es more) (series_of (bindings (es ++ more))) (series_split es more)

-- More entries take no text back.
pub texts_front : (es more : List Entry) → length (texts_by es) ≤ length (texts_by (es ++ more))
texts_front es more =
    let new : List Labels = later_series es more in
    subst (λ ts. length (texts_by es) ≤ length (distinct same_text ts))
    (sym (ap (flat_map texts_of) (series_split es more) ∙ flat_map-append texts_of (series_of (bindings es)) new))
    (distinct_front same_text (flat_map texts_of (series_of (bindings es))) (flat_map texts_of new))

module _ (es : List Entry) (x : SeriesEntry) (new : has_series (series_of (bindings es)) x.labels ≡ false) where
  -- a series entry whose label set is new: its label set is the last series
  pub series_new : series_of (bindings (es ++ series x ∷ [])) ≡ series_of (bindings es) ++ x.labels ∷ []
  series_new =
      ap series_of (bindings-push es (series x))
      ∙ series_of-push (bindings es) (record { reference = x.reference; labels = x.labels })
      ∙ ap (λ b. series_of (bindings es) ++ (if b then [] else x.labels ∷ [])) new

  -- there is one series more
  pub series_one_more : length (series_of (bindings (es ++ series x ∷ []))) ≡ length (series_of (bindings es)) + 1
  series_one_more = ap length series_new ∙ length-append (series_of (bindings es)) (x.labels ∷ [])

  -- and the texts are those that were, with its own
  pub texts_new : texts_by (es ++ series x ∷ []) ≡ with_texts (texts_by es) (texts_of x.labels)
  texts_new =
      ap (λ ss. distinct same_text (flat_map texts_of ss)) series_new
      ∙ ap (distinct same_text) (flat_map-push texts_of (series_of (bindings es)) x.labels)
      ∙ sym (with_texts-distinct (flat_map texts_of (series_of (bindings es))) (texts_of x.labels))

-- A full table: the entry takes the series or the texts past the limit.
pub full_past : (es : List Entry) (t : Table) (x : SeriesEntry) → IsTableOf (bindings es) t → IsFull t x.labels
    → (t.most < length (series_of (bindings (es ++ series x ∷ [])))) ⊎ (t.most < length (texts_by (es ++ series x ∷ [])))
full_past es t x h (absent, full) = by full where
  new : has_series (series_of (bindings es)) x.labels ≡ false
  new = ap (λ ss. has_series ss x.labels) (sym h.series) ∙ absent

  texts : with_texts t.texts (texts_of x.labels) ≡ texts_by (es ++ series x ∷ [])
  texts =
      ap (λ ts. with_texts ts (texts_of x.labels)) (h.texts ∙ ap (λ ss. distinct same_text (flat_map texts_of ss)) h.series)
      ∙ sym (texts_new es x new)

  by : (length t.series ≡ t.most) ⊎ (t.most < length (with_texts t.texts (texts_of x.labels)))
      → (t.most < length (series_of (bindings (es ++ series x ∷ [])))) ⊎ (t.most < length (texts_by (es ++ series x ∷ [])))
  by (inl e) = let k = series_one_more es x new in let j = ap length h.series in inl (omega (arith, e, k, j))
  by (inr l) = inr (subst (λ ts. t.most < length ts) texts l)

-- the count of a fate is how many entries have it
pub count_at : (base : Counts) (n : Fate → ℕ) (f : Fate) → count_of_fate f (counts_at base n) ≡ n f
count_at base n bound = refl
count_at base n accepted = refl
count_at base n stale = refl
count_at base n unknown = refl
count_at base n hides = refl
count_at base n empty_stone = refl
count_at base n unknown_stone = refl

pub same_fate : (f : Fate) → is_fate f f ≡ true
same_fate bound = refl
same_fate accepted = refl
same_fate stale = refl
same_fate unknown = refl
same_fate hides = refl
same_fate empty_stone = refl
same_fate unknown_stone = refl

-- each count of entries has 64 bits
pub fate_within : (c : Counts) → AreCountsWithin c → (f : Fate) → count_of_fate f c < 2 ^ 64
fate_within c h bound = h.series_entries
fate_within c h accepted = h.accepted
fate_within c h stale = h.stale
fate_within c h unknown = h.unknown
fate_within c h hides = h.hiding
fate_within c h empty_stone = h.empty_stones
fate_within c h unknown_stone = h.unknown_stones

-- each count of records has 64 bits
pub class_within : (c : Counts) → AreCountsWithin c → (r : WalRecord) → count_of_class r c < 2 ^ 64
class_within c h (Series es) = h.series_records
class_within c h (Samples ss) = h.sample_records
class_within c h (Stones ds) = h.stone_records
class_within c h (Other kind) = h.skipped_records

-- What a table shows is followed by an entry for which it has no room: no entries that begin so are within the limits.
pub over_table : (es : List Entry) (t : Table) (e : Entry) (more fs : List Entry) → IsTableOf (bindings es) t → t.most ≡ 4294967295 → fs ≡ es ++ e ∷ more
    → length (series_of (bindings fs)) ≤ 4294967295 → length (texts_by fs) ≤ 4294967295 → IsOverTable t e → ⊥
over_table es t e more fs shown most are series_fit texts_fit o = by e refl o where
  split : fs ≡ (es ++ e ∷ []) ++ more
  split = are ∙ sym (append_assoc es (e ∷ []) more)

  few_series : length (series_of (bindings (es ++ e ∷ []))) ≤ 4294967295
  few_series =
      let k = series_front (es ++ e ∷ []) more in
      let j = subst (λ gs. length (series_of (bindings gs)) ≤ 4294967295) split series_fit in
      omega (arith, k, j)

  few_texts : length (texts_by (es ++ e ∷ [])) ≤ 4294967295
  few_texts =
      let k = texts_front (es ++ e ∷ []) more in
      let j = subst (λ gs. length (texts_by gs) ≤ 4294967295) split texts_fit in
      omega (arith, k, j)

  past : (x : SeriesEntry) → e ≡ series x → (t.most < length (series_of (bindings (es ++ series x ∷ [])))) ⊎ (t.most < length (texts_by (es ++ series x ∷ []))) → ⊥
  past x k (inl l) = let j = subst (λ f. length (series_of (bindings (es ++ f ∷ []))) ≤ 4294967295) k few_series in omega (arith, most, l, j)
  past x k (inr l) = let j = subst (λ f. length (texts_by (es ++ f ∷ [])) ≤ 4294967295) k few_texts in omega (arith, most, l, j)

  by : (f : Entry) → e ≡ f → IsOverTable t f → ⊥
  by (series x) k full = past x k (full_past es t x shown full)
  by (sample s) k p = p
  by (stone s) k p = p

-- the entries of records, with those of one more, of which some were read
pub entries_split : (rs : List WalRecord) (r : WalRecord) (fs : List Entry) (e : Entry) (more : List Entry) → entries_in r ≡ fs ++ e ∷ more → entries_of (rs ++ r ∷ []) ≡ (entries_of rs ++ fs) ++ e ∷ more
entries_split rs r fs e more k = entries_of-push rs r ∙ ap (λ gs. entries_of rs ++ gs) k ∙ sym (append_assoc (entries_of rs) fs (e ∷ more))

-- The count of a record's class has no room: with the record it has more than 64 bits, whatever the entries count.
pub class_past : (m : ℤ) (t : Taken) (r : WalRecord) (n k : Fate → ℕ) → count_of_class r (counts_at (counts_of t) n) ≡ 18446744073709551615 → count_of_class r (counts_at (counts_of (taken_after m t r)) k) < 2 ^ 64 → ⊥
class_past m t r n k o few =
    let now = any_entries r in
    let next = ap (count_of_class r) (record_more m t r k) ∙ raised r (counts_at (counts_of t) k) in
    omega (arith, o, now, next, few)
  where
    any_entries : (q : WalRecord) → count_of_class q (counts_at (counts_of t) n) ≡ count_of_class q (counts_at (counts_of t) k)
    any_entries (Series es) = refl
    any_entries (Samples ss) = refl
    any_entries (Stones ds) = refl
    any_entries (Other kind) = refl

    raised : (q : WalRecord) (c : Counts) → count_of_class q (with_expired m r (with_record q c)) ≡ count_of_class q c + 1
    raised (Series es) c = refl
    raised (Samples ss) c = refl
    raised (Stones ds) c = refl
    raised (Other kind) c = refl

-- A table that had room for a label set, and took it, has no more series and no more texts than it may.
pub few_after_bind : (old new : Table) (ls : Labels) → length old.series ≤ old.most → length old.texts ≤ old.most → new.series ≡ with_series old.series ls → new.texts ≡ texts_with old ls → new.most ≡ old.most
    → (IsFull old ls → ⊥) → (length new.series ≤ new.most) × (length new.texts ≤ new.most)
few_after_bind old new ls few_series few_texts series_are texts_are most_is room = (
  subst (λ ss. length ss ≤ new.most) (sym series_are) (series_at (has_series old.series ls) refl),
  subst (λ ts. length ts ≤ new.most) (sym texts_are) (texts_at (has_series old.series ls) refl),
) where
  series_at : (b : Bool) → has_series old.series ls ≡ b → length (if b then old.series else old.series ++ ls ∷ []) ≤ new.most
  series_at true e = omega (arith, few_series, most_is)
  series_at false e = at (cases_lt (length old.series) old.most) where
    at : (length old.series < old.most) ⊎ (old.most ≤ length old.series) → length (old.series ++ ls ∷ []) ≤ new.most
    at (inl l) = let k = length-append old.series (ls ∷ []) in omega (arith, k, l, most_is)
    at (inr l) = absurd (room (e, inl (omega (arith, l, few_series))))

  texts_at : (b : Bool) → has_series old.series ls ≡ b → length (if b then old.texts else with_texts old.texts (texts_of ls)) ≤ new.most
  texts_at true e = omega (arith, few_texts, most_is)
  texts_at false e = at (cases_lt old.most (length (with_texts old.texts (texts_of ls)))) where
    at : (old.most < length (with_texts old.texts (texts_of ls))) ⊎ (length (with_texts old.texts (texts_of ls)) ≤ old.most) → length (with_texts old.texts (texts_of ls)) ≤ new.most
    at (inl l) = absurd (room (e, inr l))
    at (inr l) = omega (arith, l, most_is)

-- A table that had room for a label set, and took it, is within the limits of a head as before.
pub bounded_more : (t u : Table) (ls : Labels) → IsBounded t → u.series ≡ with_series t.series ls → u.texts ≡ texts_with t ls → u.most ≡ t.most → (IsFull t ls → ⊥) → IsBounded u
bounded_more t u ls b grown texts most room =
    let limit = b.limit in
    let few_series : length t.series ≤ t.most = let k = b.few in omega (arith, k, limit) in
    let few_texts : length t.texts ≤ t.most = let k = b.few_texts in omega (arith, k, limit) in
    let few = few_after_bind t u ls few_series few_texts grown texts most room in
    let k = few.0 in
    let l = few.1 in
    record {
      limit = most ∙ limit;
      few = omega (arith, k, most, limit);
      few_texts = omega (arith, l, most, limit);
    }
