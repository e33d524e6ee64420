-- When a head is full: what was counted and bound stays so, and what keeps an entry or a record from being taken takes the content past the limits.
use Rattle.std.proofs.Common.{◌≡◌, All, ◌+◌, ◌≤◌, ◌⊎◌, inl, inr, List, [], ◌∷◌, ◌++◌, ap, sym, subst, ◌∙◌, arith, append_assoc, length}
use Rattle.std.specs.Prelude.{if◌then◌else◌}
use Rattle.std.specs.List.{flat_map}
use Rattle.hw_bytes.specs.Lists.{distinct}
use Rattle.wal_record.specs.declared.record.WalRecord.{WalRecord}
use Rattle.wal_record.specs.Labels.{same_text}
use Rattle.wal_record.specs.Entries.{Entry, entries_in, entries_of}
use Rattle.wal_record.specs.Validity.{IsFrom, valid, valid_in}
use Rattle.wal_record.proofs.Validity.{valid_all_from, valid_entries}
use Rattle.head_series.specs.Texts.{texts_of}
use Rattle.head_series.specs.Bindings.{IsTableOf, series_of}
use Rattle.head_resolver.specs.declared.counts.Counts.{Counts}
use Rattle.head_resolver.specs.Owners.{bindings}
use Rattle.head_resolver.specs.Taken.{Taken, taken_after}
use Rattle.head_resolver.specs.Counts.{Fate, fate_at, counts_of, count_of_class}
use Rattle.head_resolver.specs.Limits.{AreCountsWithin}
use Rattle.head_resolver.specs.Steps.{with_expired, with_record, count_of_fate, IsExpiredOver}
use Rattle.head_resolver.proofs.Limits.{fates_front, count_at, same_fate, fate_within, class_within, over_table, entries_split, class_past}
use Rattle.head_resolver.proofs.Counting.{count_more, tally}
use Rattle.head_resolver.proofs.Validity.{bindings_valid}
use Rattle.head_core.specs.Content.{Content, IsContentOf, IsWithinLimits}
use Rattle.head_core.specs.Steps.{ColumnLaw, told, IsOver, Takes}
use Rattle.head_core.proofs.Lists.{all_behind, all_front}
use Rattle.head_core.proofs.Reading.{IsReadBy, counted_read, takes_read, takes_time, told_from}

-- What was read is followed by an entry that is over a limit: nothing that was taken with these entries, and whatever is after them, is
-- within the limits.
module _ (law : ColumnLaw) (base : Counts) {es : List Entry} {x : Content} (h : IsReadBy base es x) (most : x.table.most ≡ 4294967295) (e : Entry) (from : IsFrom x.min_valid e) (more : List Entry) (t : Taken)
    (are : entries_of t.kept ≡ es ++ e ∷ more) (w : IsWithinLimits t) where
  split : entries_of t.kept ≡ (es ++ e ∷ []) ++ more
  split = are ∙ sym (append_assoc es (e ∷ []) more)

  -- the entry's count has no room
  over_count : count_of_fate (told x.table x.histories e) x.counts ≡ 18446744073709551615 → ⊥
  over_count o =
      let f : Fate = fate_at es e in
      let n : tally es f ≡ 18446744073709551615 =
      sym (ap (λ g. count_of_fate g x.counts) (told_from law es h.entries e from) ∙ ap (count_of_fate f) h.counted ∙ count_at base (tally es) f) ∙ o in
      let one : tally (es ++ e ∷ []) f ≡ tally es f + 1 = count_more f es e ∙ ap (λ b. tally es f + (if b then 1 else 0)) (same_fate f) in
      let front = fates_front f (es ++ e ∷ []) more in
      let all : count_of_fate f (counts_of t) ≡ tally ((es ++ e ∷ []) ++ more) f = count_at (counts_of t) (tally (entries_of t.kept)) f ∙ ap (λ fs. tally fs f) split in
      let few = fate_within (counts_of t) w.counts f in
      omega (arith, n, one, front, all, few)

  pub over_read : IsOver x e → ⊥
  over_read (inl o) = over_table es x.table e more (entries_of t.kept) (subst (λ bs. IsTableOf bs x.table) (bindings_valid x.min_valid es) h.entries.shown) most are w.series w.texts o
  over_read (inr o) = over_count o

-- A record was counted and some of its entries were taken, and the next is over a limit: with the record, the content is past the limits.
pub over_entries : ColumnLaw → {t : Taken} {c : Content} → IsContentOf t c → (r : WalRecord) (fs : List Entry) (e : Entry) (more : List Entry) (x : Content) → entries_in (valid_in c.min_valid r) ≡ fs ++ e ∷ more
    → Takes (record c { counts = with_expired c.min_valid r (with_record r c.counts) }) fs x → x.table.most ≡ 4294967295 → IsOver x e → IsWithinLimits (taken_after c.min_valid t r) → ⊥
over_entries law {t} {c} h r fs e more x k takes most o w =
    let m = c.min_valid in
    let next = taken_after m t r in
    let from = subst (All (IsFrom m)) k (valid_all_from m r) in
    let here = all_front (IsFrom m) (e ∷ []) more (all_behind (IsFrom m) fs (e ∷ more) from) in
    over_read law (counts_of next) (takes_read law (counts_of next) fs (all_front (IsFrom m) fs (e ∷ more) from) (counted_read h r) takes)
    most e (subst (λ z. IsFrom z e) (sym (takes_time fs takes)) (here 0 e (omega arith))) more next (entries_split t.kept (valid_in m r) fs e more k) w o

-- A record's count of its class, or of its expired entries, has no room: with the record, the content is past the limits.
pub over_record : {t : Taken} {c : Content} → IsContentOf t c → (r : WalRecord) → (count_of_class r c.counts ≡ 18446744073709551615) ⊎ IsExpiredOver c.min_valid r c.counts → IsWithinLimits (taken_after c.min_valid t r) → ⊥
over_record {t} {c} h r (inl o) w =
    let m = c.min_valid in
    class_past m t r (tally (entries_of t.kept)) (tally (entries_of (taken_after m t r).kept)) (sym (ap (count_of_class r) h.counted) ∙ o) (class_within (counts_of (taken_after m t r)) w.counts r)
over_record {t} {c} h r (inr (inl o)) w = let few = w.counts.expired_samples in let is = ap (λ (n : Counts). n.expired_samples) h.counted in omega (arith, few, is, o)
over_record {t} {c} h r (inr (inr o)) w = let few = w.counts.expired_stones in let is = ap (λ (n : Counts). n.expired_stones) h.counted in omega (arith, few, is, o)

-- A content that the head can show is within the limits.
pub within_limits : (t : Taken) (c : Content) → IsContentOf t c → length c.table.series ≤ 4294967295 → length c.table.texts ≤ 4294967295 → AreCountsWithin c.counts → IsWithinLimits t
within_limits t c h few_series few_texts few_counts = record {
  series = subst (λ ss. length ss ≤ 4294967295) (h.entries.shown.series ∙ ap series_of same) few_series;
  texts = subst (λ ts. length ts ≤ 4294967295) (h.entries.shown.texts ∙ ap (λ ss. distinct same_text (flat_map texts_of ss)) (h.entries.shown.series ∙ ap series_of same)) few_texts;
  counts = subst AreCountsWithin h.counted few_counts;
} where
  same : bindings (entries_of (valid c.min_valid t.kept)) ≡ bindings (entries_of t.kept)
  same = ap bindings (valid_entries c.min_valid t.kept) ∙ bindings_valid c.min_valid (entries_of t.kept)
