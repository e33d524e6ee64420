-- What is shown of the entries and of one entry more.
use Rattle.std.proofs.Common.{◌≡◌, ℕ, ℤ, Bool, true, false, List, [], ◌∷◌, ◌++◌, Some, None, Option, ap, sym, subst, ◌∙◌, refl, length, ◌+◌, arith}
use Rattle.std.specs.Prelude.{slice_get, if◌then◌else◌}
use Rattle.std.specs.Option.{option_and_then}
use Rattle.hw_bytes.proofs.Lists.{along-push, append_none, fold-push}
use Rattle.wal_record.specs.declared.record.SeriesEntry.{SeriesEntry}
use Rattle.wal_record.specs.declared.record.SampleEntry.{SampleEntry}
use Rattle.wal_record.specs.declared.record.StoneEntry.{StoneEntry}
use Rattle.wal_record.specs.Labels.{same_labels}
use Rattle.wal_record.specs.Entries.{Entry, series, sample, stone}
use Rattle.wal_record.proofs.Equality.{labels_same}
use Rattle.head_column.specs.declared.items.Item.{Item}
use Rattle.head_column.specs.Times.{later, greatest}
use Rattle.head_column.specs.Histories.{IsHistoryOf, no_history, history_after}
use Rattle.head_series.specs.Table.{has_series, slot_at}
use Rattle.head_series.specs.Bindings.{IsTableOf, series_of}
use Rattle.head_postings.specs.Postings.{Lists, IsPostingsOf}
use Rattle.head_resolver.specs.Owners.{binding, bindings, owner}
use Rattle.head_resolver.specs.Counts.{Fate, accepted, sample_item, stone_item, with_owner, known_at, fate_at, time_at, accepted_times, items_of}
use Rattle.head_resolver.proofs.Known.{series_of-push, bindings-push, label_sets, no_items_of, items_of-none, items_of-own, items_of-other}
use Rattle.head_resolver.proofs.Lists.{AllZip-changed, AreApart-distinct}
use Rattle.head_core.specs.Content.{Content, IsShownBy, AreHistoriesOf, by_slot}
use Rattle.head_core.specs.Steps.{ColumnLaw, found, told, put_item, histories_after, max_item, max_after, ArePosted, IsStep}
use Rattle.head_core.proofs.Lists.{AllZip-weaker, AllZip-one_more, enumerate_from-push}
use Rattle.head_core.proofs.Shown.{stands, unowned, told_is}

-- the accepted times, with one entry more
accepted_times-push : (es : List Entry) (e : Entry) → accepted_times (es ++ e ∷ []) ≡ accepted_times es ++ time_at (fate_at es e) e
accepted_times-push es e = along-push (λ before f. time_at (fate_at before f) f) es e

sample_time : (ts : List ℤ) (f : Fate) (s : SampleEntry) → greatest (ts ++ time_at f (sample s)) ≡ max_item f (sample_item s) (greatest ts)
sample_time ts accepted s = fold-push later None ts s.time
sample_time ts f s = ap greatest (append_none ts)

stone_time : (ts : List ℤ) (f : Fate) (d : StoneEntry) → greatest (ts ++ time_at f (stone d)) ≡ max_item f (stone_item d) (greatest ts)
stone_time ts accepted d = ap greatest (append_none ts)
stone_time ts f d = ap greatest (append_none ts)

module _ (law : ColumnLaw) {es : List Entry} {c : Content} (h : IsShownBy es c) where
  max_is : (e : Entry) → max_after c.table c.histories c.max_time e ≡ greatest (accepted_times (es ++ e ∷ []))
  max_is (series e) = h.greatest_time ∙ ap greatest (sym (accepted_times-push es (series e) ∙ append_none (accepted_times es)))
  max_is (sample s) =
      ap (max_item (told c.table c.histories (sample s)) (sample_item s)) h.greatest_time
      ∙ ap (λ f. max_item f (sample_item s) (greatest (accepted_times es))) (told_is h law (sample s))
      ∙ sym (ap greatest (accepted_times-push es (sample s)) ∙ sample_time (accepted_times es) (fate_at es (sample s)) s)
  max_is (stone d) =
      ap (max_item (told c.table c.histories (stone d)) (stone_item d)) h.greatest_time
      ∙ ap (λ f. max_item f (stone_item d) (greatest (accepted_times es))) (told_is h law (stone d))
      ∙ sym (ap greatest (accepted_times-push es (stone d)) ∙ stone_time (accepted_times es) (fate_at es (stone d)) d)

  -- an entry that brings no item changes no history
  same_histories : (e : Entry) → known_at es e ≡ [] → AreHistoriesOf (es ++ e ∷ []) (series_of (bindings es)) c.histories
  same_histories e k =
      AllZip-weaker (λ l x. IsHistoryOf (items_of l es) x) (λ l x. IsHistoryOf (items_of l (es ++ e ∷ [])) x)
      (λ l x p. subst (λ is. IsHistoryOf is x) (sym (items_of-none l es e k)) p)
      (series_of (bindings es)) c.histories h.histories

  -- the histories and the series, with a series entry more
  more_series : (e : SeriesEntry) → series_of (bindings (es ++ series e ∷ [])) ≡ series_of (bindings es) ++ (if has_series c.table.series e.labels then [] else e.labels ∷ [])
  more_series e =
      ap series_of (bindings-push es (series e))
      ∙ series_of-push (bindings es) (record { reference = e.reference; labels = e.labels })
      ∙ ap (λ ss. series_of (bindings es) ++ (if has_series ss e.labels then [] else e.labels ∷ [])) (sym h.shown.series)

  series_histories : (e : SeriesEntry) → AreHistoriesOf (es ++ series e ∷ []) (series_of (bindings (es ++ series e ∷ []))) (histories_after c.table c.histories (series e))
  series_histories e =
      subst (λ ls. AreHistoriesOf (es ++ series e ∷ []) ls (histories_after c.table c.histories (series e))) (sym (more_series e))
      (by (has_series c.table.series e.labels) refl)
    where
      by : (b : Bool) → has_series c.table.series e.labels ≡ b
          → AreHistoriesOf (es ++ series e ∷ []) (series_of (bindings es) ++ (if b then [] else e.labels ∷ [])) (if b then c.histories else c.histories ++ no_history ∷ [])
      by true f = subst (λ ls. AreHistoriesOf (es ++ series e ∷ []) ls c.histories) (sym (append_none (series_of (bindings es)))) (same_histories (series e) refl)
      by false f =
          AllZip-one_more (λ l x. IsHistoryOf (items_of l (es ++ series e ∷ [])) x) (series_of (bindings es)) c.histories e.labels no_history
          (same_histories (series e) refl)
          (subst (λ is. IsHistoryOf is no_history) (sym (items_of-none e.labels es (series e) refl ∙ none)) law.start)
        where
          none : items_of e.labels es ≡ []
          none = no_items_of es e.labels (ap (λ ss. has_series ss e.labels) (sym h.shown.series) ∙ f)

  series_postings : (e : SeriesEntry) (q : Lists) → ArePosted c.table c.postings e.labels q → IsPostingsOf (by_slot (series_of (bindings (es ++ series e ∷ [])))) q
  series_postings e q k = subst (λ ls. IsPostingsOf (by_slot ls) q) (sym (more_series e)) (by (has_series c.table.series e.labels) refl) where
    by : (b : Bool) → has_series c.table.series e.labels ≡ b → IsPostingsOf (by_slot (series_of (bindings es) ++ (if b then [] else e.labels ∷ []))) q
    by true f =
        subst (λ ls. IsPostingsOf (by_slot ls) q) (sym (append_none (series_of (bindings es))))
        (subst (λ p. IsPostingsOf (by_slot (series_of (bindings es))) p) (sym (k.known f)) h.postings)
    by false f =
        let same = ap length h.shown.series in
        let slot : length c.table.series ≡ 0 + length (series_of (bindings es)) = omega (arith, same) in
        subst (λ ss. IsPostingsOf ss q)
        (ap (λ n. by_slot (series_of (bindings es)) ++ (n, e.labels) ∷ []) slot ∙ sym (enumerate_from-push 0 (series_of (bindings es)) e.labels))
        (k.new f (by_slot (series_of (bindings es))) h.postings)

  -- one item more, by the slot of its reference
  item_histories : (e : Entry) (r : ℕ) (i : Item) → known_at es e ≡ with_owner (owner es r) i
      → AreHistoriesOf (es ++ e ∷ []) (series_of (bindings es)) (put_item (slot_at c.table r) (found c.table c.histories r) i c.histories)
  item_histories e r i known = by (slot_at c.table r) refl where
    by : (o : Option ℕ) → slot_at c.table r ≡ o → AreHistoriesOf (es ++ e ∷ []) (series_of (bindings es)) (put_item o (option_and_then (slice_get c.histories) o) i c.histories)
    by None k = same_histories e (known ∙ ap (λ o. with_owner o i) (unowned h r k))
    by (Some p) k =
        let s = stands h r p k in
        let own : known_at es e ≡ (s.labels, i) ∷ [] = known ∙ ap (λ o. with_owner o i) s.owned in
        subst (λ o. AreHistoriesOf (es ++ e ∷ []) (series_of (bindings es)) (put_item (Some p) o i c.histories)) (sym s.here)
        (AllZip-changed same_labels labels_same (λ l x. IsHistoryOf (items_of l es) x) (λ l x. IsHistoryOf (items_of l (es ++ e ∷ [])) x) s.labels
        (λ l x other made. subst (λ is. IsHistoryOf is x) (sym (items_of-other l es e s.labels i own other)) made)
        (series_of (bindings es)) c.histories p (history_after s.history i)
        (AreApart-distinct same_labels labels_same (label_sets (bindings es))) s.there
        (subst (λ is. IsHistoryOf is (history_after s.history i)) (sym (items_of-own s.labels es e i own)) (law.push (items_of s.labels es) s.history i s.made))
        h.histories)

  same_bindings : (e : Entry) → binding e ≡ [] → bindings (es ++ e ∷ []) ≡ bindings es
  same_bindings e k = bindings-push es e ∙ ap (λ bs. bindings es ++ bs) k ∙ append_none (bindings es)

  -- what is shown after an entry that brings an item to a reference
  shown_item : (e : Entry) (r : ℕ) (i : Item) (d : Content) → binding e ≡ [] → known_at es e ≡ with_owner (owner es r) i
      → d.table ≡ c.table → d.histories ≡ put_item (slot_at c.table r) (found c.table c.histories r) i c.histories → d.postings ≡ c.postings → d.max_time ≡ max_after c.table c.histories c.max_time e
      → IsShownBy (es ++ e ∷ []) d
  shown_item e r i d binds known table histories postings greatest_is = record {
    shown = subst (λ bs. IsTableOf bs d.table) (sym (same_bindings e binds)) (subst (λ t. IsTableOf (bindings es) t) (sym table) h.shown);
    histories =
        subst (λ bs. AreHistoriesOf (es ++ e ∷ []) (series_of bs) d.histories) (sym (same_bindings e binds))
        (subst (λ hs. AreHistoriesOf (es ++ e ∷ []) (series_of (bindings es)) hs) (sym histories) (item_histories e r i known));
    postings =
        subst (λ bs. IsPostingsOf (by_slot (series_of bs)) d.postings) (sym (same_bindings e binds))
        (subst (λ p. IsPostingsOf (by_slot (series_of (bindings es))) p) (sym postings) h.postings);
    greatest_time = greatest_is ∙ max_is e;
  }

  -- One entry more: what is shown after it is what the entries with it say.
  pub shown_more : (e : Entry) (d : Content) → IsStep c e d → IsShownBy (es ++ e ∷ []) d
  shown_more (series e) d s = record {
    shown = subst (λ bs. IsTableOf bs d.table) (sym (bindings-push es (series e))) (s.table (bindings es) h.shown);
    histories = subst (λ hs. AreHistoriesOf (es ++ series e ∷ []) (series_of (bindings (es ++ series e ∷ []))) hs) (sym s.histories) (series_histories e);
    postings = series_postings e d.postings s.postings;
    greatest_time = s.greatest ∙ max_is (series e);
  }
  shown_more (sample x) d s = shown_item (sample x) x.reference (sample_item x) d refl refl s.table s.histories s.postings s.greatest
  shown_more (stone x) d s = shown_item (stone x) x.reference (stone_item x) d refl refl s.table s.histories s.postings s.greatest
