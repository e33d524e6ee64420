-- Bindings that are made ahead of the records before them.
use Rattle.std.proofs.Common.{◌≡◌, ℕ, ◌+◌, ◌<◌, ◌≤◌, List, [], ◌∷◌, ◌++◌, Option, Some, None, ap, sym, subst, ◌∙◌, refl, arith, append_assoc, length, take, drop, get_or}
use Rattle.std.specs.Prelude.{map, IfSome}
use Rattle.std.specs.List.{flat_map}
use Rattle.std.proofs.lemmas.List.{take-append-drop, take_more, drop_more, map-append}
use Rattle.std.proofs.lemmas.List.Concat.{flat_map-append}
use Rattle.std.proofs.lemmas.List.Elements.{All-push}
use Rattle.hw_bytes.specs.Lists.{distinct}
use Rattle.hw_bytes.proofs.Lists.{append_none, map_push}
use Rattle.wal_record.specs.declared.record.SampleEntry.{SampleEntry}
use Rattle.wal_record.specs.declared.record.SeriesEntry.{SeriesEntry}
use Rattle.wal_record.specs.declared.record.StoneEntry.{StoneEntry}
use Rattle.wal_record.specs.declared.record.WalRecord.{WalRecord}
use Rattle.wal_record.specs.Labels.{same_text}
use Rattle.wal_record.specs.Entries.{Entry, series, sample, stone, entries_in, entries_of}
use Rattle.wal_record.specs.Validity.{series_in}
use Rattle.head_series.specs.Table.{Table, slot_at, IsFull}
use Rattle.head_series.specs.Texts.{texts_of}
use Rattle.head_series.specs.Bindings.{Binding, IsTableOf, series_of}
use Rattle.head_resolver.specs.Owners.{binding, bindings}
use Rattle.head_resolver.specs.Taken.{Taken, taken_with}
use Rattle.head_resolver.specs.Resolved.{ResolverValue, known_counts_of, slot_behind, IsResolvable, IsResolved}
use Rattle.head_resolver.specs.Changes.{Change, changes_of, placed_series, AreBelow}
use Rattle.head_resolver.specs.Ahead.{AreFew, IsAhead}
use Rattle.head_resolver.proofs.Counting.{entries_of-push}
use Rattle.head_resolver.proofs.Entries.{bindings_append, bindings_push, one_is_some}
use Rattle.head_resolver.proofs.Limits.{over_table}
use Rattle.head_resolver.proofs.SpreadAhead.{kept_bind}
use Rattle.head_resolver.proofs.Whole.{taken_nothing}
use Rattle.head_resolver.proofs.Windows.{bind_alike, changes_both, changes_same, entries_at, placed_bind, placed_both, table_slots}

-- ---- the entries that a loop has bound, and the one that it binds

entries_here : (n : ℕ) (xs : List SeriesEntry) → entries_at (map (λ x. (n, x)) xs) ≡ map series xs
entries_here n [] = refl
entries_here n (x ∷ xs) = ap (λ fs. series x ∷ fs) (entries_here n xs)

module _ (es : List Entry) (place : ℕ) (xs : List SeriesEntry) (i : ℕ) (x : SeriesEntry) (within : i < length xs) (at : x ≡ get_or xs i x) (t : Table) (h : IsTableOf (bindings (es ++ map series (take i xs))) t) where
  grown : take (i + 1) xs ≡ take i xs ++ x ∷ []
  grown = take_more xs i x within ∙ ap (λ y. take i xs ++ y ∷ []) (sym at)

  pub table_bound : (u : Table) → ((bs : List Binding) → IsTableOf bs t → IsTableOf (bs ++ binding (series x)) u) → IsTableOf (bindings (es ++ map series (take (i + 1) xs))) u
  table_bound u more =
      subst (λ bs. IsTableOf bs u)
      (sym (
      ap (λ ys. bindings (es ++ map series ys)) grown
      ∙ ap (λ fs. bindings (es ++ fs)) (map_push series (take i xs) x)
      ∙ ap bindings (sym (append_assoc es (map series (take i xs)) (series x ∷ [])))
      ∙ bindings_push (es ++ map series (take i xs)) (series x)
      ))
      (more (bindings (es ++ map series (take i xs))) h)

  pub changes_noted : (old now new : List Change) → now ≡ old ++ changes_of es (map (λ e. (place, e)) (take i xs)) → new ≡ now ++ record { reference = x.reference; place = place; before = slot_at t x.reference } ∷ []
      → new ≡ old ++ changes_of es (map (λ e. (place, e)) (take (i + 1) xs))
  changes_noted old now new before noted =
      let ds : List (ℕ × SeriesEntry) = map (λ e. (place, e)) (take i xs) in
      let one : Option ℕ → Change = λ o. record { reference = x.reference; place = place; before = o } in
      let slot : slot_at t x.reference ≡ slot_behind (es ++ entries_at ds) x.reference =
      table_slots (es ++ map series (take i xs)) t x.reference h ∙ ap (λ fs. slot_behind (es ++ fs) x.reference) (sym (entries_here place (take i xs))) in
      noted
      ∙ ap (λ cs. cs ++ one (slot_at t x.reference) ∷ []) before
      ∙ append_assoc old (changes_of es ds) (one (slot_at t x.reference) ∷ [])
      ∙ ap (λ o. old ++ (changes_of es ds ++ one o ∷ [])) slot
      ∙ ap (λ cs. old ++ cs) (sym (changes_both es ds ((place, x) ∷ [])))
      ∙ ap (λ gs. old ++ changes_of es gs) (sym (ap (map (λ e. (place, e))) grown ∙ map_push (λ (e : SeriesEntry). (place, e)) (take i xs) x))

  pub bound_stopped : (more : List Entry) → IsFull t x.labels → t.most ≡ 4294967295 → AreFew (es ++ (map series xs ++ more)) → ⊥
  bound_stopped more full most few =
      let rest : List Entry = map series (drop (i + 1) xs) ++ more in
      let split : map series xs ≡ map series (take i xs) ++ series x ∷ map series (drop (i + 1) xs) =
      ap (map series) (sym (take-append-drop i xs) ∙ ap (λ ys. take i xs ++ ys) (drop_more xs i x within ∙ ap (λ y. y ∷ drop (i + 1) xs) (sym at))) ∙ map-append series (take i xs) (x ∷ drop (i + 1) xs) in
      let are : es ++ (map series xs ++ more) ≡ (es ++ map series (take i xs)) ++ series x ∷ rest =
      ap (λ fs. es ++ (fs ++ more)) split ∙ ap (λ fs. es ++ fs) (append_assoc (map series (take i xs)) (series x ∷ map series (drop (i + 1) xs)) more) ∙ sym (append_assoc es (map series (take i xs)) (series x ∷ rest)) in
      over_table (es ++ map series (take i xs)) t (series x) rest (es ++ (map series xs ++ more)) h most are few.series few.texts full

pub below_noted : (n m : ℕ) (cs : List Change) (c : Change) → AreBelow n cs → IfSome c.before (λ s. s < m) → m ≤ n → AreBelow n (cs ++ c ∷ [])
below_noted n m cs c below here few = All-push (λ (d : Change). IfSome d.before (λ s. s < n)) cs c below (by c.before here) where
  by : (o : Option ℕ) → IfSome o (λ s. s < m) → IfSome o (λ s. s < n)
  by None k = tt
  by (Some s) k = omega (arith, k, few)

-- ---- the series entries of a record

pub series_alone : (xs : List SeriesEntry) → flat_map series_in (map series xs) ≡ xs
series_alone [] = refl
series_alone (x ∷ xs) = ap (λ ys. x ∷ ys) (series_alone xs)

pub none_in_samples : (xs : List SampleEntry) → flat_map series_in (map sample xs) ≡ []
none_in_samples [] = refl
none_in_samples (x ∷ xs) = none_in_samples xs

pub none_in_stones : (xs : List StoneEntry) → flat_map series_in (map stone xs) ≡ []
none_in_stones [] = refl
none_in_stones (x ∷ xs) = none_in_stones xs

-- ---- one record more of the window

-- what the places of some records say of the bindings after others
placed_alike : (es : List Entry) (rs : List WalRecord) → bindings (es ++ entries_of rs) ≡ bindings (es ++ entries_at (placed_series 0 rs))
placed_alike es rs = bindings_append es (entries_of rs) ∙ ap (λ bs. bindings es ++ bs) (sym (placed_bind 0 rs)) ∙ sym (bindings_append es (entries_at (placed_series 0 rs)))

bound_with : (es : List Entry) (rs : List WalRecord) (r : WalRecord) → bindings (es ++ entries_of (rs ++ r ∷ [])) ≡ bindings ((es ++ entries_of rs) ++ map series (flat_map series_in (entries_in r)))
bound_with es rs r =
    ap (λ gs. bindings (es ++ gs)) (entries_of-push rs r)
    ∙ ap bindings (sym (append_assoc es (entries_of rs) (entries_in r)))
    ∙ bindings_append (es ++ entries_of rs) (entries_in r)
    ∙ ap (λ bs. bindings (es ++ entries_of rs) ++ bs) (sym (bind_alike (entries_in r)))
    ∙ sym (bindings_append (es ++ entries_of rs) (map series (flat_map series_in (entries_in r))))

changes_with : (es : List Entry) (rs : List WalRecord) (r : WalRecord) (place : ℕ) → place ≡ length rs
    → changes_of es (placed_series 0 rs) ++ changes_of (es ++ entries_of rs) (map (λ e. (place, e)) (flat_map series_in (entries_in r))) ≡ changes_of es (placed_series 0 (rs ++ r ∷ []))
changes_with es rs r place at =
    let front : List Change = changes_of es (placed_series 0 rs) in
    let here : ℕ → List (ℕ × SeriesEntry) = λ k. map (λ e. (k, e)) (flat_map series_in (entries_in r)) in
    let where_is : place ≡ 0 + length rs = omega (arith, at) in
    ap (λ k. front ++ changes_of (es ++ entries_of rs) (here k)) where_is
    ∙ ap (λ cs. front ++ cs) (changes_same (es ++ entries_of rs) (es ++ entries_at (placed_series 0 rs)) (here (0 + length rs)) (placed_alike es rs))
    ∙ ap (λ ds. front ++ changes_of (es ++ entries_at (placed_series 0 rs)) ds) (sym (append_none (here (0 + length rs))))
    ∙ sym (changes_both es (placed_series 0 rs) (here (0 + length rs) ++ []))
    ∙ ap (changes_of es) (sym (placed_both 0 rs (r ∷ [])))

module _ (t : Taken) (front back : List WalRecord) (cs : List Change) (v : ResolverValue) (h : IsAhead t front back cs v) (r : WalRecord) where
  pub ahead_bound : (place : ℕ) (ds : List Change) (w : ResolverValue) → w.min_valid ≡ v.min_valid → w.counts ≡ v.counts → place ≡ length (front ++ back)
      → IsTableOf (bindings ((entries_of t.kept ++ entries_of (front ++ back)) ++ map series (flat_map series_in (entries_in r)))) w.table
      → ds ≡ cs ++ changes_of (entries_of t.kept ++ entries_of (front ++ back)) (map (λ e. (place, e)) (flat_map series_in (entries_in r))) → IsAhead t front (back ++ r ∷ []) ds w
  ahead_bound place ds w time counts at shown noted =
      let es : List Entry = entries_of t.kept in
      record {
        shown = subst (λ bs. IsTableOf bs w.table) (sym (ap (λ qs. bindings (es ++ entries_of qs)) (sym (append_assoc front back (r ∷ []))) ∙ bound_with es (front ++ back) r)) shown;
        changes_are =
            noted
            ∙ ap (λ (gs : List Change). gs ++ changes_of (es ++ entries_of (front ++ back)) (map (λ e. (place, e)) (flat_map series_in (entries_in r)))) h.changes_are
            ∙ changes_with es (front ++ back) r place at
            ∙ ap (λ qs. changes_of es (placed_series 0 qs)) (append_assoc front back (r ∷ []));
        counted = counts ∙ h.counted ∙ ap (λ m. known_counts_of (taken_with m t front)) (sym time);
      }

  -- within the limits there is room for its series entries
  pub ahead_few : IsResolvable (taken_with v.min_valid t ((front ++ back) ++ r ∷ [])) → AreFew ((entries_of t.kept ++ entries_of (front ++ back)) ++ (map series (flat_map series_in (entries_in r)) ++ []))
  ahead_few w =
      let xs : List Entry = map series (flat_map series_in (entries_in r)) in
      let same =
      kept_bind v.min_valid t ((front ++ back) ++ r ∷ [])
      ∙ bound_with (entries_of t.kept) (front ++ back) r
      ∙ ap (λ fs. bindings ((entries_of t.kept ++ entries_of (front ++ back)) ++ fs)) (sym (append_none xs)) in
      record {
        series = subst (λ (bs : List Binding). length (series_of bs) ≤ 4294967295) same w.series;
        texts = subst (λ (bs : List Binding). length (distinct same_text (flat_map texts_of (series_of bs))) ≤ 4294967295) same w.texts;
      }

-- ---- the ends of a window

-- no record of it yet
pub ahead_none : (t : Taken) (v : ResolverValue) → IsResolved t v → IsAhead t [] [] [] v
ahead_none t v h = record {
  shown = subst (λ es. IsTableOf (bindings es) v.table) (sym (append_none (entries_of t.kept))) h.shown;
  changes_are = refl;
  counted = h.counted ∙ ap known_counts_of (sym (taken_nothing v.min_valid t));
}

-- all of it taken
pub ahead_done : (t : Taken) (rs : List WalRecord) (cs : List Change) (v : ResolverValue) → IsAhead t rs [] cs v → IsResolved (taken_with v.min_valid t rs) v
ahead_done t rs cs v h = record {
  shown = subst (λ bs. IsTableOf bs v.table) (ap (λ qs. bindings (entries_of t.kept ++ entries_of qs)) (append_none rs) ∙ sym (kept_bind v.min_valid t rs)) h.shown;
  counted = h.counted;
}

none_placed : (ds : List (ℕ × SeriesEntry)) → bindings (entries_at ds) ≡ [] → ds ≡ []
none_placed [] e = refl
none_placed (d ∷ ds) e = absurd (one_is_some _ (bindings (entries_at ds)) e)

-- records that bind nothing
pub ahead_quiet : (t : Taken) (front back rs : List WalRecord) (cs : List Change) (v : ResolverValue) → IsAhead t front back cs v → bindings (entries_of rs) ≡ [] → IsAhead t front (back ++ rs) cs v
ahead_quiet t front back rs cs v h quiet =
    let es : List Entry = entries_of t.kept in
    let fs : List Entry = entries_of (front ++ back) in
    let all : front ++ (back ++ rs) ≡ (front ++ back) ++ rs = sym (append_assoc front back rs) in
    let none : placed_series (0 + length (front ++ back)) rs ≡ [] = none_placed (placed_series (0 + length (front ++ back)) rs) (placed_bind (0 + length (front ++ back)) rs ∙ quiet) in
    let bound : bindings (es ++ entries_of (front ++ (back ++ rs))) ≡ bindings (es ++ fs) =
    ap (λ qs. bindings (es ++ entries_of qs)) all
    ∙ ap (λ gs. bindings (es ++ gs)) (flat_map-append entries_in (front ++ back) rs)
    ∙ ap bindings (sym (append_assoc es fs (entries_of rs)))
    ∙ bindings_append (es ++ fs) (entries_of rs)
    ∙ ap (λ bs. bindings (es ++ fs) ++ bs) quiet
    ∙ append_none (bindings (es ++ fs)) in
    let placed : placed_series 0 (front ++ (back ++ rs)) ≡ placed_series 0 (front ++ back) =
    ap (placed_series 0) all ∙ placed_both 0 (front ++ back) rs ∙ ap (λ ds. placed_series 0 (front ++ back) ++ ds) none ∙ append_none (placed_series 0 (front ++ back)) in
    record {
      shown = subst (λ bs. IsTableOf bs v.table) (sym bound) h.shown;
      changes_are = h.changes_are ∙ ap (changes_of es) (sym placed);
      counted = h.counted;
    }

-- only the table, the counts and the least valid time count
pub ahead_like : (t : Taken) (front back : List WalRecord) (cs : List Change) (v w : ResolverValue) → w.table ≡ v.table → w.counts ≡ v.counts → w.min_valid ≡ v.min_valid → IsAhead t front back cs v → IsAhead t front back cs w
ahead_like t front back cs v w table counts time h = record {
  shown = subst (λ (u : Table). IsTableOf (bindings (entries_of t.kept ++ entries_of (front ++ back))) u) (sym table) h.shown;
  changes_are = h.changes_are;
  counted = counts ∙ h.counted ∙ ap (λ m. known_counts_of (taken_with m t front)) (sym time);
}
