-- What is kept while rows are judged: at the start, after one row more, and at the end.
use Rattle.std.proofs.Common.{◌≡◌, ◌≢◌, ℕ, zero, suc, ◌+◌, ◌<◌, ◌≤◌, ◌^◌, Bool, true, false, List, [], ◌∷◌, ◌++◌, Option, Some, None, ap, ap₂, sym, subst, ◌∙◌, refl, arith, length, length-append, set, get_or, take, drop}
use Rattle.std.specs.Prelude.{ℤ, ◌≤ℤ◌, ◌||◌, All, int_le, int_lt, map, nat_lt, if◌then◌else◌}
use Rattle.std.specs.List.{list_any}
use Rattle.std.specs.Option.{IfSome, option_and_then}
use Rattle.std.proofs.lemmas.Bool.Decides.{nat_tests}
use Rattle.std.proofs.lemmas.Int.{ints}
use Rattle.std.proofs.lemmas.List.{append-nil, get_or-set_other, get_or-set_same, length-set, map-append, set-get_or, take-append-drop, take_more}
use Rattle.std.proofs.lemmas.Option.{get_or_from_slice_get, slice_get_read, unwrap_or-slice_get}
use Rattle.std.proofs.lemmas.List.Elements.{All-append, All-cons, All-map, All-nil}
use Rattle.hw_bytes.specs.Lists.{or_else}
use Rattle.wal_record.specs.declared.record.SeriesEntry.{SeriesEntry}
use Rattle.wal_record.specs.declared.record.SampleEntry.{SampleEntry}
use Rattle.wal_record.specs.Labels.{Labels, same_labels}
use Rattle.head_column.specs.Times.{greatest, reaches}
use Rattle.head_series.specs.Texts.{place}
use Rattle.head_series.specs.Table.{IsLeast, after}
use Rattle.head_core.specs.Content.{Content}
use Rattle.head_live.specs.declared.judging.Standing.{Standing}
use Rattle.head_live.specs.declared.verdict.Verdict.{Verdict}
use Rattle.head_live.specs.declared.verdict.Verdict.TheVariants.{Accepted, Stale, Expired}
use Rattle.head_live.specs.declared.prepared.PreparedRow.{PreparedRow}
use Rattle.head_live.specs.Rows.{Row}
use Rattle.head_live.specs.Sets.{ArePlaced, with_set}
use Rattle.head_live.specs.Verdicts.{accepted, is_accepted, is_stale, times_of, verdict_on, verdicts}
use Rattle.head_live.specs.Batch.{AreReferences, AreSpent, first_reference, following, is_missing, new_sets, owner_in, sample_of, series_from}
use Rattle.head_live.specs.Judged.{AreStarts, IsBatch, Judges, no_standing, entry_after, entry_by, given, is_refused, known_in, left_by, next_after, sample_after, sample_by, small, standing_after, standing_at, verdict_after}
use Rattle.head_live.proofs.SetLemmas.{along-push, at_place, neither, one_at, place_within, same_exact, same_self}
use Rattle.head_live.proofs.TimeLemmas.{one_time, past_accepted, past_expired, past_stale, reaches_greatest}
use Rattle.head_live.proofs.RowLemmas.{given_kept, given_last, given_other, given_value, new_front, new_kept, new_more, samples_kept, series_from-push, small_is, small_none, times_push}
use Rattle.head_live.proofs.AcceptedRows.{all_accepted}

abbrev sample_with : ℕ → Row → SampleEntry
sample_with n r = record { reference = n; time = r.time; value = r.value }

abbrev entry_with : ℕ → Labels → SeriesEntry
entry_with n l = record { reference = n; labels = l }

abbrev standing_with : ℕ → ℤ → Standing
standing_with n t = record { reference = Some n; last = Some t }

module _ (c : Content) (sets : List Labels) (known : Labels → Option ℕ) where
  abbrev first : ℕ
  first = first_reference c

  -- with these new label sets the row's has a reference
  abbrev HasReference : List Labels → Row → Type 0
  HasReference new r = is_missing (given known first new r.labels) ≡ false

  -- the accepted rows by their other name
  judges_as : (before taken given : List Row) (ss : List Standing) (next : Option ℕ) (said : List Verdict) (series : List SeriesEntry) (samples : List SampleEntry)
      → taken ≡ given → Judges c sets known before taken ss next said series samples → Judges c sets known before given ss next said series samples
  judges_as before taken given ss next said series samples e j = subst (λ rs. Judges c sets known before rs ss next said series samples) e j

  -- a row that is not expired is stale just where what stands for its label set tells so
  stale_is : (before taken : List Row) (ss : List Standing) (next : Option ℕ) (said : List Verdict) (series : List SeriesEntry) (samples : List SampleEntry) (r : Row) (i : ℕ)
      → Judges c sets known before taken ss next said series samples → place (same_labels r.labels) sets ≡ Some i → c.min_valid ≤ℤ r.time → is_stale c before r ≡ reaches (standing_at ss i).last r.time
  stale_is before taken ss next said series samples r i j p valid = sym (j.lasts r.labels i p r.time valid)

  -- the verdict on a row is what its time, and what stands for its label set, tell
  pub verdict_is : (before taken : List Row) (ss : List Standing) (next : Option ℕ) (said : List Verdict) (series : List SeriesEntry) (samples : List SampleEntry) (r : Row) (i : ℕ)
      → Judges c sets known before taken ss next said series samples → place (same_labels r.labels) sets ≡ Some i → verdict_on c before r ≡ verdict_after c.min_valid (standing_at ss i) r.time
  verdict_is before taken ss next said series samples r i j p = at (int_lt r.time c.min_valid) refl where
    at : (b : Bool) → int_lt r.time c.min_valid ≡ b
        → (if b then Expired else (if is_stale c before r then Stale else Accepted)) ≡ (if b then Expired else (if reaches (standing_at ss i).last r.time then Stale else Accepted))
    at true e = refl
    at false e = ap (λ b. if b then Stale else Accepted) (stale_is before taken ss next said series samples r i j p (grind (arith, ints)))

  said_more : (before : List Row) (r : Row) (v : Verdict) → verdict_on c before r ≡ v → verdicts c (before ++ r ∷ []) ≡ verdicts c before ++ v ∷ []
  said_more before r v e = along-push (λ earlier q. verdict_on c earlier q ∷ []) before r ∙ ap (λ w. verdicts c before ++ w ∷ []) e

  pub accepted_more : (before : List Row) (r : Row) (v : Verdict) → verdict_on c before r ≡ v → accepted c (before ++ r ∷ []) ≡ accepted c before ++ (if is_accepted v then r ∷ [] else [])
  accepted_more before r v e =
      along-push (λ earlier q. if is_accepted (verdict_on c earlier q) then q ∷ [] else []) before r ∙ ap (λ w. accepted c before ++ (if is_accepted w then r ∷ [] else [])) e

  -- label sets that are equal have one place
  one_place : (l : Labels) (r : Row) (k i : ℕ) → place (same_labels l) sets ≡ Some k → place (same_labels r.labels) sets ≡ Some i → same_labels l r.labels ≡ true → k ≡ i
  one_place l r k i q p e = (let f : l ≡ r.labels = same_exact l r.labels e in let m : Some k ≡ Some i = sym q ∙ (ap (λ o. place (same_labels o) sets) f ∙ p) in cc)

  -- whether a time of the row's label set is at or past t, with the row
  times_same : (before : List Row) (r : Row) (l : Labels) (t : ℤ) → same_labels l r.labels ≡ true
      → list_any (int_le t) (times_of c (before ++ r ∷ []) l) ≡ (list_any (int_le t) (times_of c before l) || int_le t r.time)
  times_same before r l t h = ap (list_any (int_le t)) (times_push c before r l ∙ ap (λ b. times_of c before l ++ (if b then r.time ∷ [] else [])) h) ∙ one_time (times_of c before l) r.time t

  times_other : (before : List Row) (r : Row) (l : Labels) → same_labels l r.labels ≡ false → times_of c (before ++ r ∷ []) l ≡ times_of c before l
  times_other before r l h = times_push c before r l ∙ (ap (λ b. times_of c before l ++ (if b then r.time ∷ [] else [])) h ∙ append-nil (times_of c before l))

  -- ---- an expired or stale row

  judges_refused : (before taken : List Row) (ss : List Standing) (next : Option ℕ) (said : List Verdict) (series : List SeriesEntry) (samples : List SampleEntry) (r : Row) (i : ℕ) (v : Verdict)
      → Judges c sets known before taken ss next said series samples → place (same_labels r.labels) sets ≡ Some i → verdict_on c before r ≡ v → is_accepted v ≡ false
      → ((t : ℤ) → c.min_valid ≤ℤ t → (reaches (standing_at ss i).last t || int_le t r.time) ≡ reaches (standing_at ss i).last t)
      → Judges c sets known (before ++ r ∷ []) taken (set ss i (standing_at ss i)) next (said ++ v ∷ []) (series ++ []) (samples ++ [])
  judges_refused before taken ss next said series samples r i v j p is refused within =
      let same : set ss i (standing_at ss i) ≡ ss = set-get_or ss i _ in record {
        taken_are = j.taken_are ∙ (sym (append-nil (accepted c before)) ∙ (ap (λ b. accepted c before ++ (if b then r ∷ [] else [])) (sym refused) ∙ sym (accepted_more before r v is)));
        many = ap length same ∙ j.many;
        verdicts_are = ap (λ vs. vs ++ v ∷ []) j.verdicts_are ∙ sym (said_more before r v is);
        series_are = append-nil series ∙ j.series_are;
        samples_are = append-nil samples ∙ j.samples_are;
        next_is = j.next_is;
        enough = j.enough;
        named = j.named;
        references = λ l k q. ap (λ ts. (standing_at ts k).reference) same ∙ j.references l k q;
        lasts = λ l k q t valid. ap (λ ts. reaches (standing_at ts k).last t) same ∙ last l k q t valid (same_labels l r.labels) refl;
      } where
        last : (l : Labels) (k : ℕ) → place (same_labels l) sets ≡ Some k → (t : ℤ) → c.min_valid ≤ℤ t → (b : Bool) → same_labels l r.labels ≡ b
            → reaches (standing_at ss k).last t ≡ list_any (int_le t) (times_of c (before ++ r ∷ []) l)
        last l k q t valid false e = j.lasts l k q t valid ∙ ap (list_any (int_le t)) (sym (times_other before r l e))
        last l k q t valid true e =
            let here : reaches (standing_at ss k).last t ≡ reaches (standing_at ss i).last t = ap (λ n. reaches (standing_at ss n).last t) (one_place l r k i q p e) in
            here
            ∙ (sym (within t valid)
            ∙ (ap (λ b. b || int_le t r.time) (sym here ∙ j.lasts l k q t valid) ∙ sym (times_same before r l t e)))

  -- ---- an accepted row

  -- what an accepted row of this label set does to the new label sets
  record Grows (taken : List Row) (r : Row) (reference : ℕ) (new : List Labels) (next' : Option ℕ) (es : List SeriesEntry) : Type 0 where
    sets_are : new_sets known (taken ++ r ∷ []) ≡ new
    here : given known first new r.labels ≡ Some reference
    others : (l : Labels) → same_labels l r.labels ≡ false → given known first new l ≡ given known first (new_sets known taken) l
    stays : (l : Labels) → is_missing (given known first (new_sets known taken) l) ≡ false → is_missing (given known first new l) ≡ false
    samples_stay : map (sample_of known first new) taken ≡ map (sample_of known first (new_sets known taken)) taken
    series_are : series_from first new ≡ series_from first (new_sets known taken) ++ es
    next_is : next' ≡ small (first + length new)
    enough : first + length new ≤ 2 ^ 64

  judges_grown : (before taken : List Row) (ss : List Standing) (next : Option ℕ) (said : List Verdict) (series : List SeriesEntry) (samples : List SampleEntry) (r : Row) (i : ℕ)
      → Judges c sets known before taken ss next said series samples → place (same_labels r.labels) sets ≡ Some i → verdict_on c before r ≡ Accepted → reaches (standing_at ss i).last r.time ≡ false
      → (reference : ℕ) (new : List Labels) (next' : Option ℕ) (es : List SeriesEntry) → Grows taken r reference new next' es
      → Judges c sets known (before ++ r ∷ []) (taken ++ r ∷ []) (set ss i (standing_with reference r.time)) next' (said ++ Accepted ∷ []) (series ++ es)
      (samples ++ sample_with reference r ∷ [])
  judges_grown before taken ss next said series samples r i j p is h reference new next' es g =
      let within : i < length ss = (let w = place_within r.labels sets i p in let m = j.many in omega (arith, w, m)) in record {
        taken_are = ap (λ rs. rs ++ r ∷ []) j.taken_are ∙ sym (accepted_more before r Accepted is);
        many = length-set ss i _ ∙ j.many;
        verdicts_are = ap (λ vs. vs ++ Accepted ∷ []) j.verdicts_are ∙ sym (said_more before r Accepted is);
        series_are = ap (λ s. s ++ es) j.series_are ∙ (sym g.series_are ∙ ap (series_from first) (sym g.sets_are));
        samples_are =
            ap (λ s. s ++ sample_with reference r ∷ []) (j.samples_are ∙ sym g.samples_stay)
            ∙ (ap (λ (n : ℕ). map (sample_of known first new) taken ++ sample_with n r ∷ []) (sym (given_value known first new r.labels reference g.here))
            ∙ (sym (map-append (sample_of known first new) taken (r ∷ [])) ∙ ap (λ ls. map (sample_of known first ls) (taken ++ r ∷ [])) (sym g.sets_are)));
        next_is = g.next_is ∙ ap (λ ls. small (first + length ls)) (sym g.sets_are);
        enough = (let e = g.enough in subst (λ (ls : List Labels). first + length ls ≤ 2 ^ 64) (sym g.sets_are) e);
        named = subst (λ ls. All (λ (q : Row). is_missing (given known first ls q.labels) ≡ false) (taken ++ r ∷ [])) (sym g.sets_are)
            (All-append (HasReference new) taken (r ∷ []) (λ k d m. g.stays (get_or taken k d).labels (j.named k d m)) (All-cons (HasReference new) r [] (ap is_missing g.here) (All-nil (HasReference new))));
        references = λ l k q. subst (λ ls. (standing_at (set ss i (standing_with reference r.time)) k).reference ≡ given known first ls l) (sym g.sets_are) (named_at l k q within (same_labels l r.labels) refl);
        lasts = λ l k q t valid. last_at l k q within t valid (same_labels l r.labels) refl;
      } where
        apart : (l : Labels) (k : ℕ) → place (same_labels l) sets ≡ Some k → same_labels l r.labels ≡ false → k ≢ i
        apart l k q e m =
            let f : l ≡ r.labels = one_at l r.labels sets i (q ∙ ap Some m) p in
            let t : true ≡ false = sym (ap (λ o. same_labels o r.labels) f ∙ same_self r.labels) ∙ e in cc

        named_at : (l : Labels) (k : ℕ) → place (same_labels l) sets ≡ Some k → i < length ss → (b : Bool) → same_labels l r.labels ≡ b → (standing_at (set ss i (standing_with reference r.time)) k).reference ≡ given known first new l
        named_at l k q within true e =
            ap (λ (m : ℕ). (standing_at (set ss i (standing_with reference r.time)) m).reference) (one_place l r k i q p e)
            ∙ (ap (λ (s : Standing). s.reference) (get_or-set_same ss i (standing_with reference r.time) _ within) ∙ (sym g.here ∙ ap (given known first new) (sym (same_exact l r.labels e))))
        named_at l k q within false e = ap (λ (s : Standing). s.reference) (get_or-set_other ss i k (standing_with reference r.time) _ (apart l k q e)) ∙ (j.references l k q ∙ sym (g.others l e))

        last_at : (l : Labels) (k : ℕ) → place (same_labels l) sets ≡ Some k → i < length ss → (t : ℤ) → c.min_valid ≤ℤ t → (b : Bool) → same_labels l r.labels ≡ b
            → reaches (standing_at (set ss i (standing_with reference r.time)) k).last t ≡ list_any (int_le t) (times_of c (before ++ r ∷ []) l)
        last_at l k q within t valid true e =
            let k_is = one_place l r k i q p e in
            let old : reaches (standing_at ss i).last t ≡ list_any (int_le t) (times_of c before l) = ap (λ (n : ℕ). reaches (standing_at ss n).last t) (sym k_is) ∙ j.lasts l k q t valid in
            ap (λ (n : ℕ). reaches (standing_at (set ss i (standing_with reference r.time)) n).last t) k_is
            ∙ (ap (λ (s : Standing). reaches s.last t) (get_or-set_same ss i (standing_with reference r.time) _ within)
            ∙ (sym (past_accepted (standing_at ss i).last r.time t h) ∙ (ap (λ b. b || int_le t r.time) old ∙ sym (times_same before r l t e))))
        last_at l k q within t valid false e =
            ap (λ (s : Standing). reaches s.last t) (get_or-set_other ss i k (standing_with reference r.time) _ (apart l k q e)) ∙ (j.lasts l k q t valid ∙ ap (list_any (int_le t)) (sym (times_other before r l e)))

  -- the label set has a reference
  grows_known : (taken : List Row) (r : Row) (next : Option ℕ) (reference : ℕ) → given known first (new_sets known taken) r.labels ≡ Some reference
      → next ≡ small (first + length (new_sets known taken)) → first + length (new_sets known taken) ≤ 2 ^ 64 → Grows taken r reference (new_sets known taken) next []
  grows_known taken r next reference h n e = record {
    sets_are = new_kept known first taken r reference h;
    here = h;
    others = λ l k. refl;
    stays = λ l k. k;
    samples_stay = refl;
    series_are = sym (append-nil (series_from first (new_sets known taken)));
    next_is = n;
    enough = e;
  }

  -- the label set gets the next reference
  grows_new : (taken : List Row) (r : Row) (next : ℕ) → given known first (new_sets known taken) r.labels ≡ None → All (λ q. is_missing (given known first (new_sets known taken) q.labels) ≡ false) taken
      → Some next ≡ small (first + length (new_sets known taken)) → Grows taken r next (new_sets known taken ++ r.labels ∷ []) (small (next + 1)) (entry_with next r.labels ∷ [])
  grows_new taken r next h named n =
      let is = small_is (first + length (new_sets known taken)) next (sym n) in
      let new = new_sets known taken in
      let long = length-append new (r.labels ∷ []) in record {
        sets_are = new_more known first taken r h;
        here = given_last known first new r.labels h ∙ ap Some (sym is.0);
        others = λ l k. given_other known first new r.labels l k;
        stays = λ l k. kept l (given known first new l) refl k;
        samples_stay = samples_kept known first new r.labels taken named;
        series_are = series_from-push first new r.labels ∙ ap (λ (m : ℕ). series_from first new ++ entry_with m r.labels ∷ []) (sym is.0);
        next_is = ap small (let e = is.0 in omega (arith, e, long));
        enough = (let b = is.1 in omega (arith, b, long));
      } where
        kept : (l : Labels) (o : Option ℕ) → given known first (new_sets known taken) l ≡ o → is_missing o ≡ false → is_missing (given known first (new_sets known taken ++ r.labels ∷ []) l) ≡ false
        kept l None e k = cc
        kept l (Some q) e k = ap is_missing (given_kept known first (new_sets known taken) r.labels l q e)

  -- ---- one row more

  abbrev Behind : List Row → List Standing → List Verdict → List SeriesEntry → List SampleEntry → Row → ℕ → Standing → Option ℕ → Verdict → List SeriesEntry → List SampleEntry → Type 0
  Behind before ss said series samples r i t n v es xs = Judges c sets known (before ++ r ∷ []) (accepted c (before ++ r ∷ [])) (set ss i t) n (said ++ v ∷ []) (series ++ es) (samples ++ xs)

  pub judges_more : (before : List Row) (ss : List Standing) (next : Option ℕ) (said : List Verdict) (series : List SeriesEntry) (samples : List SampleEntry) (r : Row) (i : ℕ)
      → Judges c sets known before (accepted c before) ss next said series samples → place (same_labels r.labels) sets ≡ Some i
      → (is_refused c.min_valid (standing_at ss i) r.time ≡ false → is_missing (or_else (standing_at ss i).reference next) ≡ false)
      → Judges c sets known (before ++ r ∷ []) (accepted c (before ++ r ∷ [])) (set ss i (standing_after c.min_valid (standing_at ss i) next r.time)) (next_after c.min_valid (standing_at ss i) next r.time)
      (said ++ verdict_after c.min_valid (standing_at ss i) r.time ∷ []) (series ++ entry_after c.min_valid (standing_at ss i) next r.labels r.time)
      (samples ++ sample_after c.min_valid (standing_at ss i) next r.time r.value)
  judges_more before ss next said series samples r i j p some = at (int_lt r.time c.min_valid) (reaches (standing_at ss i).last r.time) refl refl where
    told : (a b : Bool) → int_lt r.time c.min_valid ≡ a → reaches (standing_at ss i).last r.time ≡ b → verdict_on c before r ≡ (if a then Expired else (if b then Stale else Accepted))
    told a b e h = verdict_is before (accepted c before) ss next said series samples r i j p ∙ ap₂ (λ x y. if x then Expired else (if y then Stale else Accepted)) e h

    by : (o n : Option ℕ) → (standing_at ss i).reference ≡ o → next ≡ n → is_missing (or_else o n) ≡ false → verdict_on c before r ≡ Accepted → reaches (standing_at ss i).last r.time ≡ false
        → Behind before ss said series samples r i (record { reference = or_else o n; last = Some r.time }) (left_by o n) Accepted (entry_by o n r.labels) (sample_by (or_else o n) r.time r.value)
    by (Some q) n e f k is h =
        let g = grows_known (accepted c before) r n q (sym (j.references r.labels i p) ∙ e) (sym f ∙ j.next_is) j.enough in
        let k = judges_grown before (accepted c before) ss next said series samples r i j p is h q _ n [] g in
        judges_as _ _ _ _ _ _ _ _ k.taken_are k
    by None None e f k is h = cc
    by None (Some m) e f k is h =
        let g = grows_new (accepted c before) r m (sym (j.references r.labels i p) ∙ e) j.named (sym f ∙ j.next_is) in
        let k = judges_grown before (accepted c before) ss next said series samples r i j p is h m _ (small (m + 1)) _ g in
        judges_as _ _ _ _ _ _ _ _ k.taken_are k

    at : (a b : Bool) → int_lt r.time c.min_valid ≡ a → reaches (standing_at ss i).last r.time ≡ b
        → Behind before ss said series samples r i (if a || b then standing_at ss i else record { reference = or_else (standing_at ss i).reference next; last = Some r.time })
        (if a || b then next else left_by (standing_at ss i).reference next) (if a then Expired else (if b then Stale else Accepted))
        (if a || b then [] else entry_by (standing_at ss i).reference next r.labels) (if a || b then [] else sample_by (or_else (standing_at ss i).reference next) r.time r.value)
    at true b e h =
        let k = judges_refused before (accepted c before) ss next said series samples r i Expired j p (told true b e h) refl (λ t valid. past_expired c.min_valid r.time t (reaches (standing_at ss i).last t) e valid) in
        judges_as _ _ _ _ _ _ _ _ k.taken_are k
    at false true e h =
        let k = judges_refused before (accepted c before) ss next said series samples r i Stale j p (told false true e h) refl (λ t valid. past_stale (standing_at ss i).last r.time t h) in
        judges_as _ _ _ _ _ _ _ _ k.taken_are k
    at false false e h = by (standing_at ss i).reference next refl refl (some (ap₂ (λ x y. x || y) e h)) (told false false e h) h

-- ---- the start

or_none : (o : Option ℕ) → o ≡ or_else o None
or_none None = refl
or_none (Some n) = refl

next_start : (g : Option ℕ) → IfSome g (λ n. n < 2 ^ 64) → after g ≡ small (following g + 0)
next_start None h = refl
next_start (Some n) h = at (nat_lt n 18446744073709551615) (nat_lt ((n + 1) + 0) (2 ^ 64)) refl refl where
  at : (a b : Bool) → nat_lt n 18446744073709551615 ≡ a → nat_lt ((n + 1) + 0) (2 ^ 64) ≡ b → (if a then Some (n + 1) else None) ≡ (if b then Some ((n + 1) + 0) else None)
  at true true e f = ap Some (let g : n + 1 ≡ (n + 1) + 0 = omega arith in g)
  at true false e f = absurd (grind (arith, nat_tests))
  at false true e f = absurd (grind (arith, nat_tests))
  at false false e f = refl

enough_start : (g : Option ℕ) → IfSome g (λ n. n < 2 ^ 64) → following g + 0 ≤ 2 ^ 64
enough_start None h = omega arith
enough_start (Some n) h = omega (arith, h)

module _ (c : Content) (sets : List Labels) (ss : List Standing) (starts : AreStarts c sets ss) where
  known_at : (l : Labels) (i : ℕ) → place (same_labels l) sets ≡ Some i → known_in sets ss l ≡ (standing_at ss i).reference
  known_at l i p = ap (option_and_then (λ k. (standing_at ss k).reference)) p

  set_at : (l : Labels) (i : ℕ) → place (same_labels l) sets ≡ Some i → get_or sets i [] ≡ l
  set_at l i p = get_or_from_slice_get sets i l [] (at_place l sets i p)

  pub judges_start : (next : Option ℕ) (said : List Verdict) (series : List SeriesEntry) (samples : List SampleEntry) → next ≡ after c.table.greatest → IfSome c.table.greatest (λ n. n < 2 ^ 64)
      → said ≡ [] → series ≡ [] → samples ≡ [] → Judges c sets (known_in sets ss) [] (accepted c []) ss next said series samples
  judges_start next said series samples n small v e x = record {
    taken_are = refl;
    many = starts.many;
    verdicts_are = v;
    series_are = e;
    samples_are = x;
    next_is = n ∙ next_start c.table.greatest small;
    enough = enough_start c.table.greatest small;
    named = All-nil _;
    references = λ l i p. sym (known_at l i p) ∙ or_none (known_in sets ss l);
    lasts = λ l i p t valid.
        let last : (standing_at ss i).last ≡ greatest (times_of c [] l) = (starts.each i (place_within l sets i p)).last ∙ ap (λ m. greatest (times_of c [] m)) (set_at l i p) in
        ap (λ o. reaches o t) last ∙ sym (reaches_greatest (times_of c [] l) t);
  }

  -- ---- the references of the accepted rows

  abbrev IsKnown : Labels → Type 0
  IsKnown l = IsLeast (λ q. owner_in c q ≡ Some l) (known_in sets ss l)

  known_least : (l : Labels) (i : ℕ) → place (same_labels l) sets ≡ Some i → IsKnown l
  known_least l i p =
      let start = starts.each i (place_within l sets i p) in
      let here : IsLeast (λ q. owner_in c q ≡ Some l) (standing_at ss i).reference = subst (λ m. IsLeast (λ q. owner_in c q ≡ Some m) (standing_at ss i).reference) (set_at l i p) start.reference in
      subst (λ o. IsLeast (λ q. owner_in c q ≡ Some l) o) (sym (known_at l i p)) here

  pub references_known : (rows : List PreparedRow) → ArePlaced sets rows → AreReferences c (known_in sets ss) (map (λ r. r.labels) (accepted c (map (with_set sets) rows)))
  references_known rows placed =
      let each : All (λ (r : Row). IsKnown r.labels) (map (with_set sets) rows) =
      All-map (λ (r : Row). IsKnown r.labels) (with_set sets) rows (λ k d m. known_least (with_set sets (get_or rows k d)).labels (get_or rows k d).set (placed k d m)) in
      All-map IsKnown (λ (r : Row). r.labels) (accepted c (map (with_set sets) rows)) (all_accepted c (λ (r : Row). IsKnown r.labels) (map (with_set sets) rows) each)

  -- ---- the end

  pub judges_end : (rows : List PreparedRow) (now : List Standing) (next : Option ℕ) (said : List Verdict) (series : List SeriesEntry) (samples : List SampleEntry) → ArePlaced sets rows
      → Judges c sets (known_in sets ss) (map (with_set sets) rows) (accepted c (map (with_set sets) rows)) now next said series samples → IsBatch c (map (with_set sets) rows) series samples
  judges_end rows now next said series samples placed j = record {
    known = known_in sets ss;
    references = references_known rows placed;
    enough = j.enough;
    series_are = j.series_are;
    samples_are = j.samples_are;
  }

  -- there is no reference for the label set of an accepted row
  pub judges_spent : (rows : List PreparedRow) (k : ℕ) (d : PreparedRow) (now : List Standing) (next : Option ℕ) (said : List Verdict) (series : List SeriesEntry) (samples : List SampleEntry)
      → ArePlaced sets rows → k < length rows
      → Judges c sets (known_in sets ss) (map (with_set sets) (take k rows)) (accepted c (map (with_set sets) (take k rows))) now next said series samples
      → is_refused c.min_valid (standing_at now (get_or rows k d).set) (get_or rows k d).time ≡ false → (standing_at now (get_or rows k d).set).reference ≡ None → next ≡ None
      → AreSpent c (map (with_set sets) rows)
  judges_spent rows k d now next said series samples placed within j h missing none =
      let known = known_in sets ss in
      let before = map (with_set sets) (take k rows) in
      let r = with_set sets (get_or rows k d) in
      let i = (get_or rows k d).set in
      let p = placed k d within in
      let taken = accepted c before in
      let both = neither (int_lt r.time c.min_valid) (reaches (standing_at now i).last r.time) h in
      let is : verdict_on c before r ≡ Accepted = verdict_is c sets known before taken now next said series samples r i j p ∙ ap₂ (λ x y. if x then Expired else (if y then Stale else Accepted)) both.0 both.1 in
      let more : accepted c (before ++ r ∷ []) ≡ taken ++ r ∷ [] = accepted_more c sets known before r Accepted is in
      let new : new_sets known (taken ++ r ∷ []) ≡ new_sets known taken ++ r.labels ∷ [] = new_more known (first_reference c) taken r (sym (j.references r.labels i p) ∙ missing) in
      let count = ap length (ap (new_sets known) more ∙ new) ∙ length-append (new_sets known taken) (r.labels ∷ []) in
      let rest = map (with_set sets) (drop (k + 1) rows) in
      let front = new_front c known (before ++ r ∷ []) rest in
      let whole : (before ++ r ∷ []) ++ rest ≡ map (with_set sets) rows =
      ap (λ rs. rs ++ rest) (sym (map-append (with_set sets) (take k rows) (get_or rows k d ∷ [])) ∙ ap (map (with_set sets)) (sym (take_more rows k d within)))
      ∙ (sym (map-append (with_set sets) (take (k + 1) rows) (drop (k + 1) rows)) ∙ ap (map (with_set sets)) (take-append-drop (k + 1) rows)) in
      let last = small_none (first_reference c + length (new_sets known taken)) (sym j.next_is ∙ none) in record {
        known = known;
        references = references_known rows placed;
        past = subst (λ rs. 2 ^ 64 < first_reference c + length (new_sets known (accepted c rs))) whole (omega (arith, count, front, last));
      }

-- ---- a row of the loop

here_is : {A : Type 0} (xs : List A) (i : ℕ) (x d : A) → i < length xs → x ≡ get_or xs i x → get_or xs i d ≡ x
here_is xs i x d within is = get_or_from_slice_get xs i x d (slice_get_read xs (length xs) i x refl within is)

take_all : {A : Type 0} (xs : List A) (k : ℕ) → length xs ≤ k → take k xs ≡ xs
take_all [] zero h = refl
take_all [] (suc k) h = refl
take_all (x ∷ xs) zero h = absurd (omega arith)
take_all (x ∷ xs) (suc k) h = ap (λ ys. x ∷ ys) (take_all xs k (omega arith))

-- the place of a row's label set lies in the list
pub set_within : (sets : List Labels) (rows given : List PreparedRow) (k : ℕ) (d : PreparedRow) → given ≡ rows → ArePlaced sets rows → k < length given → (get_or given k d).set < length sets
set_within sets rows given k d same placed within =
    subst (λ rs. (get_or rs k d).set < length sets) (sym same) (place_within (with_set sets (get_or rows k d)).labels sets (get_or rows k d).set (placed k d (subst (λ (rs : List PreparedRow). k < length rs) same within)))

module _ (c : Content) (sets : List Labels) (ss : List Standing) (rows given : List PreparedRow) (same : given ≡ rows) (placed : ArePlaced sets rows) where
  abbrev Behind_rows : ℕ → List Standing → Option ℕ → List Verdict → List SeriesEntry → List SampleEntry → Type 0
  Behind_rows k now next said series samples = Judges c sets (known_in sets ss) (map (with_set sets) (take k rows)) (accepted c (map (with_set sets) (take k rows))) now next said series samples

  -- the set of a row lies in a list of so many
  pub row_within : (k : ℕ) (d : PreparedRow) (n : ℕ) → n ≡ length sets → k < length given → (get_or given k d).set < n
  row_within k d n long within = (let w = set_within sets rows given k d same placed within in omega (arith, w, long))

  pub standing_within : (k : ℕ) (d : PreparedRow) (now : List Standing) (next : Option ℕ) (said : List Verdict) (series : List SeriesEntry) (samples : List SampleEntry) (n : ℕ) → n ≡ length now
      → Behind_rows k now next said series samples → k < length given → (get_or given k d).set < n
  standing_within k d now next said series samples n long j within = (let w = set_within sets rows given k d same placed within in let m = j.many in omega (arith, w, m, long))

  pub judged_more : (k : ℕ) (d : PreparedRow) (now : List Standing) (s t : Standing) (l : Labels) (next n : Option ℕ) (said said' : List Verdict) (series series' : List SeriesEntry) (samples samples' : List SampleEntry)
      → Behind_rows k now next said series samples → k < length given → s ≡ get_or now (get_or given k d).set s → l ≡ get_or sets (get_or given k d).set l
      → (m : ℤ) → m ≡ c.min_valid → t ≡ standing_after m s next (get_or given k d).time → n ≡ next_after m s next (get_or given k d).time → said' ≡ said ++ verdict_after m s (get_or given k d).time ∷ []
      → series' ≡ series ++ entry_after m s next l (get_or given k d).time → samples' ≡ samples ++ sample_after m s next (get_or given k d).time (get_or given k d).value
      → (is_refused m s (get_or given k d).time ≡ false → is_missing (or_else s.reference next) ≡ false) → Behind_rows (k + 1) (set now (get_or given k d).set t) n said' series' samples'
  judged_more k d now s t l next n said said' series series' samples samples' j within at_s at_l m m_is t_is n_is said_is series_is samples_is some =
      let p = get_or given k d in
      let inside : k < length rows = subst (λ (rs : List PreparedRow). k < length rs) same within in
      let place_is : place (same_labels (with_set sets p).labels) sets ≡ Some p.set = subst (λ rs. place (same_labels (with_set sets (get_or rs k d)).labels) sets ≡ Some (get_or rs k d).set) (sym same) (placed k d inside) in
      let standing_is : standing_at now p.set ≡ s = here_is now p.set s no_standing (standing_within k d now next said series samples (length now) refl j within) at_s in
      let labels_are : (with_set sets p).labels ≡ l = unwrap_or-slice_get sets p.set [] ∙ here_is sets p.set l [] (set_within sets rows given k d same placed within) at_l in
      let rows_are : map (with_set sets) (take k rows) ++ with_set sets p ∷ [] ≡ map (with_set sets) (take (k + 1) rows) =
      ap (λ q. map (with_set sets) (take k rows) ++ with_set sets q ∷ []) (ap (λ rs. get_or rs k d) same)
      ∙ (sym (map-append (with_set sets) (take k rows) (get_or rows k d ∷ [])) ∙ ap (map (with_set sets)) (sym (take_more rows k d inside))) in
      let named = subst (λ u. is_refused c.min_valid u p.time ≡ false → is_missing (or_else u.reference next) ≡ false) (sym standing_is) (subst (λ x. is_refused x s p.time ≡ false → is_missing (or_else s.reference next) ≡ false) m_is some) in
      let more = judges_more c sets (known_in sets ss) (map (with_set sets) (take k rows)) now next said series samples (with_set sets p) p.set j place_is named in
      renamed p now s t l next n said said' series series' samples samples' (standing_at now p.set) (with_set sets p).labels (map (with_set sets) (take k rows) ++ with_set sets p ∷ []) (map (with_set sets) (take (k + 1) rows)) m
      standing_is labels_are rows_are m_is t_is n_is said_is series_is samples_is more where
        renamed : (p : PreparedRow) (now : List Standing) (s t : Standing) (l : Labels) (next n : Option ℕ) (said said' : List Verdict) (series series' : List SeriesEntry) (samples samples' : List SampleEntry)
            (u : Standing) (o : Labels) (some more : List Row) (m : ℤ) → u ≡ s → o ≡ l → some ≡ more → m ≡ c.min_valid
            → t ≡ standing_after m s next p.time → n ≡ next_after m s next p.time → said' ≡ said ++ verdict_after m s p.time ∷ []
            → series' ≡ series ++ entry_after m s next l p.time → samples' ≡ samples ++ sample_after m s next p.time p.value
            → Judges c sets (known_in sets ss) some (accepted c some) (set now p.set (standing_after c.min_valid u next p.time)) (next_after c.min_valid u next p.time) (said ++ verdict_after c.min_valid u p.time ∷ [])
            (series ++ entry_after c.min_valid u next o p.time) (samples ++ sample_after c.min_valid u next p.time p.value)
            → Judges c sets (known_in sets ss) more (accepted c more) (set now p.set t) n said' series' samples'
        renamed p now s t l next n said said' series series' samples samples' u o some more m e f g v t_is n_is said_is series_is samples_is j =
            subst (λ x. Judges c sets (known_in sets ss) more (accepted c more) (set now p.set t) n said' series' x) (sym samples_is)
            (subst (λ x. Judges c sets (known_in sets ss) more (accepted c more) (set now p.set t) n said' x (samples ++ sample_after m s next p.time p.value)) (sym series_is)
            (subst (λ x. Judges c sets (known_in sets ss) more (accepted c more) (set now p.set t) n x (series ++ entry_after m s next l p.time) (samples ++ sample_after m s next p.time p.value)) (sym said_is)
            (subst (λ x. Judges c sets (known_in sets ss) more (accepted c more) (set now p.set t) x (said ++ verdict_after m s p.time ∷ []) (series ++ entry_after m s next l p.time) (samples ++ sample_after m s next p.time p.value)) (sym n_is)
            (subst (λ x. Judges c sets (known_in sets ss) more (accepted c more) (set now p.set x) (next_after m s next p.time) (said ++ verdict_after m s p.time ∷ []) (series ++ entry_after m s next l p.time) (samples ++ sample_after m s next p.time p.value)) (sym t_is)
            (subst (λ x. Judges c sets (known_in sets ss) x (accepted c x) (set now p.set (standing_after m s next p.time)) (next_after m s next p.time) (said ++ verdict_after m s p.time ∷ []) (series ++ entry_after m s next l p.time) (samples ++ sample_after m s next p.time p.value)) g
            (subst (λ x. Judges c sets (known_in sets ss) some (accepted c some) (set now p.set (standing_after m s next p.time)) (next_after m s next p.time) (said ++ verdict_after m s p.time ∷ []) (series ++ entry_after m s next x p.time) (samples ++ sample_after m s next p.time p.value)) f
            (subst (λ x. Judges c sets (known_in sets ss) some (accepted c some) (set now p.set (standing_after m x next p.time)) (next_after m x next p.time) (said ++ verdict_after m x p.time ∷ []) (series ++ entry_after m x next o p.time) (samples ++ sample_after m x next p.time p.value)) e
            (subst (λ x. Judges c sets (known_in sets ss) some (accepted c some) (set now p.set (standing_after x u next p.time)) (next_after x u next p.time) (said ++ verdict_after x u p.time ∷ []) (series ++ entry_after x u next o p.time) (samples ++ sample_after x u next p.time p.value)) (sym v) j))))))))

  pub judged_all : (k : ℕ) (now : List Standing) (next : Option ℕ) (said : List Verdict) (series : List SeriesEntry) (samples : List SampleEntry) → AreStarts c sets ss → length given ≤ k
      → Behind_rows k now next said series samples → IsBatch c (map (with_set sets) rows) series samples
  judged_all k now next said series samples starts past j =
      let all : take k rows ≡ rows = take_all rows k (subst (λ (rs : List PreparedRow). length rs ≤ k) same past) in
      judges_end c sets ss starts rows now next said series samples placed
      (subst (λ rs. Judges c sets (known_in sets ss) (map (with_set sets) rs) (accepted c (map (with_set sets) rs)) now next said series samples) all j)

  pub judged_spent : (k : ℕ) (d : PreparedRow) (now : List Standing) (s : Standing) (next : Option ℕ) (said : List Verdict) (series : List SeriesEntry) (samples : List SampleEntry) → AreStarts c sets ss
      → Behind_rows k now next said series samples → k < length given → s ≡ get_or now (get_or given k d).set s → (m : ℤ) → m ≡ c.min_valid → is_refused m s (get_or given k d).time ≡ false → s.reference ≡ None → next ≡ None
      → AreSpent c (map (with_set sets) rows)
  judged_spent k d now s next said series samples starts j within at_s m m_is fresh missing none =
      let standing_is : standing_at now (get_or given k d).set ≡ s = here_is now (get_or given k d).set s no_standing (standing_within k d now next said series samples (length now) refl j within) at_s in
      let row : get_or given k d ≡ get_or rows k d = ap (λ rs. get_or rs k d) same in
      let here : standing_at now (get_or rows k d).set ≡ s = ap (λ (p : PreparedRow). standing_at now p.set) (sym row) ∙ standing_is in
      judges_spent c sets ss starts rows k d now next said series samples placed (subst (λ (rs : List PreparedRow). k < length rs) same within) j
      (ap (λ (u : Standing). is_refused c.min_valid u (get_or rows k d).time) here ∙ (ap (λ (p : PreparedRow). is_refused c.min_valid s p.time) (sym row) ∙ (ap (λ x. is_refused x s (get_or given k d).time) (sym m_is) ∙ fresh)))
      (ap (λ (u : Standing). u.reference) here ∙ missing)
      none
