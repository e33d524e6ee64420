-- What a head cannot hold of what was told.
use Rattle.std.proofs.Common.{◌≡◌, ℕ, zero, suc, ◌+◌, ◌<◌, false, true≢false, List, [], ◌∷◌, ◌++◌, All, IsPermutation, Some, None, ap, ap₂, sym, subst, ◌∙◌, refl, arith, cond, length, get_or, filter, flat_map, map, slice_get, unwrap_or}
use Rattle.std.specs.List.{enumerate_from}
use Rattle.std.proofs.lemmas.List.{get_or-map, length-map}
use Rattle.std.proofs.lemmas.List.Elements.{All-append, All-cons, All-head, All-map, All-nil, All-tail}
use Rattle.std.proofs.lemmas.List.Sorted.{All-permutation, IsPermutation-map, IsPermutation-sym}
use Rattle.std.proofs.lemmas.Option.{slice_get-get_or, unwrap_or-slice_get}
use Rattle.wal_record.specs.Labels.{Labels, same_labels}
use Rattle.head_column.specs.Histories.{latest}
use Rattle.head_column.specs.Times.{reaches}
use Rattle.head_series.specs.Rows.{AreDistinct}
use Rattle.head_series.specs.Texts.{place}
use Rattle.head_core.specs.Content.{Content}
use Rattle.head_core.specs.Heads.{history_at}
use Rattle.head_live.specs.declared.placed.PlacedSample.{PlacedSample}
use Rattle.head_live.specs.declared.verdict.Verdict.{Verdict}
use Rattle.head_live.specs.declared.verdict.Verdict.TheVariants.{Accepted, Stale, Expired}
use Rattle.head_live.specs.Agreeing.{Agrees, all_told, new_rows, new_rows_at, row_of_sample}
use Rattle.head_live.specs.Placing.{AreInSeries, IsPossible, labels_at, row_at}
use Rattle.head_live.specs.Rows.{Row}
use Rattle.head_live.specs.Told.{Answer, AppenderState, accepted_rows}
use Rattle.head_live.specs.Verdicts.{is_accepted}
use Rattle.head_live.proofs.CloseLemmas.{found_reached}
use Rattle.head_live.proofs.SetLemmas.{nowhere, place_at}

-- ---- one row

-- the row was told to be stale, and its series has no sample at or past its time
pub not_reached : (c : Content) (a : Answer) (slot : ℕ) → place (same_labels a.row.labels) c.table.series ≡ Some slot → a.verdict ≡ Stale
    → reaches (latest (history_at c slot).samples) a.row.time ≡ false → IsPossible c a → ⊥
not_reached c a slot p v r h = true≢false (sym (h.stale v) ∙ found_reached c a.row.labels slot a.row.time false p r)

-- ---- all rows

pub all_at : {A B : Type 0} (P : B → Type 0) (f : A → B) (xs : List A) (i : ℕ) (x : A) → i < length xs → x ≡ get_or xs i x → All P (map f xs) → P (f x)
all_at P f xs i x h is all = subst P (get_or-map f xs i x (f x) h ∙ ap f (sym is)) (all i (f x) (omega (arith, h, length-map xs f)))

-- there is a series of the labels of the row
abbrev HasSeries : Content → Row → Type 0
HasSeries c r = place (same_labels r.labels) c.table.series ≡ None → ⊥

accepted_all : (P : Row → Type 0) (told : List Answer) → All P (accepted_rows told) → All (λ a. a.verdict ≡ Accepted → P a.row) told
accepted_all P [] h = All-nil (λ a. a.verdict ≡ Accepted → P a.row)
accepted_all P (a ∷ told) h = at a.verdict refl h (accepted_all P told) where
  later : List Row
  later = accepted_rows told

  at : (v : Verdict) → a.verdict ≡ v → All P (map (λ b. b.row) (cond (is_accepted v) (a ∷ filter (λ b. is_accepted b.verdict) told) (filter (λ b. is_accepted b.verdict) told)))
      → (All P later → All (λ b. b.verdict ≡ Accepted → P b.row) told) → All (λ b. b.verdict ≡ Accepted → P b.row) (a ∷ told)
  at Accepted e k deep = All-cons (λ b. b.verdict ≡ Accepted → P b.row) a told (λ _. All-head P a.row later k) (deep (All-tail P a.row later k))
  at Stale e k deep = All-cons (λ b. b.verdict ≡ Accepted → P b.row) a told (λ f. let g : Stale ≡ Accepted = sym e ∙ f in absurd cc) (deep k)
  at Expired e k deep = All-cons (λ b. b.verdict ≡ Accepted → P b.row) a told (λ f. let g : Expired ≡ Accepted = sym e ∙ f in absurd cc) (deep k)

-- each new row has a series
in_series : (opening now : Content) → All (HasSeries now) (new_rows opening now)
in_series opening now = go 0 now.table.series (λ k d lt p. nowhere (get_or now.table.series k d) now.table.series k p (slice_get-get_or now.table.series k d lt)) where
  go : (n : ℕ) (xs : List Labels) → All (λ l. place (same_labels l) now.table.series ≡ None → ⊥) xs → All (HasSeries now) (flat_map (new_rows_at opening now) (enumerate_from n xs))
  go n [] h = All-nil (HasSeries now)
  go n (l ∷ ls) h =
      All-append (HasSeries now) (new_rows_at opening now (n, l)) (flat_map (new_rows_at opening now) (enumerate_from (n + 1) ls))
      (All-map (HasSeries now) (row_of_sample l) _ (λ k d lt. All-head (λ m. place (same_labels m) now.table.series ≡ None → ⊥) l ls h))
      (go (n + 1) ls (All-tail (λ m. place (same_labels m) now.table.series ≡ None → ⊥) l ls h))

-- what was told is possible where it is what the head holds
pub possible : (opening now : Content) (told : List Answer) → Agrees opening now told → All (IsPossible now) told
possible opening now told agrees =
    let series = accepted_all (HasSeries now) told (All-permutation (HasSeries now) (new_rows opening now) (accepted_rows told) (IsPermutation-sym (accepted_rows told) (new_rows opening now) agrees.once) (in_series opening now)) in
    λ k d lt. record {
      series = series k d lt;
      stale = agrees.stale k d lt;
      expired = agrees.expired k d lt;
    }

front_all : {A : Type 0} (P : A → Type 0) (xs ys : List A) → All P (xs ++ ys) → All P xs
front_all P [] ys h = All-nil P
front_all P (x ∷ xs) ys h = All-cons P x xs (All-head P x (xs ++ ys) h) (front_all P xs ys (All-tail P x (xs ++ ys) h))

rest_all : {A : Type 0} (P : A → Type 0) (xs ys : List A) → All P (xs ++ ys) → All P ys
rest_all P [] ys h = h
rest_all P (x ∷ xs) ys h = rest_all P xs ys (All-tail P x (xs ++ ys) h)

-- what holds of all that appenders were told holds of what one of them was told
pub told_at : (P : Answer → Type 0) (all : List AppenderState) (i : ℕ) (x : AppenderState) → i < length all → x ≡ get_or all i x → All P (all_told all) → All P x.told
told_at P [] i x h is told = absurd (omega (arith, h))
told_at P (a ∷ all) zero x h is told = subst (λ (y : AppenderState). All P y.told) (sym is) (front_all P a.told (all_told all) told)
told_at P (a ∷ all) (suc i) x h is told = told_at P all i x (omega (arith, h)) is (rest_all P a.told (all_told all) told)

-- ---- the places of rows

-- the row, placed in the slot of its series
abbrev place_of : Content → Row → PlacedSample
place_of c r = record { slot = unwrap_or (place (same_labels r.labels) c.table.series) 0; time = r.time; value = r.value }

placed_again : (c : Content) → AreDistinct same_labels c.table.series → (xs : List PlacedSample) → AreInSeries c xs → map (place_of c) (map (row_at c) xs) ≡ xs
placed_again c distinct [] h = refl
placed_again c distinct (x ∷ xs) h =
    ap₂ ◌∷◌ (ap (λ n. record { slot = n; time = x.time; value = x.value }) slot) (placed_again c distinct xs (All-tail (λ s. s.slot < length c.table.series) x xs h)) where
      got : slice_get c.table.series x.slot ≡ Some (labels_at c x.slot)
      got = slice_get-get_or c.table.series x.slot [] (All-head (λ s. s.slot < length c.table.series) x xs h) ∙ ap Some (sym (unwrap_or-slice_get c.table.series x.slot []))

      slot : unwrap_or (place (same_labels (labels_at c x.slot)) c.table.series) 0 ≡ x.slot
      slot = ap (λ o. unwrap_or o 0) (place_at (labels_at c x.slot) c.table.series x.slot distinct got)

-- samples whose rows are the same are the same
pub same_placed : (c : Content) (xs ys : List PlacedSample) → AreDistinct same_labels c.table.series → AreInSeries c xs → AreInSeries c ys
    → IsPermutation (map (row_at c) xs) (map (row_at c) ys) → IsPermutation xs ys
same_placed c xs ys distinct h k same =
    subst (λ (us : List PlacedSample). IsPermutation us ys) (placed_again c distinct xs h)
    (subst (IsPermutation (map (place_of c) (map (row_at c) xs))) (placed_again c distinct ys k) (IsPermutation-map (place_of c) (map (row_at c) xs) (map (row_at c) ys) same))
