-- What rows say, with one row more.
use Rattle.std.proofs.Common.{◌≡◌, ℕ, ◌+◌, ◌<◌, ◌≤◌, ◌^◌, Bool, true, false, List, [], ◌∷◌, ◌++◌, Option, Some, None, ap, sym, ◌∙◌, refl, arith, append_assoc, length, length-append}
use Rattle.std.specs.Prelude.{ℤ, All, filter, map, nat_lt, if◌then◌else◌}
use Rattle.std.specs.List.{list_any}
use Rattle.std.specs.Option.{option_map}
use Rattle.std.proofs.lemmas.Bool.Decides.{nat_tests}
use Rattle.std.proofs.lemmas.List.{append-nil, map-append}
use Rattle.std.proofs.lemmas.List.Elements.{All-head, All-tail, filter-append}
use Rattle.hw_bytes.specs.Lists.{along, distinct, if_new, or_else}
use Rattle.wal_record.specs.declared.record.SeriesEntry.{SeriesEntry}
use Rattle.wal_record.specs.declared.record.SampleEntry.{SampleEntry}
use Rattle.wal_record.specs.Labels.{Labels, same_labels}
use Rattle.head_series.specs.Texts.{place}
use Rattle.head_core.specs.Content.{Content}
use Rattle.head_live.specs.Rows.{Row}
use Rattle.head_live.specs.Verdicts.{accepted, is_accepted, samples_in, times_of, verdict_on}
use Rattle.head_live.specs.Batch.{is_missing, new_sets, reference_of, sample_of, series_from}
use Rattle.head_live.specs.Judged.{given, small}
use Rattle.head_live.proofs.SetLemmas.{along-append, along-push, any_distinct, any_filter, has_place, no_place, place_kept, place_last, place_other}

-- ---- times

pub times_push : (c : Content) (before : List Row) (r : Row) (l : Labels) → times_of c (before ++ r ∷ []) l ≡ times_of c before l ++ (if same_labels l r.labels then r.time ∷ [] else [])
times_push c before r l =
    let old : List ℤ = map (λ s. s.time) (samples_in c l) in
    let mine : Row → Bool = λ q. same_labels l q.labels in
    let time : Row → ℤ = λ q. q.time in
    ap (λ rs. old ++ map time rs) (filter-append mine before (r ∷ []))
    ∙ (ap (λ ts. old ++ ts) (map-append time (filter mine before) (filter mine (r ∷ [])))
    ∙ (sym (append_assoc old (map time (filter mine before)) (map time (filter mine (r ∷ []))))
    ∙ ap (λ ts. (old ++ map time (filter mine before)) ++ ts) (one (same_labels l r.labels)))) where
      one : (b : Bool) → map (λ (q : Row). q.time) (if b then r ∷ [] else []) ≡ (if b then r.time ∷ [] else [])
      one true = refl
      one false = refl

-- ---- the numbers of references

pub small_is : (n m : ℕ) → small n ≡ Some m → (m ≡ n) × (n < 2 ^ 64)
small_is n m h = at (nat_lt n (2 ^ 64)) refl h where
  at : (b : Bool) → nat_lt n (2 ^ 64) ≡ b → (if b then Some n else None) ≡ Some m → (m ≡ n) × (n < 2 ^ 64)
  at true e k = ((let g : n ≡ m = cc in sym g), grind (arith, nat_tests))
  at false e k = cc

pub small_none : (n : ℕ) → small n ≡ None → 2 ^ 64 ≤ n
small_none n h = at (nat_lt n (2 ^ 64)) refl h where
  at : (b : Bool) → nat_lt n (2 ^ 64) ≡ b → (if b then Some n else None) ≡ None → 2 ^ 64 ≤ n
  at true e k = cc
  at false e k = grind (arith, nat_tests)

abbrev entry : ℕ → Labels → SeriesEntry
entry n l = record { reference = n; labels = l }

abbrev sample : ℕ → Row → SampleEntry
sample q r = record { reference = q; time = r.time; value = r.value }

pub series_from-push : (first : ℕ) (ls : List Labels) (l : Labels) → series_from first (ls ++ l ∷ []) ≡ series_from first ls ++ entry (first + length ls) l ∷ []
series_from-push first [] l = ap (λ (n : ℕ). entry n l ∷ []) (let g : first ≡ first + 0 = omega arith in g)
series_from-push first (m ∷ ls) l =
    ap (λ (es : List SeriesEntry). entry first m ∷ es)
    (series_from-push (first + 1) ls l ∙ ap (λ (n : ℕ). series_from (first + 1) ls ++ entry n l ∷ []) (let g : (first + 1) + length ls ≡ first + length (m ∷ ls) = omega arith in g))

-- ---- the reference of a label set so far

pub given_value : (known : Labels → Option ℕ) (first : ℕ) (new : List Labels) (l : Labels) (q : ℕ) → given known first new l ≡ Some q → reference_of known first new l ≡ q
given_value known first new l q h = at (known l) (place (same_labels l) new) refl refl h where
  at : (o p : Option ℕ) → known l ≡ o → place (same_labels l) new ≡ p → or_else o (option_map (λ n. first + n) p) ≡ Some q → reference_of known first new l ≡ q
  at None None e f k = cc
  at None (Some n) e f k = rw (e, f) (let g : first + n ≡ q = cc in g)
  at (Some r) p e f k = rw e (let g : r ≡ q = cc in g)

module _ (known : Labels → Option ℕ) (first : ℕ) (new : List Labels) where
  pub given_kept : (m l : Labels) (q : ℕ) → given known first new l ≡ Some q → given known first (new ++ m ∷ []) l ≡ Some q
  given_kept m l q h = at (known l) (place (same_labels l) new) refl h where
    at : (o p : Option ℕ) → place (same_labels l) new ≡ p → or_else o (option_map (λ n. first + n) p) ≡ Some q
        → or_else o (option_map (λ n. first + n) (place (same_labels l) (new ++ m ∷ []))) ≡ Some q
    at (Some r) p f k = k
    at None None f k = cc
    at None (Some n) f k = ap (option_map (λ n. first + n)) (place_kept l m new n f) ∙ k

  pub given_other : (m l : Labels) → same_labels l m ≡ false → given known first (new ++ m ∷ []) l ≡ given known first new l
  given_other m l h = ap (λ p. or_else (known l) (option_map (λ n. first + n) p)) (place_other l m new h)

  pub given_last : (l : Labels) → given known first new l ≡ None → given known first (new ++ l ∷ []) l ≡ Some (first + length new)
  given_last l h = at (known l) (place (same_labels l) new) refl h where
    at : (o p : Option ℕ) → place (same_labels l) new ≡ p → or_else o (option_map (λ n. first + n) p) ≡ None
        → or_else o (option_map (λ n. first + n) (place (same_labels l) (new ++ l ∷ []))) ≡ Some (first + length new)
    at (Some r) p f k = cc
    at None None f k = ap (option_map (λ n. first + n)) (place_last l new f)
    at None (Some n) f k = cc

  -- the samples of rows whose label sets have a reference stay as they are
  pub samples_kept : (m : Labels) (rows : List Row) → All (λ r. is_missing (given known first new r.labels) ≡ false) rows
      → map (sample_of known first (new ++ m ∷ [])) rows ≡ map (sample_of known first new) rows
  samples_kept m [] h = refl
  samples_kept m (r ∷ rs) h =
      ap (λ (q : ℕ). sample q r ∷ map (sample_of known first (new ++ m ∷ [])) rs) (same (given known first new r.labels) refl (All-head (λ (q : Row). is_missing (given known first new q.labels) ≡ false) r rs h))
      ∙ ap (λ ss. sample_of known first new r ∷ ss) (samples_kept m rs (All-tail (λ (q : Row). is_missing (given known first new q.labels) ≡ false) r rs h)) where
        same : (o : Option ℕ) → given known first new r.labels ≡ o → is_missing o ≡ false → reference_of known first (new ++ m ∷ []) r.labels ≡ reference_of known first new r.labels
        same None e k = cc
        same (Some q) e k = given_value known first (new ++ m ∷ []) r.labels q (given_kept m r.labels q e) ∙ sym (given_value known first new r.labels q e)

-- ---- new label sets

-- the new label sets with one row more
new_push : (known : Labels → Option ℕ) (rows : List Row) (r : Row)
    → new_sets known (rows ++ r ∷ []) ≡ new_sets known rows ++ filter (λ l. is_missing (known l)) (if_new same_labels (map (λ q. q.labels) rows) r.labels)
new_push known rows r =
    let labels : Row → Labels = λ q. q.labels in
    let missing : Labels → Bool = λ l. is_missing (known l) in
    ap (λ ls. filter missing (distinct same_labels ls)) (map-append labels rows (r ∷ []))
    ∙ (ap (filter missing) (along-push (if_new same_labels) (map labels rows) r.labels)
    ∙ filter-append missing (distinct same_labels (map labels rows)) (if_new same_labels (map labels rows) r.labels))

-- a label set with no reference in the head is among the new ones just where it has a row
among_new : (known : Labels → Option ℕ) (rows : List Row) (l : Labels) → known l ≡ None → list_any (same_labels l) (new_sets known rows) ≡ list_any (same_labels l) (map (λ q. q.labels) rows)
among_new known rows l h =
    let labels : List Labels = map (λ q. q.labels) rows in
    any_filter (λ m. is_missing (known m)) l (distinct same_labels labels) (ap is_missing h) ∙ any_distinct l labels

-- the label set has a reference: it is not new
pub new_kept : (known : Labels → Option ℕ) (first : ℕ) (rows : List Row) (r : Row) (q : ℕ) → given known first (new_sets known rows) r.labels ≡ Some q → new_sets known (rows ++ r ∷ []) ≡ new_sets known rows
new_kept known first rows r q h =
    new_push known rows r ∙ (ap (λ ls. new_sets known rows ++ ls) (at (known r.labels) (place (same_labels r.labels) (new_sets known rows)) refl refl h) ∙ append-nil (new_sets known rows)) where
      old : (b : Bool) → is_missing (known r.labels) ≡ false → filter (λ l. is_missing (known l)) (if b then [] else r.labels ∷ []) ≡ []
      old true e = refl
      old false e = ap (λ x. if x then r.labels ∷ [] else []) e

      again : (b : Bool) → b ≡ true → filter (λ l. is_missing (known l)) (if b then [] else r.labels ∷ []) ≡ []
      again true e = refl
      again false e = cc

      at : (o p : Option ℕ) → known r.labels ≡ o → place (same_labels r.labels) (new_sets known rows) ≡ p → or_else o (option_map (λ n. first + n) p) ≡ Some q
          → filter (λ l. is_missing (known l)) (if_new same_labels (map (λ s. s.labels) rows) r.labels) ≡ []
      at (Some s) p e f k = old (list_any (same_labels r.labels) (map (λ s. s.labels) rows)) (ap is_missing e)
      at None None e f k = cc
      at None (Some n) e f k = again (list_any (same_labels r.labels) (map (λ s. s.labels) rows)) (sym (among_new known rows r.labels e) ∙ has_place r.labels (new_sets known rows) n f)

-- the label set has no reference: it is new
pub new_more : (known : Labels → Option ℕ) (first : ℕ) (rows : List Row) (r : Row) → given known first (new_sets known rows) r.labels ≡ None → new_sets known (rows ++ r ∷ []) ≡ new_sets known rows ++ r.labels ∷ []
new_more known first rows r h =
    new_push known rows r ∙ ap (λ ls. new_sets known rows ++ ls) (at (known r.labels) (place (same_labels r.labels) (new_sets known rows)) refl refl h) where
      first_row : (b : Bool) → b ≡ false → is_missing (known r.labels) ≡ true → filter (λ l. is_missing (known l)) (if b then [] else r.labels ∷ []) ≡ r.labels ∷ []
      first_row true e f = cc
      first_row false e f = ap (λ x. if x then r.labels ∷ [] else []) f

      at : (o p : Option ℕ) → known r.labels ≡ o → place (same_labels r.labels) (new_sets known rows) ≡ p → or_else o (option_map (λ n. first + n) p) ≡ None
          → filter (λ l. is_missing (known l)) (if_new same_labels (map (λ s. s.labels) rows) r.labels) ≡ r.labels ∷ []
      at (Some s) p e f k = cc
      at None None e f k = first_row (list_any (same_labels r.labels) (map (λ s. s.labels) rows)) (sym (among_new known rows r.labels e) ∙ no_place r.labels (new_sets known rows) f) (ap is_missing e)
      at None (Some n) e f k = cc

-- More rows take no new label set back.
pub new_front : (c : Content) (known : Labels → Option ℕ) (front rest : List Row) → length (new_sets known (accepted c front)) ≤ length (new_sets known (accepted c (front ++ rest)))
new_front c known front rest =
    let labels : Row → Labels = λ q. q.labels in
    let missing : Labels → Bool = λ l. is_missing (known l) in
    let more = along (λ before r. if is_accepted (verdict_on c (front ++ before) r) then r ∷ [] else []) rest in
    let some = map labels (accepted c front) in
    let behind = along (λ before. if_new same_labels (some ++ before)) (map labels more) in
    let whole : new_sets known (accepted c (front ++ rest)) ≡ new_sets known (accepted c front) ++ filter missing behind =
    ap (new_sets known) (along-append (λ before r. if is_accepted (verdict_on c before r) then r ∷ [] else []) front rest)
    ∙ (ap (λ ls. filter missing (distinct same_labels ls)) (map-append labels (accepted c front) more)
    ∙ (ap (filter missing) (along-append (if_new same_labels) some (map labels more))
    ∙ filter-append missing (distinct same_labels some) behind)) in
    let n = ap length whole ∙ length-append (new_sets known (accepted c front)) (filter missing behind) in
    omega (arith, n)
