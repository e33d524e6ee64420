-- The tallies of series with one label more, and of labels with one more.
use Rattle.std.proofs.Common.{◌≡◌, ℕ, ◌+◌, ◌<◌, ◌≤◌, Bool, true, false, cond, List, [], ◌∷◌, ◌++◌, length, map, refl, sym, ap, ◌∙◌, arith, append_assoc}
use Rattle.std.specs.Prelude.{◌&&◌, ◌||◌, All, count_by, slice_set, slice_index_or}
use Rattle.std.specs.List.{list_any}
use Rattle.std.proofs.lemmas.List.{get_or-map, length-map}
use Rattle.std.proofs.lemmas.List.Elements.{All-cons, All-nil, filter-append}
use Rattle.std.proofs.lemmas.List.Folds.{list_any-append}
use Rattle.std.proofs.lemmas.List.Sums.{sum_by-append, sum_by-cons, sum_by_push}
use Rattle.indexmap.specs.IndexSet.{insert_key}
use Rattle.hw_bytes.specs.Lists.{distinct}
use Rattle.hw_bytes.proofs.Lists.{flat_map-push, list_any-distinct}
use Rattle.wal_record.specs.declared.labels.Label.{Label}
use Rattle.wal_record.specs.Labels.{Labels, label_equiv, same_label, same_text}
use Rattle.wal_record.proofs.Equality.{same_parts}
use Rattle.wal_record.proofs.SameText.{same_text_exact}
use Rattle.head_column.specs.Histories.{History}
use Rattle.head_ranks.specs.declared.counts.LabelCount.{LabelCount}
use Rattle.head_ranks.specs.declared.counting.Counter.{Counter}
use Rattle.head_ranks.specs.declared.counting.LabelKey.{LabelKey}
use Rattle.head_ranks.specs.Counts.{has_label, label_of, samples_of, with_label}
use Rattle.head_ranks.specs.Counting.{IsCountOf, key_label, labels_of, said, tally_of}
use Rattle.head_ranks.proofs.Distinct.{IsFound, found_at}
use Rattle.head_ranks.proofs.Tables.{at_in, counts_here, counts_new, counts_old, seen_here, seen_on}

both : (a b : Bool) → (a && b) ≡ true → (a ≡ true) × (b ≡ true)
both true b h = (refl, h)
both false b h = absurd cc

pub label_exact : (a b : Label) → same_label a b ≡ true → a ≡ b
label_exact a b h = (let parts = both (same_text a.name b.name) (same_text a.value b.value) h in same_parts a b (same_text_exact a.name b.name parts.0) (same_text_exact a.value b.value parts.1))

or_false : (a : Bool) → (a || false) ≡ a
or_false true = refl
or_false false = refl

either : (a b : Bool) → (a || b) ≡ false → (a ≡ false) × (b ≡ false)
either true b h = absurd cc
either false b h = (refl, h)

-- a label that no series has
none_of : (x : Label) (series : List (Labels × History)) → list_any (same_label x) (labels_of series) ≡ false → (count_by (λ s. has_label x s.0) series ≡ 0) × (samples_of (with_label x series) ≡ 0)
none_of x [] h = (refl, refl)
none_of x (s ∷ series) h =
    let parts = either (has_label x s.0) (list_any (same_label x) (labels_of series)) (sym (list_any-append (same_label x) s.0 (labels_of series)) ∙ h) in
    let deep = none_of x series parts.1 in
    let none : cond (has_label x s.0) 1 0 ≡ 0 = ap (λ (b : Bool). cond {A = ℕ} b 1 0) parts.0 in
    let rest = deep.0 in
    (sum_by-cons (λ (r : Labels × History). cond (has_label x r.0) 1 0) s series ∙ omega (arith, none, rest), by (has_label x s.0) parts.0 deep.1) where
      by : (b : Bool) → b ≡ false → samples_of (with_label x series) ≡ 0 → samples_of (cond b (s ∷ with_label x series) (with_label x series)) ≡ 0
      by true e f = absurd cc
      by false e f = f

-- what counts say, one by one
pub each_says : (series : List (Labels × History)) (counts : List LabelCount) (ds : List Label) → map said counts ≡ map (tally_of series) ds
    → (map label_of counts ≡ ds) × All (λ k. said k ≡ tally_of series (label_of k)) counts
each_says series [] [] h = (refl, All-nil (λ (k : LabelCount). said k ≡ tally_of series (label_of k)))
each_says series [] (d ∷ ds) h = absurd cc
each_says series (k ∷ counts) [] h = absurd cc
each_says series (k ∷ counts) (d ∷ ds) h =
    let first : said k ≡ tally_of series d = cc in
    let rest : map said counts ≡ map (tally_of series) ds = cc in
    let of : label_of k ≡ d = ap (λ (t : Label × ℕ × ℕ). t.0) first in
    let deep = each_says series counts ds rest in (
      ap (λ (l : Label). l ∷ map label_of counts) of ∙ ap (λ (ls : List Label). d ∷ ls) deep.0,
      All-cons (λ (m : LabelCount). said m ≡ tally_of series (label_of m)) k counts (first ∙ ap (tally_of series) (sym of)) deep.1,
    )

module _ (before : List (Labels × History)) (labels : Labels) (h : History) where
  -- what a last series adds to a tally, if it has the label
  abbrev tally_with : Bool → Label → Label × ℕ × ℕ
  tally_with b l = (l, count_by (λ s. has_label l s.0) before + cond b 1 0, samples_of (with_label l before) + cond b (length h.samples) 0)

  pub tally_push : (l : Label) (ls : Labels) (b : Bool) → has_label l ls ≡ b → tally_of (before ++ (ls, h) ∷ []) l ≡ tally_with b l
  tally_push l ls b e =
      ap (λ (n : ℕ). (l, n, samples_of (with_label l (before ++ (ls, h) ∷ [])))) (sum_by_push (λ (s : Labels × History). cond (has_label l s.0) 1 0) before (ls, h) ∙ ap (λ (c : Bool). count_by (λ (s : Labels × History). has_label l s.0) before + cond c 1 0) e)
      ∙ ap (λ (n : ℕ). (l, count_by (λ (s : Labels × History). has_label l s.0) before + cond b 1 0, n))
      (ap samples_of (filter-append (λ (s : Labels × History). has_label l s.0) before ((ls, h) ∷ []))
      ∙ sum_by-append (λ (s : Labels × History). length s.1.samples) (with_label l before) (with_label l ((ls, h) ∷ []))
      ∙ ap (λ (n : ℕ). samples_of (with_label l before) + n) (last (has_label l ls) e)) where
        last : (c : Bool) → c ≡ b → samples_of (cond c ((ls, h) ∷ []) []) ≡ cond b (length h.samples) 0
        last true e = (let sum : 0 + length h.samples ≡ length h.samples = omega arith in sum) ∙ ap (λ (c : Bool). cond c (length h.samples) 0) e
        last false e = ap (λ (c : Bool). cond c (length h.samples) 0) e

  module _ (x : Label) (once : has_label x labels ≡ false) where
    abbrev now : List (Labels × History)
    now = before ++ (labels, h) ∷ []

    abbrev next : List (Labels × History)
    next = before ++ (labels ++ x ∷ [], h) ∷ []

    labels_on : labels_of next ≡ labels_of now ++ x ∷ []
    labels_on =
        flat_map-push (λ (s : Labels × History). s.0) before (labels ++ x ∷ [], h)
        ∙ sym (append_assoc (labels_of before) labels (x ∷ []))
        ∙ ap (λ (ls : List Label). ls ++ x ∷ []) (sym (flat_map-push (λ (s : Labels × History). s.0) before (labels, h)))

    has_more : (l : Label) → has_label l (labels ++ x ∷ []) ≡ (has_label l labels || same_label l x)
    has_more l = list_any-append (same_label l) labels (x ∷ []) ∙ ap (λ (b : Bool). has_label l labels || b) (or_false (same_label l x))

    alike : (l : Label) → same_label l x ≡ false → tally_of now l ≡ tally_of next l
    alike l e =
        tally_push l labels (has_label l labels) refl
        ∙ sym (tally_push l (labels ++ x ∷ []) (has_label l labels) (has_more l ∙ ap (λ (b : Bool). has_label l labels || b) e ∙ or_false (has_label l labels)))

    at_next : tally_of next x ≡ tally_with true x
    at_next = tally_push x (labels ++ x ∷ []) true (has_more x ∙ ap (λ (b : Bool). b || same_label x x) once ∙ label_equiv.refl x)

    step_old : (c old : LabelCount) → label_of c ≡ label_of old → c.series ≡ old.series + 1 → c.samples ≡ old.samples + length h.samples → said old ≡ tally_of now x → said c ≡ tally_of next x
    step_old c old kept series samples was =
        let is : said old ≡ tally_with false x = was ∙ tally_push x labels false once in
        let of : label_of c ≡ x = kept ∙ ap (λ (t : Label × ℕ × ℕ). t.0) is in
        let series_was : old.series ≡ count_by (λ (s : Labels × History). has_label x s.0) before + 0 = ap (λ (t : Label × ℕ × ℕ). t.1) is in
        let samples_was : old.samples ≡ samples_of (with_label x before) + 0 = ap (λ (t : Label × ℕ × ℕ). t.2) is in
        ap (λ (l : Label). (l, c.series, c.samples)) of
        ∙ ap (λ (n : ℕ). (x, n, c.samples)) (let e : c.series ≡ count_by (λ (s : Labels × History). has_label x s.0) before + 1 = omega (arith, series, series_was) in e)
        ∙ ap (λ (n : ℕ). (x, count_by (λ (s : Labels × History). has_label x s.0) before + 1, n)) (let e : c.samples ≡ samples_of (with_label x before) + length h.samples = omega (arith, samples, samples_was) in e)
        ∙ sym at_next

    step_new : (c : LabelCount) → label_of c ≡ x → c.series ≡ 1 → c.samples ≡ length h.samples → list_any (same_label x) (distinct same_label (labels_of now)) ≡ false → said c ≡ tally_of next x
    step_new c of series samples new =
        let away : list_any (same_label x) (labels_of before ++ labels) ≡ false =
        ap (list_any (same_label x)) (sym (flat_map-push (λ (s : Labels × History). s.0) before (labels, h))) ∙ sym (list_any-distinct same_label label_exact x (labels_of now)) ∙ new in
        let parts = either (list_any (same_label x) (labels_of before)) (has_label x labels) (sym (list_any-append (same_label x) (labels_of before) labels) ∙ away) in
        let none = none_of x before parts.0 in
        let no_series = none.0 in
        let no_samples = none.1 in
        ap (λ (l : Label). (l, c.series, c.samples)) of
        ∙ ap (λ (n : ℕ). (x, n, c.samples)) (let e : c.series ≡ count_by (λ (s : Labels × History). has_label x s.0) before + 1 = omega (arith, series, no_series) in e)
        ∙ ap (λ (n : ℕ). (x, count_by (λ (s : Labels × History). has_label x s.0) before + 1, n)) (let e : c.samples ≡ samples_of (with_label x before) + length h.samples = omega (arith, samples, no_samples) in e)
        ∙ sym at_next

  module _ (k : LabelKey) (once : has_label (key_label k) labels ≡ false) (c d : Counter) (at : ℕ) (new : LabelCount) (is : IsCountOf (before ++ (labels, h) ∷ []) c) where
    -- the label whose count is at a place has one count more, and no key is new
    pub label_hinted : (old : LabelCount) → label_of old ≡ key_label k → d.seen.keys ≡ c.seen.keys → label_of new ≡ label_of old → at < length c.counts.items → d.counts.items ≡ slice_set c.counts.items at new
        → old ≡ slice_index_or c.counts.items at old → new.series ≡ old.series + 1 → new.samples ≡ old.samples + length h.samples → IsCountOf (before ++ (labels ++ key_label k ∷ [], h) ∷ []) d
    label_hinted old of kept_keys kept within set was series samples =
        let ds : List Label = distinct same_label (labels_of (now (key_label k) once)) in
        let labels_are : map label_of c.counts.items ≡ ds = (each_says (now (key_label k) once) c.counts.items ds is.counts).0 in
        let long : length ds ≡ length c.counts.items = ap length (sym labels_are) ∙ length-map c.counts.items label_of in
        let is_at : slice_index_or ds at (label_of old) ≡ key_label k =
        ap (λ (ls : List Label). slice_index_or ls at (label_of old)) (sym labels_are) ∙ get_or-map label_of c.counts.items at old (label_of old) within ∙ ap label_of (sym was) ∙ of in
        let here : IsFound same_label label_equiv label_exact (key_label k) ds at = found_at same_label label_equiv label_exact ds at (key_label k) (label_of old) (omega (arith, long, within)) is_at in
        record {
          seen =
              ap (map key_label) kept_keys
              ∙ seen_here same_label label_equiv label_exact key_label said (tally_of (now (key_label k) once)) (tally_of (next (key_label k) once)) (labels_of (now (key_label k) once)) k c.seen.keys c.counts.items (alike (key_label k) once) is.seen is.counts at here
              ∙ ap (distinct same_label) (sym (labels_on (key_label k) once));
          counts =
              ap (map said) set
              ∙ counts_here same_label label_equiv label_exact key_label said (tally_of (now (key_label k) once)) (tally_of (next (key_label k) once)) (labels_of (now (key_label k) once)) k c.seen.keys c.counts.items (alike (key_label k) once) is.seen is.counts at here within new old was (step_old (key_label k) once new old kept series samples)
              ∙ ap (λ (ls : List Label). map (tally_of (next (key_label k) once)) (distinct same_label ls)) (sym (labels_on (key_label k) once));
        }

  module _ (k : LabelKey) (once : has_label (key_label k) labels ≡ false) (c d : Counter) (at : ℕ) (new : LabelCount) (is : IsCountOf (before ++ (labels, h) ∷ []) c)
      (keys : d.seen.keys ≡ insert_key (λ a b. same_label (key_label a) (key_label b)) c.seen.keys k) (place : at ≡ at_in same_label label_equiv label_exact key_label (key_label k) c.seen.keys) where
    seen_next : map key_label d.seen.keys ≡ distinct same_label (labels_of (next (key_label k) once))
    seen_next =
        seen_on same_label label_equiv label_exact key_label said (tally_of (now (key_label k) once)) (tally_of (next (key_label k) once)) (labels_of (now (key_label k) once)) k c.seen.keys c.counts.items (alike (key_label k) once) is.seen is.counts d.seen.keys keys
        ∙ ap (distinct same_label) (sym (labels_on (key_label k) once))

    pub label_old : (old : LabelCount) → label_of new ≡ label_of old → at < length c.counts.items → d.counts.items ≡ slice_set c.counts.items at new → old ≡ slice_index_or c.counts.items at old
        → new.series ≡ old.series + 1 → new.samples ≡ old.samples + length h.samples → IsCountOf (before ++ (labels ++ key_label k ∷ [], h) ∷ []) d
    label_old old kept within set was series samples = record {
      seen = seen_next;
      counts =
          ap (map said) set
          ∙ counts_old same_label label_equiv label_exact key_label said (tally_of (now (key_label k) once)) (tally_of (next (key_label k) once)) (labels_of (now (key_label k) once)) k c.seen.keys c.counts.items (alike (key_label k) once) is.seen is.counts at place within new old was (step_old (key_label k) once new old kept series samples)
          ∙ ap (λ (ls : List Label). map (tally_of (next (key_label k) once)) (distinct same_label ls)) (sym (labels_on (key_label k) once));
    }

    pub label_new : label_of new ≡ key_label k → length c.counts.items ≤ at → d.counts.items ≡ c.counts.items ++ new ∷ [] → new.series ≡ 1 → new.samples ≡ length h.samples
        → IsCountOf (before ++ (labels ++ key_label k ∷ [], h) ∷ []) d
    label_new of beyond push series samples = record {
      seen = seen_next;
      counts =
          ap (map said) push
          ∙ counts_new same_label label_equiv label_exact key_label said (tally_of (now (key_label k) once)) (tally_of (next (key_label k) once)) (labels_of (now (key_label k) once)) k c.seen.keys c.counts.items (alike (key_label k) once) is.seen is.counts at place beyond new (step_new (key_label k) once new of series samples)
          ∙ ap (λ (ls : List Label). map (tally_of (next (key_label k) once)) (distinct same_label ls)) (sym (labels_on (key_label k) once));
    }
