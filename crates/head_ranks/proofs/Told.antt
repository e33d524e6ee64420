-- From the series of a head, one after another, to what is reported of it.
use Rattle.std.proofs.Common.{◌≡◌, ℕ, zero, suc, ◌+◌, ◌<◌, ◌≤◌, false, cond, List, [], ◌∷◌, ◌++◌, length, map, take, refl, sym, ap, subst, ◌∙◌, arith}
use Rattle.std.specs.Prelude.{count_by, slice_get, slice_index_or, sum_by, unwrap_or, zip}
use Rattle.std.proofs.lemmas.List.{append-nil, take_all}
use Rattle.std.proofs.lemmas.List.Sums.{sum_by-cons, sum_by_more}
use Rattle.hw_bytes.specs.Lists.{distinct}
use Rattle.hw_bytes.proofs.Lists.{flat_map-push}
use Rattle.wal_record.specs.declared.labels.Label.{Label}
use Rattle.wal_record.specs.Labels.{Labels, same_label}
use Rattle.head_column.specs.Histories.{History, no_history}
use Rattle.head_series.specs.Table.{labels_at}
use Rattle.head_core.specs.Content.{Content}
use Rattle.head_core.specs.Heads.{history_at}
use Rattle.head_ranks.specs.declared.counting.Counter.{Counter}
use Rattle.head_ranks.specs.Counts.{all_labels, has_label, label_of, samples_of, with_label}
use Rattle.head_ranks.specs.Counting.{IsCountOf, labels_of, series_of, tally_of}
use Rattle.head_ranks.specs.Ranks.{AreLabelCounts}
use Rattle.head_ranks.proofs.Tallies.{each_says, tally_push}

-- a series of no labels changes nothing
begun_tally : (before : List (Labels × History)) (h : History) (l : Label) → tally_of before l ≡ tally_of (before ++ ([], h) ∷ []) l
begun_tally before h l =
    ap (λ (n : ℕ). (l, n, samples_of (with_label l before))) (let e : count_by (λ (s : Labels × History). has_label l s.0) before ≡ count_by (λ (s : Labels × History). has_label l s.0) before + 0 = omega arith in e)
    ∙ ap (λ (n : ℕ). (l, count_by (λ (s : Labels × History). has_label l s.0) before + 0, n)) (let e : samples_of (with_label l before) ≡ samples_of (with_label l before) + 0 = omega arith in e)
    ∙ sym (tally_push before [] h l [] false refl)

map_same : {A B : Type 0} (f g : A → B) → ((a : A) → f a ≡ g a) → (xs : List A) → map f xs ≡ map g xs
map_same f g e [] = refl
map_same f g e (x ∷ xs) = ap (λ y. y ∷ map f xs) (e x) ∙ ap (λ ys. g x ∷ ys) (map_same f g e xs)

pub begun : (before : List (Labels × History)) (h : History) (c : Counter) → IsCountOf before c → IsCountOf (before ++ ([], h) ∷ []) c
begun before h c is =
    let labels : labels_of before ≡ labels_of (before ++ ([], h) ∷ []) = sym (flat_map-push (λ (s : Labels × History). s.0) before ([], h) ∙ append-nil (labels_of before)) in
    record {
      seen = is.seen ∙ ap (distinct same_label) labels;
      counts =
          is.counts
          ∙ map_same (tally_of before) (tally_of (before ++ ([], h) ∷ [])) (begun_tally before h) (distinct same_label (labels_of before))
          ∙ ap (λ (ls : List Label). map (tally_of (before ++ ([], h) ∷ [])) (distinct same_label ls)) labels;
    }

-- the series of a head, and one more
zip_more : (ss : List Labels) (hs : List History) (n : ℕ) → n < length ss → length hs ≡ length ss → take (suc n) (zip ss hs) ≡ take n (zip ss hs) ++ (slice_index_or ss n [], unwrap_or (slice_get hs n) no_history) ∷ []
zip_more [] hs n h e = absurd (omega arith)
zip_more (s ∷ ss) [] n h e = absurd cc
zip_more (s ∷ ss) (x ∷ hs) zero h e = refl
zip_more (s ∷ ss) (x ∷ hs) (suc n) h e = ap (λ (zs : List (Labels × History)). (s, x) ∷ zs) (zip_more ss hs n (let k : suc n < suc (length ss) = h in omega (arith, k)) (let k : suc (length hs) ≡ suc (length ss) = e in omega (arith, k)))

pub series_more : (c : Content) (n : ℕ) → n < length c.table.series → length c.histories ≡ length c.table.series → take (n + 1) (series_of c) ≡ take n (series_of c) ++ (labels_at c.table n, history_at c n) ∷ []
series_more c n h e = subst (λ (m : ℕ). take m (series_of c) ≡ take n (series_of c) ++ (labels_at c.table n, history_at c n) ∷ []) (let k : suc n ≡ n + 1 = omega arith in k) (zip_more c.table.series c.histories n h e)

zip_length : (ss : List Labels) (hs : List History) → length hs ≡ length ss → length (zip ss hs) ≡ length ss
zip_length [] hs e = refl
zip_length (s ∷ ss) [] e = absurd cc
zip_length (s ∷ ss) (x ∷ hs) e = ap suc (zip_length ss hs (let k : suc (length hs) ≡ suc (length ss) = e in omega (arith, k)))

pub series_all : (c : Content) (n : ℕ) → length c.table.series ≤ n → length c.histories ≡ length c.table.series → take n (series_of c) ≡ series_of c
series_all c n h e = take_all n (series_of c) (let long = zip_length c.table.series c.histories e in omega (arith, long))

zip_labels : (ss : List Labels) (hs : List History) → length hs ≡ length ss → labels_of (zip ss hs) ≡ all_labels ss
zip_labels [] hs e = refl
zip_labels (s ∷ ss) [] e = absurd cc
zip_labels (s ∷ ss) (x ∷ hs) e = ap (λ (ls : List Label). s ++ ls) (zip_labels ss hs (let k : suc (length hs) ≡ suc (length ss) = e in omega (arith, k)))

zip_count : (l : Label) (ss : List Labels) (hs : List History) → length hs ≡ length ss → count_by (λ (s : Labels × History). has_label l s.0) (zip ss hs) ≡ count_by (has_label l) ss
zip_count l [] hs e = refl
zip_count l (s ∷ ss) [] e = absurd cc
zip_count l (s ∷ ss) (x ∷ hs) e =
    sum_by-cons (λ (r : Labels × History). cond (has_label l r.0) 1 0) (s, x) (zip ss hs)
    ∙ ap (λ (n : ℕ). cond (has_label l s) 1 0 + n) (zip_count l ss hs (let k : suc (length hs) ≡ suc (length ss) = e in omega (arith, k)))
    ∙ sym (sum_by-cons (λ (r : Labels). cond (has_label l r) 1 0) s ss)

pub told : (c : Content) (k : Counter) → length c.histories ≡ length c.table.series → IsCountOf (series_of c) k → AreLabelCounts c k.counts.items
told c k e is =
    let each = each_says (series_of c) k.counts.items (distinct same_label (labels_of (series_of c))) is.counts in
    record {
      once = each.0 ∙ ap (distinct same_label) (zip_labels c.table.series c.histories e);
      series = λ i d w.
          let m = slice_index_or k.counts.items i d in
          ap (λ (t : Label × ℕ × ℕ). t.1) (each.1 i d w) ∙ zip_count (label_of m) c.table.series c.histories e;
      samples = λ i d w. ap (λ (t : Label × ℕ × ℕ). t.2) (each.1 i d w);
    }

-- a history by its slot
pub history_is : (hs : List History) (n : ℕ) → unwrap_or (slice_get hs n) no_history ≡ slice_index_or hs n no_history
history_is [] n = refl
history_is (h ∷ hs) zero = refl
history_is (h ∷ hs) (suc n) = history_is hs n

pub summed : (c : Content) (n : ℕ) (sum more : ℕ) → n < length c.histories → sum ≡ sum_by (λ (h : History). length h.samples) (take n c.histories) → more ≡ length (history_at c n).samples
    → sum + more ≡ sum_by (λ (h : History). length h.samples) (take (n + 1) c.histories)
summed c n sum more within is next =
    let one : more ≡ length (slice_index_or c.histories n no_history).samples = next ∙ ap (λ (h : History). length h.samples) (history_is c.histories n) in
    let all = sum_by_more (λ (h : History). length h.samples) c.histories n no_history within in
    omega (arith, is, one, all)
