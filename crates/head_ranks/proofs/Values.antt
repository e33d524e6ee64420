-- The labels of a name, each once, are as many as the name's values.
use Rattle.std.proofs.Common.{◌≡◌, ℕ, ◌+◌, Bool, true, false, cond, List, [], ◌∷◌, ◌++◌, length, map, refl, sym, ap, ◌∙◌, arith}
use Rattle.std.specs.Prelude.{◌&&◌, ◌||◌, count_by, filter, slice_index_or}
use Rattle.std.specs.Cmp.Lexicographic.{nat_list_eq_equiv}
use Rattle.std.specs.List.{list_any}
use Rattle.std.proofs.lemmas.List.{append-nil, length_push, map-append}
use Rattle.std.proofs.lemmas.List.Elements.{filter-append}
use Rattle.std.proofs.lemmas.List.Sums.{sum_by-cons, sum_by_push}
use Rattle.hw_bytes.specs.Lists.{distinct}
use Rattle.hw_bytes.proofs.Lists.{by_push, list_any-distinct}
use Rattle.wal_record.specs.declared.labels.Label.{Label}
use Rattle.wal_record.specs.Labels.{Text, label_equiv, same_label, same_text}
use Rattle.wal_record.proofs.SameText.{same_text_exact}
use Rattle.head_core.specs.Content.{Content}
use Rattle.head_ranks.specs.declared.counts.LabelCount.{LabelCount}
use Rattle.head_ranks.specs.declared.counts.NameCount.{NameCount}
use Rattle.head_ranks.specs.Counts.{AreNameCounts, all_labels, label_of, name_of, values_of}
use Rattle.head_ranks.specs.Ranks.{AreLabelCounts, AreValueCounts}
use Rattle.head_ranks.proofs.Distinct.{distinct_new, distinct_old}
use Rattle.head_ranks.proofs.Tallies.{label_exact}

abbrev has_name : Text → Label → Bool
has_name n l = same_text n l.name

values_push : (n : Text) (ls : List Label) (x : Label) (b : Bool) → same_text n x.name ≡ b → values_of n (ls ++ x ∷ []) ≡ values_of n ls ++ cond b (x.value ∷ []) []
values_push n ls x b e =
    ap (map (λ (l : Label). l.value)) (filter-append (has_name n) ls (x ∷ []))
    ∙ map-append (λ (l : Label). l.value) (filter (has_name n) ls) (filter (has_name n) (x ∷ []))
    ∙ ap (λ (ts : List Text). values_of n ls ++ ts) (last (same_text n x.name) e) where
      last : (c : Bool) → c ≡ b → map (λ (l : Label). l.value) (cond c (x ∷ []) []) ≡ cond b (x.value ∷ []) []
      last true e = ap (λ (c : Bool). cond c (x.value ∷ []) []) e
      last false e = ap (λ (c : Bool). cond c (x.value ∷ []) []) e

-- a label is there where its value is one of its name's
among : (n : Text) (x : Label) → n ≡ x.name → (ls : List Label) → list_any (same_label x) ls ≡ list_any (same_text x.value) (values_of n ls)
among n x e [] = refl
among n x e (l ∷ ls) = ap (λ (m : Text). (same_text m l.name && same_text x.value l.value) || list_any (same_label x) ls) (sym e) ∙ by (same_text n l.name) (among n x e ls) where
  by : (b : Bool) → list_any (same_label x) ls ≡ list_any (same_text x.value) (values_of n ls)
      → ((b && same_text x.value l.value) || list_any (same_label x) ls) ≡ list_any (same_text x.value) (map (λ (m : Label). m.value) (cond b (l ∷ filter (has_name n) ls) (filter (has_name n) ls)))
  by true i = ap (λ (r : Bool). same_text x.value l.value || r) i
  by false i = i

abbrev counted : Text → List Label → ℕ
counted n ls = count_by (has_name n) (distinct same_label ls)

abbrev valued : Text → List Label → ℕ
valued n ls = length (distinct same_text (values_of n ls))

-- one label more
counted_old : (n : Text) (ls : List Label) (x : Label) → list_any (same_label x) (distinct same_label ls) ≡ true → counted n (ls ++ x ∷ []) ≡ counted n ls
counted_old n ls x h = ap (count_by (has_name n)) (distinct_old same_label label_equiv label_exact ls x h)

counted_new : (n : Text) (ls : List Label) (x : Label) → list_any (same_label x) (distinct same_label ls) ≡ false → counted n (ls ++ x ∷ []) ≡ counted n ls + cond (same_text n x.name) 1 0
counted_new n ls x h = ap (count_by (has_name n)) (distinct_new same_label label_equiv label_exact ls x h) ∙ sum_by_push (λ (l : Label). cond (has_name n l) 1 0) (distinct same_label ls) x

-- of another name
other : (n : Text) (ls : List Label) (x : Label) → same_text n x.name ≡ false → counted n ls ≡ valued n ls → counted n (ls ++ x ∷ []) ≡ valued n (ls ++ x ∷ [])
other n ls x e is = left (list_any (same_label x) (distinct same_label ls)) refl ∙ is ∙ ap (λ (ts : List Text). length (distinct same_text ts)) (sym (values_push n ls x false e ∙ append-nil (values_of n ls))) where
  left : (b : Bool) → list_any (same_label x) (distinct same_label ls) ≡ b → counted n (ls ++ x ∷ []) ≡ counted n ls
  left true h = counted_old n ls x h
  left false h = counted_new n ls x h ∙ ap (λ (b : Bool). counted n ls + cond b 1 0) e ∙ (let same : counted n ls + 0 ≡ counted n ls = omega arith in same)

-- of this name
this : (n : Text) (ls : List Label) (x : Label) → same_text n x.name ≡ true → counted n ls ≡ valued n ls → counted n (ls ++ x ∷ []) ≡ valued n (ls ++ x ∷ [])
this n ls x e is = by (list_any (same_label x) (distinct same_label ls)) refl where
  alike : list_any (same_label x) (distinct same_label ls) ≡ list_any (same_text x.value) (distinct same_text (values_of n ls))
  alike =
      list_any-distinct same_label label_exact x ls
      ∙ among n x (same_text_exact n x.name e) ls
      ∙ sym (list_any-distinct same_text same_text_exact x.value (values_of n ls))

  by : (b : Bool) → list_any (same_label x) (distinct same_label ls) ≡ b → counted n (ls ++ x ∷ []) ≡ valued n (ls ++ x ∷ [])
  by true h =
      counted_old n ls x h
      ∙ is
      ∙ ap length (sym (distinct_old same_text nat_list_eq_equiv same_text_exact (values_of n ls) x.value (sym alike ∙ h)))
      ∙ ap (λ (ts : List Text). length (distinct same_text ts)) (sym (values_push n ls x true e))
  by false h =
      counted_new n ls x h
      ∙ ap (λ (b : Bool). counted n ls + cond b 1 0) e
      ∙ ap (λ (k : ℕ). k + 1) is
      ∙ sym (length_push (distinct same_text (values_of n ls)) x.value)
      ∙ ap length (sym (distinct_new same_text nat_list_eq_equiv same_text_exact (values_of n ls) x.value (sym alike ∙ h)))
      ∙ ap (λ (ts : List Text). length (distinct same_text ts)) (sym (values_push n ls x true e))

counted_valued : (n : Text) (ls : List Label) → counted n ls ≡ valued n ls
counted_valued n ls = by_push (λ (ms : List Label). counted n ms ≡ valued n ms) refl step ls where
  step : (ms : List Label) (x : Label) → counted n ms ≡ valued n ms → counted n (ms ++ x ∷ []) ≡ valued n (ms ++ x ∷ [])
  step ms x is = by (same_text n x.name) refl where
    by : (b : Bool) → same_text n x.name ≡ b → counted n (ms ++ x ∷ []) ≡ valued n (ms ++ x ∷ [])
    by true e = this n ms x e is
    by false e = other n ms x e is

-- the counts of labels are counted as their labels
as_labels : (n : Text) (counts : List LabelCount) → count_by (λ (k : LabelCount). same_text n (name_of k)) counts ≡ count_by (has_name n) (map label_of counts)
as_labels n [] = refl
as_labels n (k ∷ counts) =
    sum_by-cons (λ (m : LabelCount). cond (same_text n (name_of m)) 1 0) k counts
    ∙ ap (λ (s : ℕ). cond (same_text n (name_of k)) 1 0 + s) (as_labels n counts)
    ∙ sym (sum_by-cons (λ (l : Label). cond (has_name n l) 1 0) (label_of k) (map label_of counts))

pub value_counts : (c : Content) (labels : List LabelCount) (names : List NameCount) → AreLabelCounts c labels → AreNameCounts labels names → AreValueCounts c names
value_counts c labels names are is = λ i d w.
    let n = (slice_index_or names i d).name.now in
    is.values i d w ∙ as_labels n labels ∙ ap (count_by (has_name n)) are.once ∙ counted_valued n (all_labels c.table.series)
