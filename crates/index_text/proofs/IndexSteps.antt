-- One name more in the loop over label indices, and one label more in that over lists of postings.
use Rattle.std.proofs.Common.{◌≡◌, ℕ, ◌+◌, ◌<◌, Bool, List, [], ◌∷◌, map, take, drop, refl, ap}
use Rattle.std.specs.Cmp.Lexicographic.{texts_ties}
use Rattle.wal_record.specs.declared.labels.Label.{Label}
use Rattle.wal_record.specs.Labels.{compare_label, same_label, same_text}
use Rattle.index_text.specs.declared.ordering.LentLabel.{LentLabel}
use Rattle.index_text.specs.declared.ordering.RowLabel.{RowLabel}
use Rattle.index_text.specs.Groups.{keys, run_length}
use Rattle.index_text.specs.Index.{label_index_body}
use Rattle.index_text.specs.Layout.{Text}
use Rattle.index_text.specs.Lent.{label_of, row_label_of}
use Rattle.index_text.specs.Sets.{text_cmp}
use Rattle.index_text.proofs.GroupLaws.{KeysRise, groups}
use Rattle.index_text.proofs.GroupLoops.{some, step_names, step_parts, step_rises}
use Rattle.index_text.proofs.Orders.{label_exact, label_ties, label_total, text_exact, text_total}

abbrev pub name_of : Label → Text
name_of p = p.name

abbrev pub label_in : Label × ℕ → Label
label_in l = l.0

-- the contents of the label index of labels with one name
abbrev pub index_body : List Text → List Label → Text
index_body table ms = label_index_body table (map (λ (p : Label). p.value) ms)

pub values_lent : (xs : List LentLabel) → map (λ (l : LentLabel). l.value.now) xs ≡ map (λ (p : Label). p.value) (map label_of xs)
values_lent [] = refl
values_lent (x ∷ xs) = ap (λ vs. x.value.now ∷ vs) (values_lent xs)

module _ (labels : List LentLabel) (start m : ℕ) (first : LentLabel) (shape : drop start labels ≡ first ∷ drop (start + 1) labels)
    (rises : KeysRise name_of text_cmp (map label_of (drop start labels))) (long : m ≡ run_length (λ (y : LentLabel). same_text y.name.now first.name.now) (drop start labels)) where
  abbrev with_name : LentLabel → Bool
  with_name y = same_text y.name.now first.name.now

  pub name_some : 0 < m
  name_some = some label_of name_of text_cmp text_total text_exact (drop start labels) first (drop (start + 1) labels) with_name m shape rises (λ y. texts_ties y.name.now first.name.now) long

  pub name_names : keys name_of text_cmp (map label_of (drop start labels)) ≡ first.name.now ∷ keys name_of text_cmp (map label_of (drop m (drop start labels)))
  name_names = step_names label_of name_of text_cmp text_total text_exact (drop start labels) first (drop (start + 1) labels) with_name m shape rises (λ y. texts_ties y.name.now first.name.now) long

  pub name_parts : {B : Type 0} (g : List Label → B) → groups name_of text_cmp g (map label_of (drop start labels)) ≡ g (map label_of (take m (drop start labels))) ∷ groups name_of text_cmp g (map label_of (drop m (drop start labels)))
  name_parts g = step_parts label_of name_of text_cmp text_total text_exact (drop start labels) first (drop (start + 1) labels) with_name m shape rises (λ y. texts_ties y.name.now first.name.now) long g

  pub name_rises : KeysRise name_of text_cmp (map label_of (drop m (drop start labels)))
  name_rises = step_rises label_of name_of text_cmp text_total text_exact (drop start labels) first (drop (start + 1) labels) with_name m shape rises (λ y. texts_ties y.name.now first.name.now) long

module _ (labels : List RowLabel) (start m : ℕ) (first : RowLabel) (shape : drop start labels ≡ first ∷ drop (start + 1) labels)
    (rises : KeysRise label_in compare_label (map row_label_of (drop start labels))) (long : m ≡ run_length (λ (y : RowLabel). same_label (label_of y.label) (label_of first.label)) (drop start labels)) where
  abbrev with_label : RowLabel → Bool
  with_label y = same_label (label_of y.label) (label_of first.label)

  pub label_some : 0 < m
  label_some = some row_label_of label_in compare_label label_total label_exact (drop start labels) first (drop (start + 1) labels) with_label m shape rises (λ y. label_ties (label_of y.label) (label_of first.label)) long

  pub label_names : keys label_in compare_label (map row_label_of (drop start labels)) ≡ label_of first.label ∷ keys label_in compare_label (map row_label_of (drop m (drop start labels)))
  label_names = step_names row_label_of label_in compare_label label_total label_exact (drop start labels) first (drop (start + 1) labels) with_label m shape rises (λ y. label_ties (label_of y.label) (label_of first.label)) long

  pub label_parts : {B : Type 0} (g : List (Label × ℕ) → B) → groups label_in compare_label g (map row_label_of (drop start labels)) ≡ g (map row_label_of (take m (drop start labels))) ∷ groups label_in compare_label g (map row_label_of (drop m (drop start labels)))
  label_parts g = step_parts row_label_of label_in compare_label label_total label_exact (drop start labels) first (drop (start + 1) labels) with_label m shape rises (λ y. label_ties (label_of y.label) (label_of first.label)) long g

  pub label_rises : KeysRise label_in compare_label (map row_label_of (drop m (drop start labels)))
  label_rises = step_rises row_label_of label_in compare_label label_total label_exact (drop start labels) first (drop (start + 1) labels) with_label m shape rises (λ y. label_ties (label_of y.label) (label_of first.label)) long
