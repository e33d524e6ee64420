-- The orders of texts, of labels, and of the labels of rows: total, and `Equal` for what is the same alone.
use Rattle.std.proofs.Common.{◌≡◌, ℕ, Bool, false, arith, List, [], ◌∷◌, refl, ap, ◌∙◌}
use Rattle.std.specs.Prelude.{◌&&◌, nat_eq}
use Rattle.std.specs.Cmp.{IsTotalOrder}
use Rattle.std.specs.Cmp.Lexicographic.{texts_ties}
use Rattle.std.specs.FinMap.{IsAntisymmetric, nat_cmp-IsAntisymmetric, slice_cmp-IsAntisymmetric}
use Rattle.std.specs.Ordering.{nat_cmp, ordering_then, ordering_reverse, eq_by_cmp, is_eq, is_lt}
use Rattle.std.specs.declared.cmp.Ordering.{Ordering}
use Rattle.std.specs.declared.cmp.Ordering.TheVariants.{Less, Equal, Greater}
use Rattle.std.proofs.lemmas.Bool.Decides.{nat_tests}
use Rattle.std.proofs.lemmas.Cmp.{on_total, then_total, nat_list_cmp_total, nat_cmp_total, tied_itself}
use Rattle.wal_record.specs.declared.labels.Label.{Label}
use Rattle.wal_record.specs.Labels.{compare_label, same_label, same_text}
use Rattle.wal_record.proofs.Comparing.{labels_equal}
use Rattle.index_text.specs.Sets.{text_cmp}
use Rattle.index_text.specs.Lent.{compare_row_label}
use Rattle.index_text.proofs.Ranks.{IsStrictOrder, IsOrder}

pub text_exact : IsAntisymmetric text_cmp
text_exact = slice_cmp-IsAntisymmetric nat_cmp-IsAntisymmetric

pub text_total : IsTotalOrder text_cmp
text_total = nat_list_cmp_total

pub label_total : IsTotalOrder compare_label
label_total = then_total (on_total (λ (l : Label). l.name) text_total) (on_total (λ (l : Label). l.value) text_total)

first_is : (a b : Label) (as_ bs : List Label) → (a ∷ as_) ≡ (b ∷ bs) → a ≡ b
first_is a b as_ bs e = cc

pub label_exact : IsAntisymmetric compare_label
label_exact a b e = first_is a b [] [] ((labels_equal (a ∷ []) (b ∷ [])).0 (ap (λ o. ordering_then o Equal) e))

pub row_label_total : IsTotalOrder compare_row_label
row_label_total = then_total (on_total (λ (l : Label × ℕ). l.0) label_total) (on_total (λ (l : Label × ℕ). l.1) nat_cmp_total)

both_equal : (a b : Ordering) → ordering_then a b ≡ Equal → (a ≡ Equal) × (b ≡ Equal)
both_equal Less b e = absurd cc
both_equal Equal b e = (refl, e)
both_equal Greater b e = absurd cc

pub row_label_exact : IsAntisymmetric compare_row_label
row_label_exact (a, i) (b, j) e =
    let both = both_equal (compare_label a b) (nat_cmp i j) e in
    rw (label_exact a b both.0, nat_cmp-IsAntisymmetric i j both.1) refl

-- two tests in turn are those of two orders in turn
then_ties : (a b : Bool) (o p : Ordering) → a ≡ is_eq o → b ≡ is_eq p → (a && b) ≡ is_eq (ordering_then o p)
then_ties a b Less p e f = rw e refl
then_ties a b Equal p e f = rw e f
then_ties a b Greater p e f = rw e refl

pub label_ties : (a b : Label) → same_label a b ≡ eq_by_cmp compare_label a b
label_ties a b = then_ties (same_text a.name b.name) (same_text a.value b.value) (text_cmp a.name b.name) (text_cmp a.value b.value) (texts_ties a.name b.name) (texts_ties a.value b.value)

number_ties : (m n : ℕ) → nat_eq m n ≡ is_eq (nat_cmp m n)
number_ties m n = grind (arith, nat_tests)

pub row_label_ties : (a b : Label × ℕ) → (same_label a.0 b.0 && nat_eq a.1 b.1) ≡ eq_by_cmp compare_row_label a b
row_label_ties a b = then_ties (same_label a.0 b.0) (nat_eq a.1 b.1) (compare_label a.0 b.0) (nat_cmp a.1 b.1) (label_ties a.0 b.0) (number_ties a.1 b.1)

-- ---- what the laws of ascending lists ask, from a total order

module _ {A : Type 0} {cmp : A → A → Ordering} (order : IsTotalOrder cmp) where
  turned : (o p : Ordering) → o ≡ ordering_reverse p → p ≡ Less → is_lt o ≡ false
  turned o p e less = ap is_lt (e ∙ ap ordering_reverse less)

  pub strict : IsStrictOrder cmp
  strict = record {
    other = λ a b less. turned (cmp b a) (cmp a b) (order.antisymm b a) less;
    itself = λ a. ap is_lt (tied_itself order a);
  }

  pub as_order : IsOrder cmp
  as_order = record {
    then = order.trans;
    swap = λ a b greater. order.antisymm b a ∙ ap ordering_reverse greater;
  }
