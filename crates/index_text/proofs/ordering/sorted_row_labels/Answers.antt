use Rattle.std.proofs.Common.{ap, map, ◌∙◌}
use Rattle.std.proofs.lemmas.List.Filters.{dedup_is}
use Rattle.std.proofs.lemmas.Cmp.{on_equiv, and_equiv, nat_eq_equiv}
use Rattle.wal_record.specs.Labels.{label_equiv}
use Rattle.index_text.specs.declared.ordering.RowLabel.{RowLabel}
use Rattle.index_text.specs.Lent.{label_of, row_label_of, compare_row_label}
use Rattle.index_text.proofs.Distinct.{distinct_is}
use Rattle.index_text.proofs.Orders.{row_label_exact, row_label_total, row_label_ties}
use Rattle.index_text.proofs.ordering.sorted_row_labels.Goals as goal

pub returns : goal.returns
returns c =
    ap (map row_label_of) (dedup_is _ _ _ c.dedup.ensures.filtered)
    ∙ distinct_is row_label_of compare_row_label row_label_total row_label_exact _ (and_equiv (on_equiv (λ (l : RowLabel). label_of l.label) label_equiv) (on_equiv (λ (l : RowLabel). l.row) nat_eq_equiv)) (λ x y. row_label_ties (row_label_of x) (row_label_of y)) _ _ c.sort_unstable.ensures.permutation c.sort_unstable.ensures.sorted
