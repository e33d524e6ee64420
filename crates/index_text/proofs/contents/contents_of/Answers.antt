use Rattle.std.proofs.Common.{List, ◌∷◌, [], map, ap, sym, subst, ◌∙◌}
use Rattle.std.specs.List.{flat_map}
use Rattle.std.proofs.lemmas.List.Sorted.{IsPermutation-map}
use Rattle.wal_record.specs.declared.labels.Label.{Label}
use Rattle.index_text.specs.declared.ordering.RowLabel.{RowLabel}
use Rattle.index_text.specs.Index.{labels_from, symbols}
use Rattle.index_text.specs.Lent.{compare_row_label, label_of, row_label_of}
use Rattle.index_text.specs.Posted.{labels_in}
use Rattle.index_text.specs.Sets.{IsAscending, ascending, text_cmp}
use Rattle.index_text.proofs.Arranged.{ascending-moved}
use Rattle.index_text.proofs.Orders.{as_order, row_label_exact, row_label_total}
use Rattle.index_text.proofs.Ranks.{ascending-is}
use Rattle.index_text.proofs.RowLists.{all_below, pairs_are}
use Rattle.index_text.proofs.contents.contents_of.Goals as goal

pub distinct_labels-requires : goal.distinct_labels-requires
distinct_labels-requires c =
    let sorted = c.sorted_row_labels-labels.ensures ∙ ascending-moved compare_row_label row_label_total row_label_exact _ _ (IsPermutation-map row_label_of _ _ c.arrange.ensures) ∙ ap (ascending compare_row_label) c.in_ok-labels.ensures in
    subst (λ (ls : List RowLabel). IsAscending compare_row_label (map row_label_of ls)) (sym c.as_slice-2.ensures.value) (subst (IsAscending compare_row_label) (sym sorted) (ascending-is compare_row_label (as_order row_label_total) (labels_from 0 c.args.rows.now)))

pub returns-clause-labels : goal.returns-clause-labels
returns-clause-labels c = c.sorted_row_labels-labels.ensures ∙ ascending-moved compare_row_label row_label_total row_label_exact _ _ (IsPermutation-map row_label_of _ _ c.arrange.ensures) ∙ ap (ascending compare_row_label) c.in_ok-labels.ensures

pub returns-clause-within : goal.returns-clause-within
returns-clause-within c = all_below c.sorted_row_labels-labels.result.items c.args.rows.now (returns-clause-labels c)

pub returns-clause-pairs : goal.returns-clause-pairs
returns-clause-pairs c =
    c.in_ok-pairs.ensures ∙ ap (λ ls. labels_in (map row_label_of ls)) c.as_slice-2.ensures.value
    ∙ ap labels_in (returns-clause-labels c) ∙ pairs_are c.args.rows.now

pub returns-clause-symbols : goal.returns-clause-symbols
unfolding symbols
returns-clause-symbols c =
    c.distinct_texts-symbols.ensures ∙ ap (ascending text_cmp) (c.in_ok-texts_of.ensures ∙ ap (λ ls. flat_map (λ (l : Label). l.name ∷ l.value ∷ []) (map label_of ls)) c.as_slice-3.ensures.value ∙ ap (flat_map (λ (l : Label). l.name ∷ l.value ∷ [])) (returns-clause-pairs c))
