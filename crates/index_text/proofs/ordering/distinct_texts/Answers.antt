use Rattle.std.proofs.Common.{ℕ, List, ap, ◌∙◌}
use Rattle.std.specs.Borrow.{Bor}
use Rattle.std.specs.Cmp.Lexicographic.{texts_ties}
use Rattle.std.proofs.lemmas.Cmp.{on_equiv, nat_list_eq_equiv}
use Rattle.std.proofs.lemmas.List.Filters.{dedup_is}
use Rattle.index_text.specs.Gives.{nows}
use Rattle.index_text.specs.Sets.{text_cmp}
use Rattle.index_text.proofs.Distinct.{distinct_is}
use Rattle.index_text.proofs.Orders.{text_exact, text_total}
use Rattle.index_text.proofs.ordering.distinct_texts.Goals as goal

pub returns : goal.returns
returns c =
    ap nows (dedup_is _ _ _ c.dedup.ensures.filtered)
    ∙ distinct_is (λ (t : Bor (List ℕ)). t.now) text_cmp text_total text_exact _ (on_equiv (λ (t : Bor (List ℕ)). t.now) nat_list_eq_equiv) (λ x y. texts_ties x.now y.now) _ _ c.sort_unstable.ensures.permutation c.sort_unstable.ensures.sorted
