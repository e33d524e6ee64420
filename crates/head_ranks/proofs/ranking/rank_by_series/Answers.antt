use Rattle.std.proofs.Common.{rules}
use Rattle.std.proofs.lemmas.List.Sorted.{answers_always, ranks_by}
use Rattle.head_ranks.specs.declared.counts.LabelCount.{LabelCount}
use Rattle.head_ranks.proofs.Orders.{series_total}
use Rattle.head_ranks.proofs.ranking.rank_by_series.Goals as goal

pub returns-clause-sorted : goal.returns-clause-sorted
returns-clause-sorted c = c.sort_unstable_by.ensures.sorted _ (ranks_by series_total (λ (x : LabelCount). x)) (answers_always _ _ _ (λ f a r f' k. search rules))
