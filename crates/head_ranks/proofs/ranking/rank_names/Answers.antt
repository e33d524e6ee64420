use Rattle.std.proofs.Common.{rules}
use Rattle.std.proofs.lemmas.List.Sorted.{answers_always, ranks_by}
use Rattle.head_ranks.specs.declared.counts.NameCount.{NameCount}
use Rattle.head_ranks.proofs.Orders.{values_total}
use Rattle.head_ranks.proofs.ranking.rank_names.Goals as goal

pub returns-clause-sorted : goal.returns-clause-sorted
returns-clause-sorted c = c.sort_unstable_by.ensures.sorted _ (ranks_by values_total (λ (x : NameCount). x)) (answers_always _ _ _ (λ f a r f' k. search rules))
