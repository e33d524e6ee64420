use Rattle.std.proofs.Common.{rules}
use Rattle.std.proofs.lemmas.List.Sorted.{answers_always}
use Rattle.std.proofs.lemmas.Result.{on_ok_weaker}
use Rattle.std.specs.Prelude.{ℤ}
use Rattle.block_cut.proofs.ranges.sort_hours.Goals as goal

pub returns-clause-sorted : goal.returns-clause-sorted
returns-clause-sorted c = on_ok_weaker c.sort_by_key.result (λ s. s (λ (h : ℤ). h) (answers_always _ _ _ (λ f a r f' k. search rules))) c.sort_by_key.ensures.sorted
