use Rattle.std.proofs.Common.{arith, rules, of_calls}
use Rattle.std.proofs.lemmas.List.Sorted.{IsPartitionPoint-from_clause}
use Rattle.head_column.specs.Merging.{ends_before}
use Rattle.head_column.proofs.Merged.{ends_before-parted, with_run-split}
use Rattle.head_column.proofs.runs.count_before.Goals as goal

pub returns-clause-front : goal.returns-clause-front
returns-clause-front c =
    let runs = c.args.runs.now in
    let run = c.args.run.now in
    let point = IsPartitionPoint-from_clause (λ h. ends_before h run) runs _ c.partition_point.ensures.partitioned (ends_before-parted runs run c.requires) (λ a r q k. search (rules, of_calls)) in
    with_run-split runs _ run c.partition_point.ensures.bound (λ k d l. point.0 k d (omega arith) l) (λ d l. point.1 _ d (omega arith) l)
