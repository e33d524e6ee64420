use Rattle.std.proofs.Common.{◌≡◌, ◌∙◌, ap, arith, of_calls, of_z, rules, to_z, w64}
use Rattle.std.specs.Prelude.{int_le, int_lt}
use Rattle.std.proofs.lemmas.Int.{to_z-of_z}
use Rattle.std.proofs.lemmas.List.Sorted.{IsPartitionPoint-from_clause}
use Rattle.head_column.specs.declared.items.Run.{Run}
use Rattle.head_column.proofs.Merged.{ends-parted}
use Rattle.query_commands.proofs.RunSearch.{all_over, first_open}
use Rattle.query_commands.proofs.selection.is_hidden.Goals as goal

-- the run that was found is the first one that is not over before the time
pub returns-in-Some : goal.returns-in-Some
returns-in-Some c =
    λ apart.
    let runs = c.args.runs.now in
    let time = c.args.time in
    let n = c.partition_point-over.result in
    let r = c.in-Some.run'.now in
    let there = c.in-Some.ensures.lookup.3 in
    let point = IsPartitionPoint-from_clause (λ (r : Run). int_lt r.max_time time) runs n c.partition_point-over.ensures.partitioned (ends-parted runs time apart) (λ a r q k. search (rules, of_calls)) in
    let same : int_le (to_z w64 (of_z w64 r.min_time)) (to_z w64 (of_z w64 time)) ≡ int_le r.min_time time = search (rules, to_z-of_z) in
    same ∙ ap (λ (x : Run). int_le x.min_time time) (there.1 r) ∙ first_open runs n time r apart there.0 (λ k d l. point.0 k d (omega arith) l) (point.1 n r (omega arith) there.0)

pub returns-in-None : goal.returns-in-None
returns-in-None c =
    λ apart.
    let runs = c.args.runs.now in
    let time = c.args.time in
    let past = c.in-None.ensures.lookup.3 in
    let point = IsPartitionPoint-from_clause (λ (r : Run). int_lt r.max_time time) runs c.partition_point-over.result c.partition_point-over.ensures.partitioned (ends-parted runs time apart) (λ a r q k. search (rules, of_calls)) in
    all_over runs time (λ k d l. point.0 k d (omega arith) (omega (arith, past, l)))
