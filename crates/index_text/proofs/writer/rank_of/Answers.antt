use Rattle.std.proofs.Common.{rules, ℕ, List, sym}
use Rattle.std.specs.Borrow.{Bor}
use Rattle.std.specs.Ordering.{is_lt}
use Rattle.std.proofs.lemmas.List.Sorted.{IsPartitionPoint-from_clause}
use Rattle.index_text.specs.Sets.{text_cmp}
use Rattle.index_text.proofs.Orders.{as_order, text_total}
use Rattle.index_text.proofs.Ranks.{parted, rank-point}
use Rattle.index_text.proofs.writer.rank_of.Goals as goal

pub returns : goal.returns
returns c =
    let key : Bor (List ℕ) → List ℕ = λ t. t.now in
    let point = IsPartitionPoint-from_clause (λ (t : Bor (List ℕ)). is_lt (text_cmp t.now c.args.text.now)) _ _ c.partition_point.ensures.partitioned (parted text_cmp (λ (t : Bor (List ℕ)). t.now) (as_order text_total) c.args.text.now c.args.table.now c.requires) (λ a r q k. search rules) in
    sym (rank-point text_cmp (λ (t : Bor (List ℕ)). t.now) c.args.text.now c.args.table.now c.partition_point.result c.partition_point.ensures.bound point)
