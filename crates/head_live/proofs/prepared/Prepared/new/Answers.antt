use Rattle.std.proofs.Common.{◌≡◌, ◌++◌, List, ap, map, ◌∙◌}
use Rattle.wal_record.specs.Labels.{Labels}
use Rattle.head_live.specs.Rows.{row_again, row_of}
use Rattle.head_live.proofs.AgainLemmas.{rows_in_order}
use Rattle.head_live.proofs.prepared.Prepared.new.Goals as goal

pub returns-in-Ok-clause-rows : goal.returns-in-Ok-clause-rows
returns-in-Ok-clause-rows c =
    let raws = c.args.rows.now in
    let sets = c.add_each.new.self.sets in
    let is : sets ≡ map (λ raw. (row_of raw).labels) raws = c.in_ok-add_each.ensures.sets ∙ ap (λ (ls : List Labels). ls ++ map (λ raw. (row_of raw).labels) raws) c.empty-prepared.ensures.sets in
    c.in-Ok.ensures.rows ∙ ap (map (row_again sets)) (c.deref.ensures.value ∙ c.in_ok-in_order.ensures.rows) ∙ rows_in_order sets raws is
