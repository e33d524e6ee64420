use Rattle.std.proofs.Common.{◌≡◌, ◌∙◌, None, ap, ℤ, List, subst, w64}
use Rattle.std.proofs.lemmas.Int.{to_z-of_z}
use Rattle.head_column.specs.Hours.{HasTime, IsEdge}
use Rattle.head_core.specs.Content.{Content}
use Rattle.block_cut.specs.declared.fault.CutFault.TheVariants.{Edge}
use Rattle.block_read.specs.Blocks.{IsBlockOf}
use Rattle.block_read.specs.declared.rows.BlockRow.{BlockRow}
use Rattle.block_cut.specs.Logs.{IsBlockOfLog}
use Rattle.hour_rows.specs.Rows.{rows_of}
use Rattle.log_directory.proofs.Told.{told_ok}
use Rattle.block_commands.proofs.Uncut.{both_ok, not_refused}
use Rattle.block_commands.proofs.cutting.block_of.Goals as goal

pub returns : goal.returns
returns g c = λ times log m covers at.
    let fits = to_z-of_z w64 c.args.hour c.ranges.hour in
    let k : ℤ = c.args.hour in
    let hour : c.in-Some.hour ≡ k = c.in-Some.ensures.some.0 ∙ fits in
    let time : HasTime k = subst HasTime fits c.in-Some.ensures.some.1 in
    let content : Content = c.args.head.now.content in
    told_ok c.plan_in.result c.map_err.result _ _ (λ block. IsBlockOfLog c.args.encoding log m k c.args.ulid.now block) c.map_err.ensures.cases
    (λ block both.
    let inner : IsEdge k → ⊥ = subst (λ (j : ℤ). IsEdge j → ⊥) hour both.1 in
    let rows : rows_of k content ≡ rows_of k at.whole = ap (rows_of k) at.seen ∙ c.rows_suffice.ensures k times at.whole (covers time inner) in
    let is = subst (λ (j : ℤ). IsBlockOf c.args.encoding block (record { ulid = c.args.ulid.now; hour = j; rows = rows_of j content })) hour both.0 in
    record {
      records = at.replayed.placed;
      damage = None;
      content = at.whole;
      reading = at.replayed.reading;
      is_content = at.replayed.content;
      min_valid = at.replayed.min_valid;
      is_block = subst (λ (rs : List BlockRow). IsBlockOf c.args.encoding block (record { ulid = c.args.ulid.now; hour = k; rows = rs })) rows is;
    })
    (both_ok _ (λ block. IsEdge c.in-Some.hour → ⊥) c.plan_in.result c.plan_in.ensures.block (not_refused c.plan_in.result Edge (IsEdge c.in-Some.hour) (λ edge. c.plan_in.ensures.edge.1 edge)))
