use Rattle.std.proofs.Common.{rules, ◌≡◌, ◌<◌, true, false, length, sym, ◌∙◌}
use Rattle.index_text.proofs.Chains.{ascending_from, ascending_to}
use Rattle.index_text.proofs.rows.are_rows.Goals as goal

pub returns-clause-rows : goal.returns-clause-rows
returns-clause-rows c t =
    let each : c.each_is_row.result ≡ true = search rules in
    let many : 0 < length c.args.rows.now = search rules in
    record {
      some = many;
      each = c.each_is_row.ensures.each each;
      ascending = ascending_from c.args.rows.now (sym c.ascend.ensures ∙ t);
    }

clash : true ≡ false → ⊥
clash e = cc

pub returns-clause-other : goal.returns-clause-other
returns-clause-other c f rows = clash (sym (ascending_to c.args.rows.now rows.ascending) ∙ sym c.ascend.ensures ∙ f)
