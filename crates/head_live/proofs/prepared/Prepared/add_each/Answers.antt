use Rattle.std.proofs.Common.{◌≡◌, ◌+◌, ◌++◌, ◌∷◌, [], List, ap, map, sym, take, ◌∙◌, append_assoc, refl}
use Rattle.std.proofs.lemmas.List.{map-append, take_more}
use Rattle.std.proofs.lemmas.Result.{err_from_is_err_and}
use Rattle.wal_record.specs.Labels.{Labels}
use Rattle.head_live.specs.declared.rows.RawRow.{RawRow}
use Rattle.head_live.specs.Rows.{row_of}
use Rattle.head_live.proofs.PrepareLemmas.{ordered_more, row_refused}
use Rattle.head_live.proofs.prepared.Prepared.add_each.Goals as goal

pub returns-in_err-add_one-clause-refused : goal.returns-in_err-add_one-clause-refused
returns-in_err-add_one-clause-refused c =
    let p = err_from_is_err_and c.from_residual.result c.from_residual.ensures.1 in
    let refused = row_refused c.args.rows.now c.loop-row.row c.index-rows-row.result c.in_err-add_one.field-0.0 c.loop-row-test.true c.index-rows-row.is c.loop-row.invariant.ordered c.in_err-add_one.ensures.refused in
    rw (p.1, p.2) refused

pub loop-row-preserved : goal.loop-row-preserved
loop-row-preserved c =
    let raw = c.index-rows-row.result in
    let raws = c.args.rows.now in
    let i = c.loop-row.row in
    let f : RawRow → Labels = λ r. (row_of r).labels in
    let more : map f (take (i + 1) raws) ≡ map f (take i raws) ++ f raw ∷ [] =
    ap (map f) (take_more raws i raw c.loop-row-test.true ∙ ap (λ r. take i raws ++ r ∷ []) (sym c.index-rows-row.is)) ∙ map-append f (take i raws) (raw ∷ []) in
    record {
      sets =
          c.in_ok-add_one.ensures.sets ∙ ap (λ (ls : List Labels). ls ++ f raw ∷ []) c.loop-row.invariant.sets
          ∙ append_assoc c.args.self.now.sets (map f (take i raws)) (f raw ∷ []) ∙ ap (λ (ls : List Labels). c.args.self.now.sets ++ ls) (sym more);
      rows = c.in_ok-add_one.ensures.rows ∙ c.loop-row.invariant.rows;
      ordered = ordered_more raws i raw c.loop-row-test.true c.index-rows-row.is c.loop-row.invariant.ordered (c.in_ok-add_one.ensures.ordered refl);
    }
