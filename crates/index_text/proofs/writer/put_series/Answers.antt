use Rattle.std.proofs.Common.{rules, ◌≡◌, ◌/◌, ◌++◌, ◌∷◌, [], ℕ, List, length, get_or, refl, ap, sym, subst, ◌∙◌, arith, ◌^◌, ◌<◌, ◌≤◌}
use Rattle.std.specs.List.{AllByRecursion}
use Rattle.index_text.specs.declared.row.IndexRow.{IndexRow}
use Rattle.index_text.specs.Gives.{nows}
use Rattle.index_text.specs.Layout.{counted}
use Rattle.index_text.specs.Index.{series_body}
use Rattle.index_text.proofs.Places.{text_step, ids_step, id_small, row_small, small_more, small_push}
use Rattle.index_text.proofs.writer.put_series.Goals as goal

pub loop-row-preserved : goal.loop-row-preserved
loop-row-preserved c =
    let table : List (List ℕ) = nows c.args.table.now in
    let body : c.as_slice.result.now ≡ series_body (nows c.args.table.now) c.row-item.result =
    (c.as_slice.ensures.value ∙ c.in_ok-put_series_body.ensures ∙ ap (λ t. t ++ series_body (nows c.args.table.now) c.row-item.result) c.clear.ensures.items) in
    let done : c.put_counted.new.out.items ≡ c.put_padding.new.bytes.items ++ counted (series_body (nows c.args.table.now) (get_or c.args.rows.now c.loop-row.row-index c.row-item.result)) =
    (c.in_ok-put_counted.ensures.text ∙ ap (λ b. c.put_padding.new.bytes.items ++ counted b) body
    ∙ ap (λ r. c.put_padding.new.bytes.items ++ counted (series_body (nows c.args.table.now) r)) c.row-item.is) in
    let number : c.in_ok-four_bytes_of.field-0 ≡ length c.put_padding.new.bytes.items / 16 = search rules in
    let short : length (series_body (nows c.args.table.now) c.row-item.result) < 2 ^ 32 = subst (λ b. length b < 2 ^ 32) body (c.in_ok-put_counted.ensures.small refl) in
    let narrow : c.in_ok-four_bytes_of.field-0 < 2 ^ 32 = search rules in
    record {
      small = small_more (λ (r : IndexRow). length (series_body (nows c.args.table.now) r)) c.args.rows.now c.loop-row.row-index c.row-item.result c.loop-row-test.true c.row-item.is c.loop-row.invariant.small short;
      small_ids = subst (AllByRecursion (λ (id : ℕ). id < 2 ^ 32)) (sym c.in_ok-push.ensures.items) (small_push c.loop-row.ids.items c.in_ok-four_bytes_of.field-0 c.loop-row.invariant.small_ids narrow);
      text = text_step 16 (λ (r : IndexRow). counted (series_body (nows c.args.table.now) r)) c.args.out.now.items c.args.rows.now c.loop-row.row-index c.row-item.result c.loop-row.out.items c.put_padding.new.bytes.items c.put_counted.new.out.items
          c.loop-row-test.true c.loop-row.invariant.text c.in_ok-put_padding.ensures done;
      ids = c.in_ok-push.ensures.items ∙ ap (λ k. c.loop-row.ids.items ++ k ∷ []) number ∙ ids_step 16 (λ (r : IndexRow). counted (series_body (nows c.args.table.now) r)) c.args.out.now.items c.args.rows.now c.loop-row.row-index c.row-item.result c.loop-row.out.items c.put_padding.new.bytes.items
          c.loop-row.ids.items (λ n. n / 16) c.loop-row-test.true c.loop-row.invariant.text c.in_ok-put_padding.ensures c.loop-row.invariant.ids;
    }

-- the ids fit, so the one of the row at hand does
pub returns-in_err-four_bytes_of-clause-large : goal.returns-in_err-four_bytes_of-clause-large
returns-in_err-four_bytes_of-clause-large c e bodies ids =
    let f : IndexRow → List ℕ = λ (r : IndexRow). counted (series_body (nows c.args.table.now) r) in
    let number : 2 ^ 32 ≤ length c.put_padding.new.bytes.items / 16 = search rules in
    id_small 16 (λ (r : IndexRow). counted (series_body (nows c.args.table.now) r)) c.args.out.now.items c.args.rows.now c.loop-row.row-index c.loop-row.out.items c.put_padding.new.bytes.items (λ n. n / 16)
    c.loop-row-test.true c.loop-row.invariant.text c.in_ok-put_padding.ensures number ids

pub returns-in_err-put_counted-clause-large : goal.returns-in_err-put_counted-clause-large
returns-in_err-put_counted-clause-large c e bodies ids =
    let body : c.as_slice.result.now ≡ series_body (nows c.args.table.now) c.row-item.result =
    (c.as_slice.ensures.value ∙ c.in_ok-put_series_body.ensures ∙ ap (λ t. t ++ series_body (nows c.args.table.now) c.row-item.result) c.clear.ensures.items) in
    let large : 2 ^ 32 ≤ length c.as_slice.result.now = search rules in
    let small : length (series_body (nows c.args.table.now) c.row-item.result) < 2 ^ 32 = row_small (λ (r : IndexRow). length (series_body (nows c.args.table.now) r)) c.args.rows.now c.loop-row.row-index c.row-item.result c.loop-row-test.true c.row-item.is bodies in
    omega (arith, subst (λ b. 2 ^ 32 ≤ length b) body large, small)
