use Rattle.std.proofs.Common.{◌≡◌, ◌∙◌, ◌∷◌, ◌++◌, [], List, ap, arith, get_or, map, of_z, refl, rules, sym, to_z, w64}
use Rattle.std.proofs.lemmas.List.{length-map, map-append, take_all}
use Rattle.std.proofs.lemmas.Int.{to_z-of_z}
use Rattle.std.specs.Prelude.{ℤ, pos}
use Rattle.wal_record.specs.Labels.{Labels}
use Rattle.head_live.specs.declared.prepared.PreparedRow.{PreparedRow}
use Rattle.head_live.specs.Keys.{labels_of_keys}
use Rattle.head_live.specs.Rows.{Row}
use Rattle.head_live.specs.Sets.{set_in, sets_in, with_set}
use Rattle.head_live.specs.Told.{row_told}
use Rattle.head_live.proofs.AgainLemmas.{numbers_within, placed_lent, rows_lent}
use Rattle.head_live.proofs.MappedLemmas.{mapped_at}
use Rattle.head_live.proofs.JudgeLemmas.{set_within}
use Rattle.head_live.proofs.telling.waiting.Goals as goal

pub loop-row-init : goal.loop-row-init
loop-row-init c = ap (map row_told) c.in_ok-waiting.ensures.items

pub set_of-requires-clause-within : goal.set_of-requires-clause-within
set_of-requires-clause-within c =
    let keys = labels_of_keys c.as_slice-sets.result.now in
    let numbers = c.numbers-numbers.result.now in
    let none : PreparedRow = record { set = 0; time = pos 0; value = pos 0 } in
    let rows = c.deref-row-items.result.now in
    let placed = placed_lent _ _ _ _ _ _ c.as_slice-sets.ensures.keys c.numbers-numbers.ensures.numbers c.deref-row-items.ensures.value c.rows.invariant.placed in
    let w = set_within (sets_in keys numbers) rows rows c.loop-row.row-index none refl placed c.loop-row-test.true in
    omega (arith, w, length-map numbers (set_in keys))

pub set_of-requires-clause-numbers : goal.set_of-requires-clause-numbers
set_of-requires-clause-numbers c = numbers_within _ _ _ _ c.as_slice-sets.ensures.keys c.numbers-numbers.ensures.numbers c.rows.invariant.used

pub loop-row-preserved : goal.loop-row-preserved
loop-row-preserved c =
    let none : PreparedRow = record { set = 0; time = pos 0; value = pos 0 } in
    let items = c.deref-row-items.result.now in
    let i = c.loop-row.row-index in
    let row : PreparedRow = get_or items i none in
    let sets : List Labels = sets_in (labels_of_keys c.as_slice-sets.result.now) c.numbers-numbers.result.now in
    let labels : c.in_ok-clone.field-0.value ≡ (with_set sets row).labels = c.in_ok-clone.ensures.cases ∙ c.set_of.ensures.set in
    let time : to_z w64 (of_z w64 row.time) ≡ row.time = search (rules, to_z-of_z) in
    let value : to_z w64 (of_z w64 row.value) ≡ row.value = search (rules, to_z-of_z) in
    let row_with : Labels → ℤ → ℤ → Row = λ l t v. record { labels = l; time = t; value = v } in
    let so_far : List Row = map row_told c.loop-row.waiting.items in
    let one = ap (λ l. row_with l (to_z w64 (of_z w64 row.time)) (to_z w64 (of_z w64 row.value))) labels ∙ (ap (λ t. row_with (with_set sets row).labels t (to_z w64 (of_z w64 row.value))) time ∙ ap (row_with (with_set sets row).labels row.time) value) in
    ap (map row_told) c.in_ok-push.ensures.items
    ∙ (map-append row_told c.loop-row.waiting.items _
    ∙ (ap (λ r. so_far ++ r ∷ []) one
    ∙ (ap (λ r. r ++ with_set sets row ∷ []) c.loop-row.invariant
    ∙ sym (mapped_at (with_set sets) items i none c.loop-row-test.true))))

pub returns : goal.returns
returns c =
    let sets : List Labels = sets_in (labels_of_keys c.as_slice-sets.result.now) c.numbers-numbers.result.now in
    let rows = c.deref-row-items.result.now in
    c.loop-row.invariant ∙ ap (map (with_set sets)) (take_all c.loop-row.row-index rows (omega (arith, c.loop-row-test.false)))
    ∙ rows_lent _ _ _ _ _ _ _ c.as_slice-sets.ensures.keys c.numbers-numbers.ensures.numbers c.deref-row-items.ensures.value c.rows.view_is
