use Rattle.std.proofs.Common.{Err, ◌≡◌, ◌<◌, ◌∙◌, List, ap, get_or, length, map, of_z, pos, refl, rules, subst, sym, take, to_z, w64, arith}
use Rattle.std.proofs.lemmas.Int.{to_z-of_z}
use Rattle.std.proofs.lemmas.List.{length-map, take_all}
use Rattle.std.proofs.lemmas.Result.{err_from_is_err_and}
use Rattle.wal_record.specs.Labels.{Labels}
use Rattle.head_live.specs.declared.fault.AppendFault.TheVariants.{RefsSpent}
use Rattle.head_live.specs.declared.prepared.PreparedRow.{PreparedRow}
use Rattle.head_live.specs.Judged.{IsBatch}
use Rattle.head_live.specs.Keys.{labels_of_keys}
use Rattle.head_live.specs.Rows.{Row}
use Rattle.head_live.specs.Sets.{set_in, sets_in, with_set}
use Rattle.head_live.specs.Verdicts.{verdicts}
use Rattle.head_live.specs.Batch.{AreSpent}
use Rattle.head_live.proofs.AgainLemmas.{here_in, numbers_within, placed_lent, rows_lent}
use Rattle.head_live.proofs.JudgeLemmas.{judged_all, judged_more, judged_spent, judges_start, row_within, standing_within}
use Rattle.head_live.proofs.judging.judge.Goals as goal

pub fill_standings-requires-clause-numbers : goal.fill_standings-requires-clause-numbers
fill_standings-requires-clause-numbers c = numbers_within _ _ _ _ c.as_slice-sets.ensures.keys c.numbers-numbers.ensures.numbers c.rows.invariant.used

pub loop-row-init : goal.loop-row-init
loop-row-init c =
    let content = c.args.head.now.content in
    let sets : List Labels = sets_in (labels_of_keys c.as_slice-sets.result.now) c.numbers-numbers.result.now in
    let ss = c.fill_standings.new.standings.items in
    record {
      starts = c.in_ok-fill_standings.ensures.standings;
      judges = judges_start content sets ss c.in_ok-fill_standings.ensures.standings _ _ _ _ c.next_reference-next.ensures.next c.next_reference-next.ensures.within c.in_ok-with_capacity.ensures.items c.new.ensures.items c.in_ok-with_capacity-2.ensures.items;
    }

pub set_of-labels-requires-clause-within : goal.set_of-labels-requires-clause-within
set_of-labels-requires-clause-within c =
    let keys = labels_of_keys c.as_slice-sets.result.now in
    let numbers = c.numbers-numbers.result.now in
    let rows = c.deref-row-items.result.now in
    row_within c.args.head.now.content (sets_in keys numbers) c.fill_standings.new.standings.items rows rows refl
    (placed_lent _ _ _ _ _ _ c.as_slice-sets.ensures.keys c.numbers-numbers.ensures.numbers c.deref-row-items.ensures.value c.rows.invariant.placed)
    c.loop-row.row-index _ (length numbers) (sym (length-map numbers (set_in keys))) c.loop-row-test.true

pub set_of-labels-requires-clause-numbers : goal.set_of-labels-requires-clause-numbers
set_of-labels-requires-clause-numbers c = numbers_within _ _ _ _ c.as_slice-sets.ensures.keys c.numbers-numbers.ensures.numbers c.rows.invariant.used

pub index_mut-requires : goal.index_mut-requires
index_mut-requires c =
    let sets = sets_in (labels_of_keys c.as_slice-sets.result.now) c.numbers-numbers.result.now in
    let rows = c.deref-row-items.result.now in
    standing_within c.args.head.now.content sets c.fill_standings.new.standings.items rows rows refl
    (placed_lent _ _ _ _ _ _ c.as_slice-sets.ensures.keys c.numbers-numbers.ensures.numbers c.deref-row-items.ensures.value c.rows.invariant.placed)
    c.loop-row.row-index _ c.loop-row.standings.items _ _ _ _ _ c.loop-row.standings.ok.0 c.loop-row.invariant.judges c.loop-row-test.true

pub returns-in_err-judge_row-clause-spent : goal.returns-in_err-judge_row-clause-spent
returns-in_err-judge_row-clause-spent c =
    let content = c.args.head.now.content in
    let sets = sets_in (labels_of_keys c.as_slice-sets.result.now) c.numbers-numbers.result.now in
    let rows = c.deref-row-items.result.now in
    let p = err_from_is_err_and c.from_residual-in_err-judge_row.result c.from_residual-in_err-judge_row.ensures.1 in
    let is = p.1 in
    let of = p.2 in
    let was = c.in_err-judge_row.was in
    λ e.
    let spent : c.judge_row.result ≡ Err RefsSpent = cc in
    let same : to_z w64 (of_z w64 c.min_valid-min_valid.result) ≡ c.min_valid-min_valid.result = search (rules, to_z-of_z) in
    let time : to_z w64 (of_z w64 c.min_valid-min_valid.result) ≡ content.min_valid = same ∙ c.min_valid-min_valid.ensures in
    let q = c.judge_row.ensures.spent spent in
    subst (λ (rs : List Row). AreSpent content rs) (rows_lent _ _ _ _ _ _ _ c.as_slice-sets.ensures.keys c.numbers-numbers.ensures.numbers c.deref-row-items.ensures.value c.rows.view_is)
    (judged_spent content sets c.fill_standings.new.standings.items rows rows refl
    (placed_lent _ _ _ _ _ _ c.as_slice-sets.ensures.keys c.numbers-numbers.ensures.numbers c.deref-row-items.ensures.value c.rows.invariant.placed)
    c.loop-row.row-index _ c.loop-row.standings.items c.index_mut.result.now c.loop-row.next _ _ _ c.loop-row.invariant.starts c.loop-row.invariant.judges c.loop-row-test.true c.index_mut.ensures.value _ time q.0 q.1 q.2)

pub loop-row-preserved : goal.loop-row-preserved
loop-row-preserved c =
    let content = c.args.head.now.content in
    let keys = labels_of_keys c.as_slice-sets.result.now in
    let numbers = c.numbers-numbers.result.now in
    let sets : List Labels = sets_in keys numbers in
    let rows = c.deref-row-items.result.now in
    let none : PreparedRow = record { set = 0; time = pos 0; value = pos 0 } in
    let k = (get_or rows c.loop-row.row-index none).set in
    let placed = placed_lent _ _ _ _ _ _ c.as_slice-sets.ensures.keys c.numbers-numbers.ensures.numbers c.deref-row-items.ensures.value c.rows.invariant.placed in
    let within : k < length sets = row_within content sets c.fill_standings.new.standings.items rows rows refl placed c.loop-row.row-index none (length sets) refl c.loop-row-test.true in
    let labels : c.deref.result.now ≡ get_or sets k c.deref.result.now = here_in sets k c.deref.result.now within (c.deref.ensures ∙ c.set_of-labels.ensures.set) in
    let same : to_z w64 (of_z w64 c.min_valid-min_valid.result) ≡ c.min_valid-min_valid.result = search (rules, to_z-of_z) in
    let time : to_z w64 (of_z w64 c.min_valid-min_valid.result) ≡ content.min_valid = same ∙ c.min_valid-min_valid.ensures in
    record {
      starts = c.loop-row.invariant.starts;
      judges = judged_more content sets c.fill_standings.new.standings.items rows rows refl placed
          c.loop-row.row-index _ c.loop-row.standings.items c.index_mut.result.now c.judge_row.new.standing c.deref.result.now c.loop-row.next c.judge_row.new.next _ _ _ _ _ _
          c.loop-row.invariant.judges c.loop-row-test.true c.index_mut.ensures.value labels _ time c.in_ok-judge_row.ensures.standing c.in_ok-judge_row.ensures.next c.in_ok-judge_row.ensures.verdict c.in_ok-judge_row.ensures.series c.in_ok-judge_row.ensures.samples c.in_ok-judge_row.ensures.named;
    }

pub returns-clause-verdicts : goal.returns-clause-verdicts
returns-clause-verdicts c =
    let content = c.args.head.now.content in
    let sets : List Labels = sets_in (labels_of_keys c.as_slice-sets.result.now) c.numbers-numbers.result.now in
    let rows = c.deref-row-items.result.now in
    let all : take c.loop-row.row-index rows ≡ rows = take_all c.loop-row.row-index rows (omega (arith, c.loop-row-test.false)) in
    c.loop-row.invariant.judges.verdicts_are ∙ ap (λ (ps : List PreparedRow). verdicts content (map (with_set sets) ps)) all
    ∙ ap (verdicts content) (rows_lent _ _ _ _ _ _ _ c.as_slice-sets.ensures.keys c.numbers-numbers.ensures.numbers c.deref-row-items.ensures.value c.rows.view_is)

pub returns-clause-batch : goal.returns-clause-batch
returns-clause-batch c =
    let content = c.args.head.now.content in
    let sets : List Labels = sets_in (labels_of_keys c.as_slice-sets.result.now) c.numbers-numbers.result.now in
    let rows = c.deref-row-items.result.now in
    subst (λ (rs : List Row). IsBatch content rs c.loop-row.judged.series.items c.loop-row.judged.samples.items)
    (rows_lent _ _ _ _ _ _ _ c.as_slice-sets.ensures.keys c.numbers-numbers.ensures.numbers c.deref-row-items.ensures.value c.rows.view_is)
    (judged_all content sets c.fill_standings.new.standings.items rows rows refl
    (placed_lent _ _ _ _ _ _ c.as_slice-sets.ensures.keys c.numbers-numbers.ensures.numbers c.deref-row-items.ensures.value c.rows.invariant.placed)
    c.loop-row.row-index _ _ _ _ _ c.loop-row.invariant.starts c.loop-row-test.false c.loop-row.invariant.judges)
