use Rattle.std.proofs.Common.{◌≡◌, ◌∙◌, ◌∷◌, ◌++◌, [], List, Some, ap, of_z, rules, sym, to_z, true, w64}
use Rattle.std.proofs.lemmas.Int.{to_z-of_z}
use Rattle.std.specs.Prelude.{ℤ}
use Rattle.wal_record.specs.Labels.{same_labels}
use Rattle.head_column.specs.Histories.{latest}
use Rattle.head_column.specs.Times.{reaches}
use Rattle.head_core.specs.Heads.{history_at}
use Rattle.head_series.specs.Texts.{place}
use Rattle.head_live.specs.declared.placed.PlacedSample.{PlacedSample}
use Rattle.head_live.specs.Told.{answer_of}
use Rattle.head_live.proofs.CloseLemmas.{found_reached, placed_row}
use Rattle.head_live.proofs.DifferLemmas.{not_reached}
use Rattle.head_live.proofs.placing.place_row.Goals as goal

pub returns-in_ok-push-in-Accepted-clause-rows : goal.returns-in_ok-push-in-Accepted-clause-rows
returns-in_ok-push-in-Accepted-clause-rows c = λ _.
    let content = c.args.head.now.content in
    let row = c.args.row.now in
    let slot = c.number.result in
    let old = c.args.accepted.now.items in
    let found : place (same_labels row.labels.value) content.table.series ≡ Some slot =
    ap (λ l. place (same_labels l) content.table.series) (sym c.deref.ensures) ∙ (sym c.find.ensures.slot ∙ (c.in-Some.is ∙ ap Some (sym c.number.ensures))) in
    let time : to_z w64 (of_z w64 row.time) ≡ row.time = search (rules, to_z-of_z) in
    let value : to_z w64 (of_z w64 row.value) ≡ row.value = search (rules, to_z-of_z) in
    let sample : ℤ → ℤ → List PlacedSample = λ t v. old ++ record { slot = slot; time = t; value = v } ∷ [] in
    let pushed : c.push.new.self.items ≡ sample row.time row.value =
    c.in_ok-push-in-Accepted.ensures.items ∙ (ap (λ t. sample t (to_z w64 (of_z w64 row.value))) time ∙ ap (sample row.time) value) in
    placed_row content row slot old c.push.new.self.items found c.in-Accepted.is pushed

pub returns-in-Some-find-clause-stale : goal.returns-in-Some-find-clause-stale
returns-in-Some-find-clause-stale c = λ h _.
    let content = c.args.head.now.content in
    let row = c.args.row.now in
    let slot = c.in-Some-find.slot in
    let found : place (same_labels row.labels.value) content.table.series ≡ Some slot =
    ap (λ l. place (same_labels l) content.table.series) (sym c.deref-in-Stale.ensures) ∙ (sym c.find-in-Stale.ensures.slot ∙ c.in-Some-find.is) in
    let time : to_z w64 (of_z w64 row.time) ≡ row.time = search (rules, to_z-of_z) in
    let reached : reaches (latest (history_at content slot).samples) row.time ≡ c.reaches.result =
    ap (reaches (latest (history_at content slot).samples)) (sym time) ∙ (ap (λ o. reaches o (to_z w64 (of_z w64 row.time))) (sym c.last_time.ensures) ∙ sym c.reaches.ensures) in
    found_reached content row.labels.value slot row.time true found (reached ∙ h)

pub returns-in-Some-find-clause-impossible : goal.returns-in-Some-find-clause-impossible
returns-in-Some-find-clause-impossible c = λ no.
    let content = c.args.head.now.content in
    let row = c.args.row.now in
    let slot = c.in-Some-find.slot in
    let found : place (same_labels row.labels.value) content.table.series ≡ Some slot =
    ap (λ l. place (same_labels l) content.table.series) (sym c.deref-in-Stale.ensures) ∙ (sym c.find-in-Stale.ensures.slot ∙ c.in-Some-find.is) in
    let time : to_z w64 (of_z w64 row.time) ≡ row.time = search (rules, to_z-of_z) in
    let reached : reaches (latest (history_at content slot).samples) row.time ≡ c.reaches.result =
    ap (reaches (latest (history_at content slot).samples)) (sym time) ∙ (ap (λ o. reaches o (to_z w64 (of_z w64 row.time))) (sym c.last_time.ensures) ∙ sym c.reaches.ensures) in
    not_reached content (answer_of row) slot found c.in-Stale.is (reached ∙ no)
