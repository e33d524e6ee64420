use Rattle.std.proofs.Common.{◌≡◌, ◌+◌, ◌++◌, ℕ, Some, length, ap, sym, ◌∙◌}
use Rattle.std.proofs.lemmas.Result.{on_ok_weaker, IfOk-weaker}
use Rattle.wal_record.specs.Labels.{same_labels}
use Rattle.head_series.specs.Texts.{place}
use Rattle.head_series.proofs.Places.{place_none}
use Rattle.head_core.proofs.DraftLemmas.{place_behind, series_new, slot_known}
use Rattle.head_core.proofs.draft.RoomDraft.slot_for.Goals as goal

pub returns-in-Some-clause-series : goal.returns-in-Some-clause-series
returns-in-Some-clause-series c = (slot_known c.args.table.now.series c.args.self.now.series c.args.labels.now c.in-Some.slot (sym c.in-Some.ensures.slot)).0

pub returns-in-Some-clause-slot : goal.returns-in-Some-clause-slot
returns-in-Some-clause-slot c = (slot_known c.args.table.now.series c.args.self.now.series c.args.labels.now c.in-Some.slot (sym c.in-Some.ensures.slot)).1

pub returns-in-None-clause-series : goal.returns-in-None-clause-series
returns-in-None-clause-series c =
    let none = place_none (same_labels c.args.labels.now) c.args.table.now.series (sym c.in-None.ensures.slot) in
    on_ok_weaker c.add.result (series_new c.args.table.now.series c.args.self.now.series c.add.new.self.series c.args.labels.now none) c.add.ensures.series

pub returns-in-None-clause-slot : goal.returns-in-None-clause-slot
returns-in-None-clause-slot c =
    let none = place_none (same_labels c.args.labels.now) c.args.table.now.series (sym c.in-None.ensures.slot) in
    IfOk-weaker c.add.result
    (λ slot. (own : ℕ) × (place (same_labels c.args.labels.now) c.add.new.self.series ≡ Some own) × (slot ≡ length c.args.table.now.series + own))
    (λ slot. place (same_labels c.args.labels.now) (c.args.table.now.series ++ c.add.new.self.series) ≡ Some slot)
    (λ slot (own, at, is). place_behind (same_labels c.args.labels.now) c.args.table.now.series c.add.new.self.series own none at ∙ ap Some (sym is))
    c.add.ensures.slot
