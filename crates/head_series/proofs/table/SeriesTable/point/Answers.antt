use Rattle.std.proofs.Common.{Some, ap, sym, ◌∙◌, refl}
use Rattle.std.specs.Prelude.{◌==◌, if◌then◌else◌}
use Rattle.head_series.proofs.Shown.{alike_shown, kept_shown, on_err, slot_shown}
use Rattle.series_references.proofs.SlotLemmas.{shown_slot}
use Rattle.head_series.proofs.table.SeriesTable.point.Goals as goal

pub returns-in_err-reserve-clause-kept : goal.returns-in_err-reserve-clause-kept
returns-in_err-reserve-clause-kept c =
    on_err c.from_residual-in_err-reserve.result _
    (alike_shown c.args.self.now _ c.self.inside.references.slots c.reserve.new.self.slots (ap (λ t. t.slots) c.self.view_is) refl
    (ap (λ t. t.series) c.self.view_is) (ap (λ t. t.greatest) c.self.view_is) (ap (λ t. t.texts) c.self.view_is) (ap (λ t. t.most) c.self.view_is) c.reserve.ensures.same)

pub returns-then-has-clause-slots : goal.returns-then-has-clause-slots
returns-then-has-clause-slots c =
    kept_shown c.args.self.now c.self.inside.references.slots c.args.reference c.args.slot (ap (λ t. t.slots) c.self.view_is) (c.has.ensures.yes c.if-has.true ∙ ap Some c.number.ensures)

pub returns-clause-slots : goal.returns-clause-slots
returns-clause-slots c q =
    c.point_ready.ensures.slots q
    ∙ ap (λ o. if c.args.reference == q then Some c.args.slot else o)
    (shown_slot c.reserve.new.self.slots q ∙ c.reserve.ensures.same q ∙ sym (slot_shown c.args.self.now c.self.inside.references.slots (ap (λ t. t.slots) c.self.view_is) q))

pub returns-in_err-node-clause-again : goal.returns-in_err-node-clause-again
returns-in_err-node-clause-again c = λ e.
    absurd (c.has.ensures.no c.if-has.false (sym (slot_shown c.args.self.now c.self.inside.references.slots (ap (λ t. t.slots) c.self.view_is) c.args.reference) ∙ e ∙ ap Some (sym c.number.ensures)))

pub returns-in_err-reserve-clause-again : goal.returns-in_err-reserve-clause-again
returns-in_err-reserve-clause-again c = λ e.
    absurd (c.has.ensures.no c.if-has.false (sym (slot_shown c.args.self.now c.self.inside.references.slots (ap (λ t. t.slots) c.self.view_is) c.args.reference) ∙ e ∙ ap Some (sym c.number.ensures)))
