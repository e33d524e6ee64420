use Rattle.std.proofs.Common.{List, ap, ◌∙◌, refl}
use Rattle.std.specs.Prelude.{map}
use Rattle.head_series.specs.Texts.{Text}
use Rattle.series_references.specs.ReferenceSlots.{slot_of}
use Rattle.head_series.specs.Rows.{labels_in}
use Rattle.head_series.specs.declared.rows.Row.{Row}
use Rattle.head_series.proofs.Shown.{alike_shown}
use Rattle.head_series.proofs.table.SeriesTable.grow.Goals as goal

pub returns-in_err-make_room-clause-kept : goal.returns-in_err-make_room-clause-kept
returns-in_err-make_room-clause-kept c =
    alike_shown c.args.self.now _ c.self.inside.references.slots c.make_room.new.self.slots (ap (λ t. t.slots) c.self.view_is) refl
    (ap (λ (ts : List Text). map (labels_in ts) (map (λ (r : Row). r.numbers.items) c.reserve.new.self.items)) c.reserve-3.ensures.texts ∙ ap (λ (rs : List Row). map (labels_in c.self.inside.texts.texts) (map (λ (r : Row). r.numbers.items) rs)) c.in_ok-reserve.ensures.items ∙ ap (λ t. t.series) c.self.view_is)
    (ap (λ t. t.greatest) c.self.view_is) (c.reserve-3.ensures.texts ∙ ap (λ t. t.texts) c.self.view_is) (ap (λ t. t.most) c.self.view_is) (λ r. c.make_room.ensures.same r ∙ ap (λ o. slot_of o r) c.in_ok-reserve_series.ensures.slots)

pub returns-clause-kept : goal.returns-clause-kept
returns-clause-kept c =
    alike_shown c.args.self.now _ c.self.inside.references.slots c.make_room.new.self.slots (ap (λ t. t.slots) c.self.view_is) refl
    (ap (λ (ts : List Text). map (labels_in ts) (map (λ (r : Row). r.numbers.items) c.reserve.new.self.items)) c.reserve-3.ensures.texts ∙ ap (λ (rs : List Row). map (labels_in c.self.inside.texts.texts) (map (λ (r : Row). r.numbers.items) rs)) c.in_ok-reserve.ensures.items ∙ ap (λ t. t.series) c.self.view_is)
    (ap (λ t. t.greatest) c.self.view_is) (c.reserve-3.ensures.texts ∙ ap (λ t. t.texts) c.self.view_is) (ap (λ t. t.most) c.self.view_is) (λ r. c.make_room.ensures.same r ∙ ap (λ o. slot_of o r) c.in_ok-reserve_series.ensures.slots)
