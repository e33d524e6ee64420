use Rattle.std.proofs.Common.{ap, sym, ◌∙◌, ◌++◌, ◌∷◌, [], Some}
use Rattle.std.specs.Prelude.{not, if◌then◌else◌}
use Rattle.wal_record.specs.Labels.{same_labels, labels_equiv}
use Rattle.head_series.specs.Texts.{place, with_texts, texts_of}
use Rattle.head_series.proofs.BindLemmas.{IsTableOf-push}
use Rattle.head_series.proofs.Places.{place_some, place_none, place-push}
use Rattle.head_series.proofs.RoomLemmas.{room_left}
use Rattle.head_series.proofs.table.SeriesTable.bind_ready.Goals as goal

pub create_ready-slot-requires-clause-new : goal.create_ready-slot-requires-clause-new
create_ready-slot-requires-clause-new c = place_none (same_labels c.args.labels.now) c.args.self.now.series (sym c.in-None.ensures.slot)

pub returns-in-Some-clause-series : goal.returns-in-Some-clause-series
returns-in-Some-clause-series c =
    let old = place_some (same_labels c.args.labels.now) c.args.self.now.series c.in-Some.slot (sym c.in-Some.ensures.slot) in c.point_ready.ensures.series ∙ ap (λ b. if b then c.args.self.now.series else c.args.self.now.series ++ c.args.labels.now ∷ []) (sym old)

pub returns-in-Some-clause-created : goal.returns-in-Some-clause-created
returns-in-Some-clause-created c =
    let old = place_some (same_labels c.args.labels.now) c.args.self.now.series c.in-Some.slot (sym c.in-Some.ensures.slot) in ap not (sym old)

pub returns-in-Some-clause-texts : goal.returns-in-Some-clause-texts
returns-in-Some-clause-texts c =
    let old = place_some (same_labels c.args.labels.now) c.args.self.now.series c.in-Some.slot (sym c.in-Some.ensures.slot) in c.point_ready.ensures.texts ∙ ap (λ b. if b then c.args.self.now.texts else with_texts c.args.self.now.texts (texts_of c.args.labels.now)) (sym old)

pub returns-in-Some-clause-left : goal.returns-in-Some-clause-left
returns-in-Some-clause-left c bs h =
    let old = place_some (same_labels c.args.labels.now) c.args.self.now.series c.in-Some.slot (sym c.in-Some.ensures.slot) in
    room_left c.args.self.now c.point_ready.new.self (record { reference = c.args.reference; labels = c.args.labels.now }) bs (c.point_ready.ensures.uses c.args.labels.now)
    (c.point_ready.ensures.series ∙ ap (λ b. if b then c.args.self.now.series else c.args.self.now.series ++ c.args.labels.now ∷ []) (sym old))
    (c.point_ready.ensures.texts ∙ ap (λ b. if b then c.args.self.now.texts else with_texts c.args.self.now.texts (texts_of c.args.labels.now)) (sym old)) c.point_ready.ensures.most h

pub returns-in-Some-clause-table : goal.returns-in-Some-clause-table
returns-in-Some-clause-table c bs h =
    let old = place_some (same_labels c.args.labels.now) c.args.self.now.series c.in-Some.slot (sym c.in-Some.ensures.slot) in
    IsTableOf-push bs c.args.self.now c.point_ready.new.self (record { reference = c.args.reference; labels = c.args.labels.now }) c.in-Some.slot h
    (c.point_ready.ensures.series ∙ ap (λ b. if b then c.args.self.now.series else c.args.self.now.series ++ c.args.labels.now ∷ []) (sym old))
    (ap (place (same_labels c.args.labels.now)) c.point_ready.ensures.series ∙ sym c.in-Some.ensures.slot)
    c.point_ready.ensures.slots c.point_ready.ensures.greatest (c.point_ready.ensures.texts ∙ ap (λ b. if b then c.args.self.now.texts else with_texts c.args.self.now.texts (texts_of c.args.labels.now)) (sym old))

pub returns-in-None-clause-series : goal.returns-in-None-clause-series
returns-in-None-clause-series c =
    let new = place_none (same_labels c.args.labels.now) c.args.self.now.series (sym c.in-None.ensures.slot) in c.create_ready-slot.ensures.series ∙ ap (λ b. if b then c.args.self.now.series else c.args.self.now.series ++ c.args.labels.now ∷ []) (sym new)

pub returns-in-None-clause-slot : goal.returns-in-None-clause-slot
returns-in-None-clause-slot c =
    let new = place_none (same_labels c.args.labels.now) c.args.self.now.series (sym c.in-None.ensures.slot) in ap (place (same_labels c.args.labels.now)) c.create_ready-slot.ensures.series ∙ place-push (same_labels c.args.labels.now) c.args.self.now.series c.args.labels.now new (labels_equiv.refl c.args.labels.now) ∙ ap Some (sym c.create_ready-slot.ensures.slot)

pub returns-in-None-clause-created : goal.returns-in-None-clause-created
returns-in-None-clause-created c =
    let new = place_none (same_labels c.args.labels.now) c.args.self.now.series (sym c.in-None.ensures.slot) in ap not (sym new)

pub returns-in-None-clause-texts : goal.returns-in-None-clause-texts
returns-in-None-clause-texts c =
    let new = place_none (same_labels c.args.labels.now) c.args.self.now.series (sym c.in-None.ensures.slot) in c.create_ready-slot.ensures.texts ∙ ap (λ b. if b then c.args.self.now.texts else with_texts c.args.self.now.texts (texts_of c.args.labels.now)) (sym new)

pub returns-in-None-clause-left : goal.returns-in-None-clause-left
returns-in-None-clause-left c bs h =
    let new = place_none (same_labels c.args.labels.now) c.args.self.now.series (sym c.in-None.ensures.slot) in
    room_left c.args.self.now c.create_ready-slot.new.self (record { reference = c.args.reference; labels = c.args.labels.now }) bs c.create_ready-slot.ensures.uses
    (c.create_ready-slot.ensures.series ∙ ap (λ b. if b then c.args.self.now.series else c.args.self.now.series ++ c.args.labels.now ∷ []) (sym new))
    (c.create_ready-slot.ensures.texts ∙ ap (λ b. if b then c.args.self.now.texts else with_texts c.args.self.now.texts (texts_of c.args.labels.now)) (sym new)) c.create_ready-slot.ensures.most h

pub returns-in-None-clause-table : goal.returns-in-None-clause-table
returns-in-None-clause-table c bs h =
    let new = place_none (same_labels c.args.labels.now) c.args.self.now.series (sym c.in-None.ensures.slot) in
    IsTableOf-push bs c.args.self.now c.create_ready-slot.new.self (record { reference = c.args.reference; labels = c.args.labels.now }) c.create_ready-slot.result h
    (c.create_ready-slot.ensures.series ∙ ap (λ b. if b then c.args.self.now.series else c.args.self.now.series ++ c.args.labels.now ∷ []) (sym new))
    (ap (place (same_labels c.args.labels.now)) c.create_ready-slot.ensures.series ∙ place-push (same_labels c.args.labels.now) c.args.self.now.series c.args.labels.now new (labels_equiv.refl c.args.labels.now) ∙ ap Some (sym c.create_ready-slot.ensures.slot))
    c.create_ready-slot.ensures.slots c.create_ready-slot.ensures.greatest (c.create_ready-slot.ensures.texts ∙ ap (λ b. if b then c.args.self.now.texts else with_texts c.args.self.now.texts (texts_of c.args.labels.now)) (sym new))
