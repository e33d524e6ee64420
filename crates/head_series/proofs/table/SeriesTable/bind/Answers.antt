use Rattle.std.proofs.Common.{◌≡◌, ◌<◌, ap, sym, subst, ◌∙◌, length, true, false, ◌++◌, ◌∷◌, [], Some}
use Rattle.std.specs.Prelude.{not, if◌then◌else◌}
use Rattle.wal_record.specs.Labels.{same_labels, labels_equiv}
use Rattle.head_series.specs.Texts.{place, with_texts, texts_of}
use Rattle.head_series.proofs.BindLemmas.{IsTableOf-push}
use Rattle.head_series.proofs.Places.{place_some, place_none, place-push, place_within}
use Rattle.head_series.proofs.table.SeriesTable.bind.Goals as goal

pub point-requires : goal.point-requires
point-requires c = place_within (same_labels c.args.labels.now) c.args.self.now.series c.in-Some.slot (sym c.in-Some.ensures.slot)

pub create-requires : goal.create-requires
create-requires c = record { new = place_none (same_labels c.args.labels.now) c.args.self.now.series (sym c.in-None.ensures.slot) }

pub returns-in_ok-point-in-Some-clause-series : goal.returns-in_ok-point-in-Some-clause-series
returns-in_ok-point-in-Some-clause-series c =
    let old = place_some (same_labels c.args.labels.now) c.args.self.now.series c.in-Some.slot (sym c.in-Some.ensures.slot) in
    c.point.ensures.series ∙ ap (λ b. if b then c.args.self.now.series else c.args.self.now.series ++ c.args.labels.now ∷ []) (sym old)

pub returns-in_ok-point-in-Some-clause-created : goal.returns-in_ok-point-in-Some-clause-created
returns-in_ok-point-in-Some-clause-created c = ap not (sym (place_some (same_labels c.args.labels.now) c.args.self.now.series c.in-Some.slot (sym c.in-Some.ensures.slot)))

pub returns-in_ok-point-in-Some-clause-texts : goal.returns-in_ok-point-in-Some-clause-texts
returns-in_ok-point-in-Some-clause-texts c =
    let old = place_some (same_labels c.args.labels.now) c.args.self.now.series c.in-Some.slot (sym c.in-Some.ensures.slot) in
    c.point.ensures.texts ∙ ap (λ b. if b then c.args.self.now.texts else with_texts c.args.self.now.texts (texts_of c.args.labels.now)) (sym old)

pub returns-in_ok-point-in-Some-clause-room : goal.returns-in_ok-point-in-Some-clause-room
returns-in_ok-point-in-Some-clause-room c _ full =
    let old = place_some (same_labels c.args.labels.now) c.args.self.now.series c.in-Some.slot (sym c.in-Some.ensures.slot) in
    let k : true ≡ false = sym old ∙ full.0 in absurd (cc)

pub returns-in_ok-point-in-Some-clause-table : goal.returns-in_ok-point-in-Some-clause-table
returns-in_ok-point-in-Some-clause-table c bs h =
    let old = place_some (same_labels c.args.labels.now) c.args.self.now.series c.in-Some.slot (sym c.in-Some.ensures.slot) in
    IsTableOf-push bs c.args.self.now c.point.new.self (record { reference = c.args.reference; labels = c.args.labels.now }) c.in-Some.slot h
    (c.point.ensures.series ∙ ap (λ b. if b then c.args.self.now.series else c.args.self.now.series ++ c.args.labels.now ∷ []) (sym old))
    (ap (place (same_labels c.args.labels.now)) c.point.ensures.series ∙ sym c.in-Some.ensures.slot)
    c.in_ok-point-in-Some.ensures.slots c.in_ok-point-in-Some.ensures.greatest
    (c.point.ensures.texts ∙ ap (λ b. if b then c.args.self.now.texts else with_texts c.args.self.now.texts (texts_of c.args.labels.now)) (sym old))

pub returns-in-Ok-clause-series : goal.returns-in-Ok-clause-series
returns-in-Ok-clause-series c =
    let new = place_none (same_labels c.args.labels.now) c.args.self.now.series (sym c.in-None.ensures.slot) in
    c.in-Ok.ensures.series ∙ ap (λ b. if b then c.args.self.now.series else c.args.self.now.series ++ c.args.labels.now ∷ []) (sym new)

pub returns-in-Ok-clause-slot : goal.returns-in-Ok-clause-slot
returns-in-Ok-clause-slot c =
    let new = place_none (same_labels c.args.labels.now) c.args.self.now.series (sym c.in-None.ensures.slot) in
    ap (place (same_labels c.args.labels.now)) c.in-Ok.ensures.series ∙ place-push (same_labels c.args.labels.now) c.args.self.now.series c.args.labels.now new (labels_equiv.refl c.args.labels.now) ∙ ap Some (sym c.in-Ok.ensures.slot)

pub returns-in-Ok-clause-created : goal.returns-in-Ok-clause-created
returns-in-Ok-clause-created c = ap not (sym (place_none (same_labels c.args.labels.now) c.args.self.now.series (sym c.in-None.ensures.slot)))

pub returns-in-Ok-clause-texts : goal.returns-in-Ok-clause-texts
returns-in-Ok-clause-texts c =
    let new = place_none (same_labels c.args.labels.now) c.args.self.now.series (sym c.in-None.ensures.slot) in
    c.in-Ok.ensures.texts ∙ ap (λ b. if b then c.args.self.now.texts else with_texts c.args.self.now.texts (texts_of c.args.labels.now)) (sym new)

pub returns-in-Ok-clause-table : goal.returns-in-Ok-clause-table
returns-in-Ok-clause-table c bs h =
    let new = place_none (same_labels c.args.labels.now) c.args.self.now.series (sym c.in-None.ensures.slot) in
    IsTableOf-push bs c.args.self.now c.create.new.self (record { reference = c.args.reference; labels = c.args.labels.now }) c.in-Ok.slot h
    (c.in-Ok.ensures.series ∙ ap (λ b. if b then c.args.self.now.series else c.args.self.now.series ++ c.args.labels.now ∷ []) (sym new))
    (ap (place (same_labels c.args.labels.now)) c.in-Ok.ensures.series ∙ place-push (same_labels c.args.labels.now) c.args.self.now.series c.args.labels.now new (labels_equiv.refl c.args.labels.now) ∙ ap Some (sym c.in-Ok.ensures.slot))
    c.in-Ok.ensures.slots c.in-Ok.ensures.greatest
    (c.in-Ok.ensures.texts ∙ ap (λ b. if b then c.args.self.now.texts else with_texts c.args.self.now.texts (texts_of c.args.labels.now)) (sym new))

pub returns-in_ok-point-in-Some-clause-within : goal.returns-in_ok-point-in-Some-clause-within
returns-in_ok-point-in-Some-clause-within c =
    subst (λ ss. c.in-Some.slot < length ss) (sym c.point.ensures.series) (place_within (same_labels c.args.labels.now) c.args.self.now.series c.in-Some.slot (sym c.in-Some.ensures.slot))

pub returns-in_err-point-in-Some-clause-limit : goal.returns-in_err-point-in-Some-clause-limit
returns-in_err-point-in-Some-clause-limit c new _ =
    let k : true ≡ false = sym (place_some (same_labels c.args.labels.now) c.args.self.now.series c.in-Some.slot (sym c.in-Some.ensures.slot)) ∙ new in absurd (cc)

pub returns-in_ok-point-in-Some-clause-limit : goal.returns-in_ok-point-in-Some-clause-limit
returns-in_ok-point-in-Some-clause-limit c new _ =
    let k : true ≡ false = sym (place_some (same_labels c.args.labels.now) c.args.self.now.series c.in-Some.slot (sym c.in-Some.ensures.slot)) ∙ new in absurd (cc)
