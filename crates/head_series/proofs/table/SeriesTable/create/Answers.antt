use Rattle.std.proofs.Common.{ap, ◌∙◌, ◌++◌, ◌∷◌, [], arith, length, List, Some, refl, ◌≡◌, ◌+◌}
use Rattle.std.specs.Prelude.{map, ◌==◌, if◌then◌else◌}
use Rattle.std.proofs.lemmas.List.{length-map}
use Rattle.head_series.specs.Texts.{Text, texts_of}
use Rattle.head_series.specs.Rows.{labels_in}
use Rattle.series_references.specs.ReferenceSlots.{slot_of}
use Rattle.head_series.specs.Table.{has_series}
use Rattle.head_series.specs.declared.rows.Row.{Row}
use Rattle.head_series.proofs.Shown.{alike_shown, on_err, with_shown}
use Rattle.head_series.proofs.Created.{created}
use Rattle.head_series.proofs.table.SeriesTable.create.Goals as goal

pub invariant_of-self-2 : goal.invariant_of-self-2
invariant_of-self-2 c =
    let row : Row = record { numbers = c.in-Ok.numbers; previous = c.last_with-previous.result } in
    let seen = ap (λ t. t.series) c.self.view_is in
    let made = created c.self.inside.seed c.self.inside.texts c.numbers.new.self (texts_of c.args.labels.now) c.self.inside.most c.self.inside.rows.items c.push_reserved.new.self.items row
    c.self.inside.last_by_hash.entries c.reserve-2.new.self.entries c.note_last.new.last_by_hash.entries c.self.inside.references.series c.push.new.self.series
    c.args.labels.now c.hash-hash.result c.len-slot.result
    c.self.invariant c.in-Ok.ensures.texts c.in-Ok.ensures.most c.in-Ok.ensures.within c.in-Ok.ensures.numbers
    (c.len-slot.ensures ∙ c.self.inside.rows.ok.0) (omega (arith, c.if-slot-self.false)) c.hash-hash.ensures.ordered (ap (λ z. has_series z c.args.labels.now) seen ∙ c.requires.new) c.hash-hash.ensures.hash
    c.in_ok-reserve-2.ensures.entries c.last_with-previous.ensures c.note_last.ensures.lasts
    (c.push_reserved.ensures.items ∙ ap (λ z. z ++ row ∷ []) c.in_ok-reserve.ensures.items)
    (c.push.ensures.series ∙ ap (λ n. n + 1) (c.in_ok-reserve-3.ensures.series ∙ c.in_ok-reserve_series.ensures.series)) in
    made.1

pub returns-clause-series : goal.returns-clause-series
returns-clause-series c =
    let row : Row = record { numbers = c.in-Ok.numbers; previous = c.last_with-previous.result } in
    let seen = ap (λ t. t.series) c.self.view_is in
    let made = created c.self.inside.seed c.self.inside.texts c.numbers.new.self (texts_of c.args.labels.now) c.self.inside.most c.self.inside.rows.items c.push_reserved.new.self.items row
    c.self.inside.last_by_hash.entries c.reserve-2.new.self.entries c.note_last.new.last_by_hash.entries c.self.inside.references.series c.push.new.self.series
    c.args.labels.now c.hash-hash.result c.len-slot.result
    c.self.invariant c.in-Ok.ensures.texts c.in-Ok.ensures.most c.in-Ok.ensures.within c.in-Ok.ensures.numbers
    (c.len-slot.ensures ∙ c.self.inside.rows.ok.0) (omega (arith, c.if-slot-self.false)) c.hash-hash.ensures.ordered (ap (λ z. has_series z c.args.labels.now) seen ∙ c.requires.new) c.hash-hash.ensures.hash
    c.in_ok-reserve-2.ensures.entries c.last_with-previous.ensures c.note_last.ensures.lasts
    (c.push_reserved.ensures.items ∙ ap (λ z. z ++ row ∷ []) c.in_ok-reserve.ensures.items)
    (c.push.ensures.series ∙ ap (λ n. n + 1) (c.in_ok-reserve-3.ensures.series ∙ c.in_ok-reserve_series.ensures.series)) in
    made.0 ∙ ap (λ z. z ++ c.args.labels.now ∷ []) seen

pub returns-in_err-reserve_series-clause-kept : goal.returns-in_err-reserve_series-clause-kept
returns-in_err-reserve_series-clause-kept c =
    on_err c.from_residual-in_err-reserve_series.result _
    (alike_shown c.args.self.now _ c.self.inside.references.slots c.reserve_series.new.self.slots (ap (λ t. t.slots) c.self.view_is) refl
    (ap (λ (rs : List Row). map (labels_in c.self.inside.texts.texts) (map (λ (r : Row). r.numbers.items) rs)) c.in_ok-reserve.ensures.items ∙ ap (λ t. t.series) c.self.view_is)
    (ap (λ t. t.greatest) c.self.view_is) (ap (λ t. t.texts) c.self.view_is) (ap (λ t. t.most) c.self.view_is) (λ r. ap (λ o. slot_of o r) c.reserve_series.ensures.slots))

pub returns-in_err-reserve-2-clause-kept : goal.returns-in_err-reserve-2-clause-kept
returns-in_err-reserve-2-clause-kept c =
    on_err c.from_residual-in_err-reserve-2.result _
    (alike_shown c.args.self.now _ c.self.inside.references.slots c.reserve_series.new.self.slots (ap (λ t. t.slots) c.self.view_is) refl
    (ap (λ (rs : List Row). map (labels_in c.self.inside.texts.texts) (map (λ (r : Row). r.numbers.items) rs)) c.in_ok-reserve.ensures.items ∙ ap (λ t. t.series) c.self.view_is)
    (ap (λ t. t.greatest) c.self.view_is) (ap (λ t. t.texts) c.self.view_is) (ap (λ t. t.most) c.self.view_is) (λ r. ap (λ o. slot_of o r) c.in_ok-reserve_series.ensures.slots))

pub returns-in_err-reserve-3-clause-kept : goal.returns-in_err-reserve-3-clause-kept
returns-in_err-reserve-3-clause-kept c =
    on_err c.from_residual-in_err-reserve-3.result _
    (alike_shown c.args.self.now _ c.self.inside.references.slots c.reserve-3.new.self.slots (ap (λ t. t.slots) c.self.view_is) refl
    (ap (λ (rs : List Row). map (labels_in c.self.inside.texts.texts) (map (λ (r : Row). r.numbers.items) rs)) c.in_ok-reserve.ensures.items ∙ ap (λ t. t.series) c.self.view_is)
    (ap (λ t. t.greatest) c.self.view_is) (ap (λ t. t.texts) c.self.view_is) (ap (λ t. t.most) c.self.view_is) (λ r. c.reserve-3.ensures.same r ∙ ap (λ o. slot_of o r) c.in_ok-reserve_series.ensures.slots))

pub returns-in-Err-Full-clause-kept : goal.returns-in-Err-Full-clause-kept
returns-in-Err-Full-clause-kept c =
    (alike_shown c.args.self.now _ c.self.inside.references.slots c.reserve-3.new.self.slots (ap (λ t. t.slots) c.self.view_is) refl
    (ap (λ (ts : List Text). map (labels_in ts) (map (λ (r : Row). r.numbers.items) c.reserve.new.self.items)) c.in-Err-Full.ensures.kept ∙ ap (λ (rs : List Row). map (labels_in c.self.inside.texts.texts) (map (λ (r : Row). r.numbers.items) rs)) c.in_ok-reserve.ensures.items ∙ ap (λ t. t.series) c.self.view_is)
    (ap (λ t. t.greatest) c.self.view_is) (c.in-Err-Full.ensures.kept ∙ ap (λ t. t.texts) c.self.view_is) (ap (λ t. t.most) c.self.view_is) (λ r. c.in_ok-reserve-3.ensures.same r ∙ ap (λ o. slot_of o r) c.in_ok-reserve_series.ensures.slots))

pub returns-in-Err-Memory-clause-kept : goal.returns-in-Err-Memory-clause-kept
returns-in-Err-Memory-clause-kept c =
    (alike_shown c.args.self.now _ c.self.inside.references.slots c.reserve-3.new.self.slots (ap (λ t. t.slots) c.self.view_is) refl
    (ap (λ (ts : List Text). map (labels_in ts) (map (λ (r : Row). r.numbers.items) c.reserve.new.self.items)) c.in-Err-Memory.ensures.kept ∙ ap (λ (rs : List Row). map (labels_in c.self.inside.texts.texts) (map (λ (r : Row). r.numbers.items) rs)) c.in_ok-reserve.ensures.items ∙ ap (λ t. t.series) c.self.view_is)
    (ap (λ t. t.greatest) c.self.view_is) (c.in-Err-Memory.ensures.kept ∙ ap (λ t. t.texts) c.self.view_is) (ap (λ t. t.most) c.self.view_is) (λ r. c.in_ok-reserve-3.ensures.same r ∙ ap (λ o. slot_of o r) c.in_ok-reserve_series.ensures.slots))

pub returns-clause-slots : goal.returns-clause-slots
returns-clause-slots c =
    let many : length (map (λ (r : Row). r.numbers.items) c.self.inside.rows.items) ≡ length c.self.inside.rows.items = (simp length-map) in
    let at : c.reserve-3.new.self.series ≡ c.new.result = omega (arith, many, c.in_ok-reserve-3.ensures.series, c.in_ok-reserve_series.ensures.series, c.self.invariant.counted, c.len-slot.ensures, c.self.inside.rows.ok.0, c.new.ensures) in
    with_shown c.args.self.now c.self.inside.references.slots c.push.new.self.slots c.args.reference c.new.result (ap (λ t. t.slots) c.self.view_is)
    (λ q. c.push.ensures.with q ∙ ap (λ n. if c.args.reference == q then Some n else slot_of c.reserve-3.new.self.slots q) at
    ∙ ap (λ o. if c.args.reference == q then Some c.new.result else o) (c.in_ok-reserve-3.ensures.same q ∙ ap (λ o. slot_of o q) c.in_ok-reserve_series.ensures.slots))
