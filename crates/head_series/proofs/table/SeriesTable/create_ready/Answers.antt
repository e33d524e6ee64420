use Rattle.std.proofs.Common.{◌≡◌, Some, ap, sym, ◌∙◌, ◌++◌, ◌∷◌, [], arith, length, refl}
use Rattle.std.specs.Prelude.{map, ◌==◌, if◌then◌else◌}
use Rattle.std.proofs.lemmas.List.{length-map}
use Rattle.head_series.specs.Bindings.{Binding}
use Rattle.head_series.specs.Texts.{with_texts, texts_of}
use Rattle.series_references.specs.ReferenceSlots.{slot_of}
use Rattle.head_series.specs.Table.{has_series}
use Rattle.head_series.specs.declared.rows.Row.{Row}
use Rattle.head_series.proofs.Created.{created}
use Rattle.head_series.proofs.RoomLemmas.{room_new}
use Rattle.head_series.proofs.Shown.{with_shown}
use Rattle.head_series.proofs.table.SeriesTable.create_ready.Goals as goal

pub invariant_of-self : goal.invariant_of-self
invariant_of-self c =
    let b : Binding = record { reference = c.args.reference; labels = c.args.labels.now } in
    let row : Row = record { numbers = c.put_all-numbers.result; previous = c.last_with-previous.result } in
    let seen = ap (λ t. t.series) c.self.view_is in
    let most = ap (λ t. t.most) c.self.view_is in
    let many : length c.args.self.now.series ≡ length c.self.inside.rows.items = ap length (sym seen) ∙ (simp length-map) in
    let below = (room_new c.args.self.now b c.requires.room c.requires.new).0 in
    let rows : length (map (λ (r : Row). r.numbers.items) c.self.inside.rows.items) ≡ length c.self.inside.rows.items = (simp length-map) in
    let counted : c.next_slot-number.result ≡ length c.self.inside.rows.items = c.next_slot-number.ensures ∙ c.self.invariant.counted ∙ rows in
    let made = created c.self.inside.seed c.self.inside.texts c.put_all-numbers.new.self (texts_of c.args.labels.now) c.self.inside.most c.self.inside.rows.items c.push_reserved.new.self.items row
    c.self.inside.last_by_hash.entries c.self.inside.last_by_hash.entries c.note_last.new.last_by_hash.entries c.self.inside.references.series c.push.new.self.series
    c.args.labels.now c.hash-hash.result c.next_slot-number.result
    c.self.invariant (c.put_all-numbers.ensures.texts ∙ ap (λ ls. with_texts c.self.inside.texts.texts (texts_of ls)) c.requires.ready) c.put_all-numbers.ensures.most c.put_all-numbers.ensures.within (c.put_all-numbers.ensures.numbers ∙ c.requires.ready)
    counted (omega (arith, below, counted, many, most)) c.hash-hash.ensures.ordered (ap (λ z. has_series z c.args.labels.now) seen ∙ c.requires.new) c.hash-hash.ensures.hash
    refl c.last_with-previous.ensures c.note_last.ensures.lasts
    c.push_reserved.ensures.items c.push.ensures.series in
    made.1

pub returns-clause-series : goal.returns-clause-series
returns-clause-series c =
    let b : Binding = record { reference = c.args.reference; labels = c.args.labels.now } in
    let row : Row = record { numbers = c.put_all-numbers.result; previous = c.last_with-previous.result } in
    let seen = ap (λ t. t.series) c.self.view_is in
    let most = ap (λ t. t.most) c.self.view_is in
    let many : length c.args.self.now.series ≡ length c.self.inside.rows.items = ap length (sym seen) ∙ (simp length-map) in
    let below = (room_new c.args.self.now b c.requires.room c.requires.new).0 in
    let rows : length (map (λ (r : Row). r.numbers.items) c.self.inside.rows.items) ≡ length c.self.inside.rows.items = (simp length-map) in
    let counted : c.next_slot-number.result ≡ length c.self.inside.rows.items = c.next_slot-number.ensures ∙ c.self.invariant.counted ∙ rows in
    let made = created c.self.inside.seed c.self.inside.texts c.put_all-numbers.new.self (texts_of c.args.labels.now) c.self.inside.most c.self.inside.rows.items c.push_reserved.new.self.items row
    c.self.inside.last_by_hash.entries c.self.inside.last_by_hash.entries c.note_last.new.last_by_hash.entries c.self.inside.references.series c.push.new.self.series
    c.args.labels.now c.hash-hash.result c.next_slot-number.result
    c.self.invariant (c.put_all-numbers.ensures.texts ∙ ap (λ ls. with_texts c.self.inside.texts.texts (texts_of ls)) c.requires.ready) c.put_all-numbers.ensures.most c.put_all-numbers.ensures.within (c.put_all-numbers.ensures.numbers ∙ c.requires.ready)
    counted (omega (arith, below, counted, many, most)) c.hash-hash.ensures.ordered (ap (λ z. has_series z c.args.labels.now) seen ∙ c.requires.new) c.hash-hash.ensures.hash
    refl c.last_with-previous.ensures c.note_last.ensures.lasts
    c.push_reserved.ensures.items c.push.ensures.series in
    made.0 ∙ ap (λ z. z ++ c.args.labels.now ∷ []) seen

pub returns-clause-slots : goal.returns-clause-slots
returns-clause-slots c =
    let at : c.self.inside.references.series ≡ c.new.result = omega (arith, c.next_slot-number.ensures, c.new.ensures) in
    with_shown c.args.self.now c.self.inside.references.slots c.push.new.self.slots c.args.reference c.new.result (ap (λ t. t.slots) c.self.view_is)
    (λ q. c.push.ensures.with q ∙ ap (λ n. if c.args.reference == q then Some n else slot_of c.self.inside.references.slots q) at)
