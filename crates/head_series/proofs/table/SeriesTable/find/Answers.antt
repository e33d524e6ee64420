use Rattle.std.proofs.Common.{◌≡◌, Some, None, ap, sym, ◌∙◌, arith, length}
use Rattle.series_references.specs.ReferenceSlots.{pairs_of, slot_of}
use Rattle.head_series.proofs.Shown.{slot_shown}
use Rattle.std.specs.Prelude.{map}
use Rattle.std.proofs.lemmas.List.{length-map}
use Rattle.head_series.specs.declared.rows.Row.{Row}
use Rattle.head_series.proofs.table.SeriesTable.find.Goals as goal

pub returns-in-Some-clause-within : goal.returns-in-Some-clause-within
returns-in-Some-clause-within c =
    let many = simp length-map at (ap length (ap (λ t. t.series) c.self.view_is)) in
    let rows : length (map (λ (r : Row). r.numbers.items) c.self.inside.rows.items) ≡ length c.self.inside.rows.items = (simp length-map) in
    let at = c.new.ensures in
    omega (arith, c.in-Some.ensures.within, c.self.invariant.counted, many, rows, at)

pub returns-in-Some-clause-slot : goal.returns-in-Some-clause-slot
returns-in-Some-clause-slot c =
    let shown : pairs_of c.self.inside.references.slots ≡ c.args.self.now.slots = ap (λ t. t.slots) c.self.view_is in
    let found : Some c.new.result ≡ slot_of c.self.inside.references.slots c.args.reference = ap Some c.new.ensures ∙ c.in-Some.ensures.slot in
    found ∙ sym (slot_shown c.args.self.now c.self.inside.references.slots shown c.args.reference)

pub returns-in-None-clause-slot : goal.returns-in-None-clause-slot
returns-in-None-clause-slot c =
    let shown : pairs_of c.self.inside.references.slots ≡ c.args.self.now.slots = ap (λ t. t.slots) c.self.view_is in
    let found : None ≡ slot_of c.self.inside.references.slots c.args.reference = c.in-None.ensures.slot in
    found ∙ sym (slot_shown c.args.self.now c.self.inside.references.slots shown c.args.reference)
