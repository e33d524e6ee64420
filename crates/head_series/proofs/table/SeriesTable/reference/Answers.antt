use Rattle.std.proofs.Common.{◌≡◌, Some, ap, subst, arith, length}
use Rattle.std.specs.Prelude.{map}
use Rattle.std.proofs.lemmas.List.{length-map}
use Rattle.head_series.specs.declared.rows.Row.{Row}
use Rattle.series_references.specs.ReferenceSlots.{pairs_of, slot_of}
use Rattle.head_series.specs.Table.{IsLeast}
use Rattle.head_series.proofs.Shown.{least_shown}
use Rattle.head_series.proofs.table.SeriesTable.reference.Goals as goal

pub least-requires : goal.least-requires
least-requires c =
    let many = simp length-map at (ap length (ap (λ t. t.series) c.self.view_is)) in
    let rows : length (map (λ (r : Row). r.numbers.items) c.self.inside.rows.items) ≡ length c.self.inside.rows.items = (simp length-map) in
    omega (arith, many, rows, c.requires, c.self.invariant.counted, c.number.ensures)

pub returns : goal.returns
returns c =
    let shown : pairs_of c.self.inside.references.slots ≡ c.args.self.now.slots = ap (λ t. t.slots) c.self.view_is in
    least_shown c.args.self.now c.self.inside.references.slots c.args.slot c.least.result shown
    (subst (λ n. IsLeast (λ r. slot_of c.self.inside.references.slots r ≡ Some n) c.least.result) c.number.ensures c.least.ensures)
