use Rattle.std.proofs.Common.{Some, ap, ◌∙◌}
use Rattle.std.specs.Prelude.{◌==◌, if◌then◌else◌}
use Rattle.series_references.specs.ReferenceSlots.{slot_of}
use Rattle.head_series.specs.Table.{IsWith}
use Rattle.head_series.proofs.Shown.{with_shown}
use Rattle.head_series.proofs.table.SeriesTable.point_ready.Goals as goal

pub returns-clause-slots : goal.returns-clause-slots
returns-clause-slots c =
    let with : IsWith (slot_of c.self.inside.references.slots) c.args.reference c.args.slot (slot_of c.point.new.self.slots) = (λ q. c.point.ensures.with q ∙ ap (λ n. if c.args.reference == q then Some n else slot_of c.self.inside.references.slots q) c.number.ensures) in
    with_shown c.args.self.now c.self.inside.references.slots c.point.new.self.slots c.args.reference c.args.slot (ap (λ t. t.slots) c.self.view_is) with
