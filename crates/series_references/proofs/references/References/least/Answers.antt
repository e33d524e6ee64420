use Rattle.std.proofs.Common.{◌≡◌, ◌<◌, ◌≤◌, ℕ, true, [], Some, ap, subst, ◌∙◌, arith, length}
use Rattle.std.specs.Prelude.{slice_index}
use Rattle.std.proofs.lemmas.List.{get_or_default}
use Rattle.series_references.specs.Has.{has}
use Rattle.series_references.specs.ReferenceSlots.{slot_of}
use Rattle.series_references.specs.References.{kept_at}
use Rattle.series_references.specs.Slots.{IsLeast}
use Rattle.series_references.proofs.KeptLemmas.{least_kept}
use Rattle.series_references.proofs.references.References.least.Goals as goal

pub returns-then-has : goal.returns-then-has
returns-then-has c =
    let shown : c.self.inside.slots ≡ c.args.self.now.slots = ap (λ o. o.slots) c.self.view_is in
    let many : length c.self.inside.candidates.items ≡ c.args.self.now.series = ap (λ o. o.series) c.self.view_is in
    let below : c.args.slot < length c.self.inside.candidates.items = omega (arith, many, c.requires) in
    let at : c.index.result.now ≡ kept_at c.self.inside.candidates.items c.args.slot = c.index.ensures ∙ get_or_default c.self.inside.candidates.items c.args.slot _ [] below in
    subst (λ o. IsLeast (λ r. slot_of o r ≡ Some c.args.slot) (Some c.least-least.result)) shown
    (least_kept (slot_of c.self.inside.slots) c.self.inside.candidates.items c.args.slot c.least-least.result c.self.invariant below (c.least-least.ensures.first ∙ ap (λ ns. slice_index ns 0) at)
    (subst (λ ns. (r : ℕ) → has ns r ≡ true → c.least-least.result ≤ r) at c.least-least.ensures.least) (c.has.ensures.yes c.if-has.true))
