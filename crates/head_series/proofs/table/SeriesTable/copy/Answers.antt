use Rattle.std.proofs.Common.{◌≡◌, List, ap, ◌∙◌, refl}
use Rattle.std.specs.Prelude.{map}
use Rattle.head_series.specs.declared.rows.Row.{Row}
use Rattle.series_references.specs.ReferenceSlots.{pairs_of}
use Rattle.head_series.specs.Rows.{labels_in}
use Rattle.head_series.specs.Texts.{Text}
use Rattle.head_series.proofs.Shown.{alike_shown}
use Rattle.head_series.proofs.CopyLemmas.{IsSound-alike}
use Rattle.head_series.proofs.table.SeriesTable.copy.Goals as goal

pub invariant_of-result : goal.invariant_of-result
invariant_of-result c =
    let rows = c.self.inside.rows.items in
    let copies = c.in_ok-copied_rows.field-0.items in
    IsSound-alike c.self.inside.seed c.self.inside.texts c.in_ok-copy.field-0 c.self.inside.most (map (λ (r : Row). r.numbers.items) rows) (map (λ (r : Row). r.numbers.items) copies) (map (λ (r : Row). r.previous) rows) (map (λ (r : Row). r.previous) copies)
    c.self.inside.last_by_hash.entries c.in_ok-copied.field-0.entries c.self.inside.references.series c.in_ok-copy-2.field-0.series c.self.invariant
    c.in_ok-copy.ensures.texts c.in_ok-copy.ensures.most (c.in_ok-copied_rows.ensures.numbers ∙ ap (map (λ (r : Row). r.numbers.items)) c.deref.ensures.value) (c.in_ok-copied_rows.ensures.befores ∙ ap (map (λ (r : Row). r.previous)) c.deref.ensures.value)
    c.in_ok-copied.ensures c.in_ok-copy-2.ensures.series

pub returns : goal.returns
returns c =
    let shown : pairs_of c.self.inside.references.slots ≡ c.args.self.now.slots = ap (λ t. t.slots) c.self.view_is in
    let rows = c.self.inside.rows.items in
    let copies = c.in_ok-copied_rows.field-0.items in
    let numbers : map (λ (r : Row). r.numbers.items) copies ≡ map (λ (r : Row). r.numbers.items) rows = c.in_ok-copied_rows.ensures.numbers ∙ ap (map (λ (r : Row). r.numbers.items)) c.deref.ensures.value in
    alike_shown c.args.self.now _ c.self.inside.references.slots c.in_ok-copy-2.field-0.slots shown refl
    (ap (λ (ts : List Text). map (labels_in ts) (map (λ (r : Row). r.numbers.items) copies)) c.in_ok-copy.ensures.texts ∙ ap (map (labels_in c.self.inside.texts.texts)) numbers ∙ ap (λ t. t.series) c.self.view_is)
    (ap (λ t. t.greatest) c.self.view_is) (c.in_ok-copy.ensures.texts ∙ ap (λ t. t.texts) c.self.view_is) (ap (λ t. t.most) c.self.view_is) c.in_ok-copy-2.ensures.slots
