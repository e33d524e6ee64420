use Rattle.std.proofs.Common.{◌≡◌, ◌^◌, ◌<◌, ◌+◌, ◌%◌, ℕ, ap, sym, ◌∙◌, arith}
use Rattle.series_references.specs.Heap.{references}
use Rattle.series_references.specs.Links.{items_of, tree_of}
use Rattle.series_references.proofs.HasLemmas.{least_left, least_right}
use Rattle.series_references.proofs.HeapLemmas.{bit_left, opened, put_even, put_odd}
use Rattle.series_references.proofs.heap.+with.Goals as goal

pub is_even-requires : goal.is_even-requires
is_even-requires t c =
    let o = opened c.args.depth c.args.reference c.behind-heap.inside.least c.first.inside.least (tree_of c.behind-heap.inside.even) (tree_of c.behind-heap.inside.odd) (tree_of c.first.inside.even) (tree_of c.first.inside.odd) (tree_of c.args.link)
    c.requires (c.behind-heap.view_is ∙ (c.deref.ensures ∙ sym (ap tree_of c.in-Full.is))) (c.first.view_is ∙ (c.replace.ensures.value ∙ (c.deref_mut-in-Full.ensures.value ∙ sym (ap tree_of c.in-Full.is)))) c.if-reference-deref.false in
    bit_left c.args.depth c.args.reference c.first.inside.least c.ranges.reference.fits (omega (arith, c.max-greater.ensures, c.max-greater.type_inv)) o.0.0 o.1

pub overflow_add-depth : goal.overflow_add-depth
overflow_add-depth t c =
    let o = opened c.args.depth c.args.reference c.behind-heap.inside.least c.first.inside.least (tree_of c.behind-heap.inside.even) (tree_of c.behind-heap.inside.odd) (tree_of c.first.inside.even) (tree_of c.first.inside.odd) (tree_of c.args.link)
    c.requires (c.behind-heap.view_is ∙ (c.deref.ensures ∙ sym (ap tree_of c.in-Full.is))) (c.first.view_is ∙ (c.replace.ensures.value ∙ (c.deref_mut-in-Full.ensures.value ∙ sym (ap tree_of c.in-Full.is)))) c.if-reference-deref.false in
    let below = bit_left c.args.depth c.args.reference c.first.inside.least c.ranges.reference.fits (omega (arith, c.max-greater.ensures, c.max-greater.type_inv)) o.0.0 o.1 in
    omega (arith, below)

pub overflow_add-depth-in-Full : goal.overflow_add-depth-in-Full
overflow_add-depth-in-Full t c =
    let o = opened c.args.depth c.args.reference c.behind-heap.inside.least c.first.inside.least (tree_of c.behind-heap.inside.even) (tree_of c.behind-heap.inside.odd) (tree_of c.first.inside.even) (tree_of c.first.inside.odd) (tree_of c.args.link)
    c.requires (c.behind-heap.view_is ∙ (c.deref.ensures ∙ sym (ap tree_of c.in-Full.is))) (c.first.view_is ∙ (c.replace.ensures.value ∙ (c.deref_mut-in-Full.ensures.value ∙ sym (ap tree_of c.in-Full.is)))) c.if-reference-deref.false in
    let below = bit_left c.args.depth c.args.reference c.first.inside.least c.ranges.reference.fits (omega (arith, c.max-greater.ensures, c.max-greater.type_inv)) o.0.0 o.1 in
    omega (arith, below)

pub returns-then-is_even-clause-parted : goal.returns-then-is_even-clause-parted
returns-then-is_even-clause-parted t c =
    let o = opened c.args.depth c.args.reference c.behind-heap.inside.least c.first.inside.least (tree_of c.behind-heap.inside.even) (tree_of c.behind-heap.inside.odd) (tree_of c.first.inside.even) (tree_of c.first.inside.odd) (tree_of c.args.link)
    c.requires (c.behind-heap.view_is ∙ (c.deref.ensures ∙ sym (ap tree_of c.in-Full.is))) (c.first.view_is ∙ (c.replace.ensures.value ∙ (c.deref_mut-in-Full.ensures.value ∙ sym (ap tree_of c.in-Full.is)))) c.if-reference-deref.false in
    put_even c.args.depth c.args.reference c.first.inside.least c.min-least.result c.max-greater.result (tree_of c.first.inside.even) c.with-below.result.value (tree_of c.first.inside.odd) c.min-least.ensures c.max-greater.ensures o.1 o.0
    (c.is_even.ensures.even c.if-is_even.true) c.with-below.ensures.with c.with-below.ensures.parted

pub returns-else-is_even-clause-parted : goal.returns-else-is_even-clause-parted
returns-else-is_even-clause-parted t c =
    let o = opened c.args.depth c.args.reference c.behind-heap.inside.least c.first.inside.least (tree_of c.behind-heap.inside.even) (tree_of c.behind-heap.inside.odd) (tree_of c.first.inside.even) (tree_of c.first.inside.odd) (tree_of c.args.link)
    c.requires (c.behind-heap.view_is ∙ (c.deref.ensures ∙ sym (ap tree_of c.in-Full.is))) (c.first.view_is ∙ (c.replace.ensures.value ∙ (c.deref_mut-in-Full.ensures.value ∙ sym (ap tree_of c.in-Full.is)))) c.if-reference-deref.false in
    put_odd c.args.depth c.args.reference c.first.inside.least c.min-least.result c.max-greater.result (tree_of c.first.inside.even) (tree_of c.first.inside.odd) c.with-below-in-Full.result.value c.min-least.ensures c.max-greater.ensures o.1 o.0
    (c.is_even.ensures.odd c.if-is_even.false) c.with-below-in-Full.ensures.with c.with-below-in-Full.ensures.parted

pub invariant_of-whole : goal.invariant_of-whole
invariant_of-whole t c =
    least_left (items_of c.first.inside.even) (items_of c.first.inside.odd) (references c.with-below.result.value) c.first.inside.least c.min-least.result c.max-greater.result c.first.invariant c.with-below.ensures.with
    (omega (arith, c.min-least.ensures)) (omega (arith, c.min-least.ensures, c.max-greater.ensures))

pub invariant_of-whole-in-Full : goal.invariant_of-whole-in-Full
invariant_of-whole-in-Full t c =
    least_right (items_of c.first.inside.even) (items_of c.first.inside.odd) (references c.with-below-in-Full.result.value) c.first.inside.least c.min-least.result c.max-greater.result c.first.invariant c.with-below-in-Full.ensures.with
    (omega (arith, c.min-least.ensures)) (omega (arith, c.min-least.ensures, c.max-greater.ensures))
