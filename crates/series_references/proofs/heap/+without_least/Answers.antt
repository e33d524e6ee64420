use Rattle.std.proofs.Common.{◌≡◌, ◌<◌, ◌≤◌, ◌+◌, ◌^◌, ℕ, true, length, slice_index, ap, sym, ◌∙◌, subst, arith}
use Rattle.series_references.specs.Has.{has}
use Rattle.series_references.specs.Heap.{references, IsBelowAll, IsParted, Leaf, Node}
use Rattle.series_references.specs.Links.{items_of, tree_of}
use Rattle.series_references.proofs.HeapLemmas.{above_even, above_none, above_odd, differ, some, take_even, take_odd, turned}
use Rattle.series_references.proofs.heap.+without_least.Goals as goal

ap_le : {a b q : ℕ} → a ≡ b → a < q → b < q
ap_le e h = omega (arith, e, h)

pub returns-in-Full-odd-clause-parted : goal.returns-in-Full-odd-clause-parted
returns-in-Full-odd-clause-parted t c d bits h =
    let p = turned d bits c.even.inside.least (tree_of c.even.inside.even) (tree_of c.even.inside.odd) Leaf c.in-Full-odd.odd.value c.args.heap.value h (c.even.view_is ∙ (c.replace.ensures.value ∙ c.deref_mut.ensures.value)) (ap tree_of c.in-Empty.is) (ap tree_of c.in-Full-odd.is) in
    let first = c.least-least.ensures.first ∙ ap (λ tree. slice_index (references tree) 0) c.deref.ensures in
    let new = take_odd d bits c.even.inside.least c.least-least.result (length (items_of c.without_least-odd.result)) Leaf c.in-Full-odd.odd.value (tree_of c.without_least-odd.result) p first c.without_least-odd.ensures.fewer (c.without_least-odd.ensures.parted (d + 1) (bits + 2 ^ d) p.3)
    (above_none c.least-least.result) (subst (λ n. IsBelowAll n (items_of c.without_least-odd.result)) (sym first) (c.without_least-odd.ensures.above (d + 1) (bits + 2 ^ d) p.3)) in
    subst (IsParted d bits) (sym c.under.ensures) new

pub returns-in-Empty-odd-2-clause-parted : goal.returns-in-Empty-odd-2-clause-parted
returns-in-Empty-odd-2-clause-parted t c d bits h =
    let p = turned d bits c.even.inside.least (tree_of c.even.inside.even) (tree_of c.even.inside.odd) c.in-Full.even.value Leaf c.args.heap.value h (c.even.view_is ∙ (c.replace.ensures.value ∙ c.deref_mut.ensures.value)) (ap tree_of c.in-Full.is) (ap tree_of c.in-Empty-odd-2.is) in
    let first = c.least-least-in-Empty-odd-2.ensures.first ∙ ap (λ tree. slice_index (references tree) 0) c.deref-in-Empty-odd-2.ensures in
    let new = take_even d bits c.even.inside.least c.least-least-in-Empty-odd-2.result (length (items_of c.without_least-even.result)) c.in-Full.even.value (tree_of c.without_least-even.result) Leaf p first c.without_least-even.ensures.fewer (c.without_least-even.ensures.parted (d + 1) bits p.2)
    (subst (λ n. IsBelowAll n (items_of c.without_least-even.result)) (sym first) (c.without_least-even.ensures.above (d + 1) bits p.2)) (above_none c.least-least-in-Empty-odd-2.result) in
    subst (IsParted d bits) (sym c.under-in-Empty-odd-2.ensures) new

pub returns-then-first-second-clause-parted : goal.returns-then-first-second-clause-parted
returns-then-first-second-clause-parted t c d bits h =
    let p = turned d bits c.even.inside.least (tree_of c.even.inside.even) (tree_of c.even.inside.odd) c.in-Full.even.value c.in-Full-odd-2.odd.value c.args.heap.value h (c.even.view_is ∙ (c.replace.ensures.value ∙ c.deref_mut.ensures.value)) (ap tree_of c.in-Full.is) (ap tree_of c.in-Full-odd-2.is) in
    let first = c.least-first.ensures.first ∙ ap (λ tree. slice_index (references tree) 0) c.deref-in-Full-odd-2.ensures in
    let odd : IsBelowAll c.least-first.result (references c.in-Full-odd-2.odd.value) = λ q m. (let l = c.least-second.ensures.least q (ap (λ tree. has (references tree) q) c.deref-in-Full-odd-2-2.ensures ∙ m) in omega (arith, l, c.if-first-second.true)) in
    let new = take_even d bits c.even.inside.least c.least-first.result (length (items_of c.without_least-even-then-first-second.result)) c.in-Full.even.value (tree_of c.without_least-even-then-first-second.result) c.in-Full-odd-2.odd.value p first c.without_least-even-then-first-second.ensures.fewer (c.without_least-even-then-first-second.ensures.parted (d + 1) bits p.2)
    (subst (λ n. IsBelowAll n (items_of c.without_least-even-then-first-second.result)) (sym first) (c.without_least-even-then-first-second.ensures.above (d + 1) bits p.2)) odd in
    subst (IsParted d bits) (sym c.under-then-first-second.ensures) new

pub returns-then-first-second-clause-above : goal.returns-then-first-second-clause-above
returns-then-first-second-clause-above t c d bits h =
    let p = turned d bits c.even.inside.least (tree_of c.even.inside.even) (tree_of c.even.inside.odd) c.in-Full.even.value c.in-Full-odd-2.odd.value c.args.heap.value h (c.even.view_is ∙ (c.replace.ensures.value ∙ c.deref_mut.ensures.value)) (ap tree_of c.in-Full.is) (ap tree_of c.in-Full-odd-2.is) in
    let first = c.least-first.ensures.first ∙ ap (λ tree. slice_index (references tree) 0) c.deref-in-Full-odd-2.ensures in
    let root : c.even.inside.least ≡ slice_index (references c.args.heap.value) 0 = ap (λ tree. slice_index (references tree) 0) (c.even.view_is ∙ (c.replace.ensures.value ∙ c.deref_mut.ensures.value)) in
    let above = above_even d bits c.even.inside.least c.least-first.result (length (items_of c.without_least-even-then-first-second.result)) c.in-Full.even.value (tree_of c.without_least-even-then-first-second.result) c.in-Full-odd-2.odd.value p first c.without_least-even-then-first-second.ensures.fewer c.without_least-even-then-first-second.ensures.same in
    λ q m. ap_le root (above q (ap (λ tree. has (references tree) q) (sym c.under-then-first-second.ensures) ∙ m))

pub returns-else-first-second-clause-parted : goal.returns-else-first-second-clause-parted
returns-else-first-second-clause-parted t c d bits h =
    let p = turned d bits c.even.inside.least (tree_of c.even.inside.even) (tree_of c.even.inside.odd) c.in-Full.even.value c.in-Full-odd-2.odd.value c.args.heap.value h (c.even.view_is ∙ (c.replace.ensures.value ∙ c.deref_mut.ensures.value)) (ap tree_of c.in-Full.is) (ap tree_of c.in-Full-odd-2.is) in
    let first = c.least-first.ensures.first ∙ ap (λ tree. slice_index (references tree) 0) c.deref-in-Full-odd-2.ensures in
    let second = c.least-second.ensures.first ∙ ap (λ tree. slice_index (references tree) 0) c.deref-in-Full-odd-2-2.ensures in
    let some_even = some (references c.in-Full.even.value) c.least-first.result (ap (λ tree. has (references tree) c.least-first.result) (sym c.deref-in-Full-odd-2.ensures) ∙ c.least-first.ensures.there) in
    let apart = differ d bits c.even.inside.least c.least-first.result c.least-second.result some_even.0 (length (items_of c.without_least-odd-in-Full-odd-2.result)) c.in-Full.even.value c.in-Full-odd-2.odd.value p first second some_even.1 c.without_least-odd-in-Full-odd-2.ensures.fewer in
    let even : IsBelowAll c.least-second.result (references c.in-Full.even.value) = λ q m. (let l = c.least-first.ensures.least q (ap (λ tree. has (references tree) q) c.deref-in-Full-odd-2.ensures ∙ m) in omega (arith, l, apart, c.if-first-second.false)) in
    let new = take_odd d bits c.even.inside.least c.least-second.result (length (items_of c.without_least-odd-in-Full-odd-2.result)) c.in-Full.even.value c.in-Full-odd-2.odd.value (tree_of c.without_least-odd-in-Full-odd-2.result) p second c.without_least-odd-in-Full-odd-2.ensures.fewer (c.without_least-odd-in-Full-odd-2.ensures.parted (d + 1) (bits + 2 ^ d) p.3)
    even (subst (λ n. IsBelowAll n (items_of c.without_least-odd-in-Full-odd-2.result)) (sym second) (c.without_least-odd-in-Full-odd-2.ensures.above (d + 1) (bits + 2 ^ d) p.3)) in
    subst (IsParted d bits) (sym c.under-in-Full-odd-2.ensures) new

pub returns-else-first-second-clause-above : goal.returns-else-first-second-clause-above
returns-else-first-second-clause-above t c d bits h =
    let p = turned d bits c.even.inside.least (tree_of c.even.inside.even) (tree_of c.even.inside.odd) c.in-Full.even.value c.in-Full-odd-2.odd.value c.args.heap.value h (c.even.view_is ∙ (c.replace.ensures.value ∙ c.deref_mut.ensures.value)) (ap tree_of c.in-Full.is) (ap tree_of c.in-Full-odd-2.is) in
    let second = c.least-second.ensures.first ∙ ap (λ tree. slice_index (references tree) 0) c.deref-in-Full-odd-2-2.ensures in
    let root : c.even.inside.least ≡ slice_index (references c.args.heap.value) 0 = ap (λ tree. slice_index (references tree) 0) (c.even.view_is ∙ (c.replace.ensures.value ∙ c.deref_mut.ensures.value)) in
    let above = above_odd d bits c.even.inside.least c.least-second.result (length (items_of c.without_least-odd-in-Full-odd-2.result)) c.in-Full.even.value c.in-Full-odd-2.odd.value (tree_of c.without_least-odd-in-Full-odd-2.result) p second c.without_least-odd-in-Full-odd-2.ensures.fewer c.without_least-odd-in-Full-odd-2.ensures.same in
    λ q m. ap_le root (above q (ap (λ tree. has (references tree) q) (sym c.under-in-Full-odd-2.ensures) ∙ m))
