use Rattle.std.proofs.Common.{◌≡◌, ◌+◌, ◌-◌, ap, sym, ◌∙◌, arith, subst, length, List, ℕ, Some}
use Rattle.std.specs.Prelude.{nat_eq, map}
use Rattle.std.specs.Map.{lookup}
use Rattle.wal_record.specs.Labels.{same_labels}
use Rattle.wal_record.proofs.Equality.{labels_same}
use Rattle.head_series.specs.Rows.{AreDistinct, AreWithin, IsChained, labels_hash, labels_in, or_zero}
use Rattle.head_series.proofs.Distinct.{place_at}
use Rattle.head_series.specs.declared.rows.Row.{Row}
use Rattle.head_series.proofs.RowLemmas.{IsSought, sought_next, sought_none, sought_less, sought_within, row_numbers, row_before, row_series, all_within_at}
use Rattle.head_series.proofs.table.SeriesTable.find_labels.Goals as goal

numbers_of : Row → List (ℕ × ℕ)
numbers_of r = r.numbers.items

pub is_named-requires : goal.is_named-requires
is_named-requires c =
    let v = ap (λ t. t.series) c.self.view_is in
    let e : c.loop-next.next ≡ (c.loop-next.next - 1) + 1 = omega (arith, c.loop-next-test.true) in
    let w = sought_within c.self.inside.seed c.args.self.now.series c.args.labels.now c.loop-next.next (c.loop-next.next - 1) e c.loop-next.invariant in
    subst (AreWithin (length c.self.inside.texts.texts)) (sym c.deref.ensures.value)
    (all_within_at (length c.self.inside.texts.texts) (map (λ (r : Row). r.numbers.items) c.self.inside.rows.items) (c.loop-next.next - 1) c.index-row.result.now.numbers.items c.self.invariant.within
    (row_numbers c.self.inside.rows.items (λ (r : Row). r.numbers.items) c.self.inside.texts.texts c.args.self.now.series (c.loop-next.next - 1) c.index-row.result.now v w c.index-row.ensures))

pub returns-then-is_named-clause-slot : goal.returns-then-is_named-clause-slot
returns-then-is_named-clause-slot c =
    let v = ap (λ t. t.series) c.self.view_is in
    let e : c.loop-next.next ≡ (c.loop-next.next - 1) + 1 = omega (arith, c.loop-next-test.true) in
    let w = sought_within c.self.inside.seed c.args.self.now.series c.args.labels.now c.loop-next.next (c.loop-next.next - 1) e c.loop-next.invariant in
    let is : c.args.labels.now ≡ labels_in c.self.inside.texts.texts c.deref.result.now = c.is_named.ensures.yes c.if-is_named.true in
    ap Some c.new.ensures
    ∙ place_at same_labels labels_same c.args.labels.now c.args.self.now.series (c.loop-next.next - 1) (subst (AreDistinct same_labels) v c.self.invariant.distinct)
    (row_series c.self.inside.rows.items (λ (r : Row). r.numbers.items) c.self.inside.texts.texts c.args.self.now.series (c.loop-next.next - 1) c.index-row.result.now v w c.index-row.ensures
    ∙ ap Some (ap (labels_in c.self.inside.texts.texts) (sym c.deref.ensures.value) ∙ sym is))

pub loop-next-smaller : goal.loop-next-smaller
loop-next-smaller c =
    let v = ap (λ t. t.series) c.self.view_is in
    let e : c.loop-next.next ≡ (c.loop-next.next - 1) + 1 = omega (arith, c.loop-next-test.true) in
    let w = sought_within c.self.inside.seed c.args.self.now.series c.args.labels.now c.loop-next.next (c.loop-next.next - 1) e c.loop-next.invariant in
    let b = row_before c.self.inside.rows.items (λ (r : Row). r.numbers.items) (λ (r : Row). r.previous) c.self.inside.texts.texts c.args.self.now.series (c.loop-next.next - 1) c.index-row.result.now v w c.index-row.ensures in
    let k = sought_less c.self.inside.seed c.args.self.now.series c.args.labels.now (λ h. or_zero (lookup (nat_eq h) c.self.inside.last_by_hash.entries)) (map (λ (r : Row). r.previous) c.self.inside.rows.items) c.loop-next.next (c.loop-next.next - 1) (subst (λ ss. IsChained (map (labels_hash c.self.inside.seed) ss) (λ h. or_zero (lookup (nat_eq h) c.self.inside.last_by_hash.entries)) (map (λ (r : Row). r.previous) c.self.inside.rows.items)) v c.self.invariant.chained) e c.loop-next.invariant in
    omega (arith, b, k)

pub loop-next-preserved : goal.loop-next-preserved
loop-next-preserved c =
    let v = ap (λ t. t.series) c.self.view_is in
    let e : c.loop-next.next ≡ (c.loop-next.next - 1) + 1 = omega (arith, c.loop-next-test.true) in
    let w = sought_within c.self.inside.seed c.args.self.now.series c.args.labels.now c.loop-next.next (c.loop-next.next - 1) e c.loop-next.invariant in
    let b = row_before c.self.inside.rows.items (λ (r : Row). r.numbers.items) (λ (r : Row). r.previous) c.self.inside.texts.texts c.args.self.now.series (c.loop-next.next - 1) c.index-row.result.now v w c.index-row.ensures in
    let at = row_series c.self.inside.rows.items (λ (r : Row). r.numbers.items) c.self.inside.texts.texts c.args.self.now.series (c.loop-next.next - 1) c.index-row.result.now v w c.index-row.ensures in
    subst (IsSought c.self.inside.seed c.args.self.now.series c.args.labels.now) b
    (sought_next c.self.inside.seed c.args.self.now.series c.args.labels.now (λ h. or_zero (lookup (nat_eq h) c.self.inside.last_by_hash.entries)) (map (λ (r : Row). r.previous) c.self.inside.rows.items) c.loop-next.next (c.loop-next.next - 1) (subst (λ ss. IsChained (map (labels_hash c.self.inside.seed) ss) (λ h. or_zero (lookup (nat_eq h) c.self.inside.last_by_hash.entries)) (map (λ (r : Row). r.previous) c.self.inside.rows.items)) v c.self.invariant.chained) e
    (λ g. c.is_named.ensures.no c.if-is_named.false (let m : Some c.args.labels.now ≡ Some (labels_in c.self.inside.texts.texts c.index-row.result.now.numbers.items) = sym g ∙ at in
    (let n : c.args.labels.now ≡ labels_in c.self.inside.texts.texts c.index-row.result.now.numbers.items = cc in n ∙ ap (labels_in c.self.inside.texts.texts) (sym c.deref.ensures.value))))
    c.loop-next.invariant)

pub returns-clause-slot : goal.returns-clause-slot
returns-clause-slot c = sought_none c.self.inside.seed c.args.self.now.series c.args.labels.now c.loop-next.next c.loop-next-test.false c.loop-next.invariant

pub returns-then-is_named-clause-within : goal.returns-then-is_named-clause-within
returns-then-is_named-clause-within c =
    let e : c.loop-next.next ≡ (c.loop-next.next - 1) + 1 = omega (arith, c.loop-next-test.true) in
    let w = sought_within c.self.inside.seed c.args.self.now.series c.args.labels.now c.loop-next.next (c.loop-next.next - 1) e c.loop-next.invariant in
    let at = c.new.ensures in
    omega (arith, w, at)
