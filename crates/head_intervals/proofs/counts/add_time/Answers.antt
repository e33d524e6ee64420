use Rattle.std.proofs.Common.{◌≡◌, ◌+◌, ◌<◌, ◌∙◌, ℕ, ap, arith, length, get_or, subst, w64}
use Rattle.std.specs.Prelude.{ℤ}
use Rattle.std.proofs.lemmas.Int.{to_z-of_z}
use Rattle.std.proofs.lemmas.List.{get_or_read}
use Rattle.head_intervals.specs.Intervals.{IsIn}
use Rattle.head_intervals.proofs.Counted.{counted, sum_told}
use Rattle.head_intervals.proofs.counts.add_time.Goals as goal

pub returns-in_ok-counts : goal.returns-in_ok-counts
returns-in_ok-counts c = λ times are.
    let place = c.in-Some.place in
    let was = c.index.result.now in
    let here = subst (λ (t : ℤ). IsIn c.args.intervals.now place t) (to_z-of_z w64 c.args.time c.ranges.time) c.in-Some.ensures.some.1 in
    let within : place < length c.args.counts.now.items = omega (arith, are.as_many, c.in-Some.ensures.some.0) in
    let read : was ≡ get_or c.args.counts.now.items place 0 = get_or_read c.args.counts.now.items place was within c.index.ensures 0 in
    let next : c.in_ok-counts.field-0 ≡ was + 1 = sum_told c.checked_add.result (was + 1 < 18446744073709551616) c.in_ok-counts.field-0 (was + 1) c.checked_add.ensures c.in_ok-counts.ensures.ok_part in
    counted c.args.intervals.now times c.args.time c.args.counts.now.items are place c.in_ok-counts.field-0 c.in-Some.ensures.some.0 here (next ∙ ap (λ (n : ℕ). n + 1) read)
