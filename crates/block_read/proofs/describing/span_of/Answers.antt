use Rattle.std.proofs.Common.{◌∙◌, sym, ap, subst, to_z, of_z}
use Rattle.std.specs.Prelude.{pos, ◌+ℤ◌, ◌*ℤ◌, FitsSigned}
use Rattle.std.specs.Int.{w64}
use Rattle.std.proofs.lemmas.Int.{to_z-of_z}
use Rattle.head_column.specs.Hours.{hour_start}
use Rattle.block_read.proofs.Described.{numbers, read_back}
use Rattle.block_read.proofs.describing.span_of.Goals as goal

pub overflow_mul-result-2 : goal.overflow_mul-result-2
overflow_mul-result-2 c =
    let n = numbers c.args.hour c.k-k.ensures.held c.requires in
    let k = to_z-of_z w64 c.k-k.result (record { sfits = c.k-k.type_inv }) ∙ c.k-k.ensures.number in
    let next = read_back (to_z w64 (of_z w64 c.k-k.result) +ℤ pos 1) (c.args.hour +ℤ pos 1) (ap (λ z. z +ℤ pos 1) k) n.next in
    subst (λ z. FitsSigned w64 (z *ℤ pos 3600000)) (sym next) n.end

pub returns-clause-end : goal.returns-clause-end
returns-clause-end c =
    let n = numbers c.args.hour c.k-k.ensures.held c.requires in
    let k = to_z-of_z w64 c.k-k.result (record { sfits = c.k-k.type_inv }) ∙ c.k-k.ensures.number in
    let next = read_back (to_z w64 (of_z w64 c.k-k.result) +ℤ pos 1) (c.args.hour +ℤ pos 1) (ap (λ z. z +ℤ pos 1) k) n.next in
    read_back (to_z w64 (of_z w64 (to_z w64 (of_z w64 c.k-k.result) +ℤ pos 1)) *ℤ pos 3600000) (hour_start (c.args.hour +ℤ pos 1)) (ap (λ z. z *ℤ pos 3600000) next) n.end
