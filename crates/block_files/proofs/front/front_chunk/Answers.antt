use Rattle.std.proofs.Common.{ℕ, List, get_or, ap, subst, sym, arith}
use Rattle.hw_bytes.specs.Spellings.{IsBytes}
use Rattle.hw_bytes.specs.Checksum.{crc32c}
use Rattle.block_files.proofs.Elements.{begins, behind_length, behind_long, behind_sum, behind_summed, if_none, no_length, no_sum, sum_is, summed_small}
use Rattle.block_files.proofs.front.front_chunk.Goals as goal

pub returns-in_err-len-clause-none : goal.returns-in_err-len-clause-none
returns-in_err-len-clause-none c = if_none c.from_residual.result (λ e body h. no_length e c.args.bytes.now body c.in_err-len.ensures.none h)

pub returns-then-len-body-clause-none : goal.returns-then-len-body-clause-none
returns-then-len-body-clause-none c = λ e body h.
    let b = behind_length e c.args.bytes.now c.split_at.result.1.now body c.in_ok-len.len c.in_ok-len.start c.in_ok-len.ensures.found c.split_at.ensures.back h in
    omega (arith, behind_long e c.split_at.result.1.now body c.in_ok-len.len b.0 b.1, c.if-len-body.true)

pub returns-in_err-encoding-clause-none : goal.returns-in_err-encoding-clause-none
returns-in_err-encoding-clause-none c = if_none c.from_residual-in_err-encoding.result (λ e body h.
    let b = behind_length e c.args.bytes.now c.split_at.result.1.now body c.in_ok-len.len c.in_ok-len.start c.in_ok-len.ensures.found c.split_at.ensures.back h in
    let s = behind_summed e c.split_at.result.1.now c.split_at-2.result.0.now body c.in_ok-len.len b.0 c.split_at-2.ensures.front b.1 in
    c.in_err-encoding.ensures.none e (sym (ap (λ (xs : List ℕ). get_or xs 0 0) s)))

pub returns-in_err-sum-clause-none : goal.returns-in_err-sum-clause-none
returns-in_err-sum-clause-none c = if_none c.from_residual-in_err-sum.result (λ e body h.
    let b = behind_length e c.args.bytes.now c.split_at.result.1.now body c.in_ok-len.len c.in_ok-len.start c.in_ok-len.ensures.found c.split_at.ensures.back h in
    let s = behind_summed e c.split_at.result.1.now c.split_at-2.result.0.now body c.in_ok-len.len b.0 c.split_at-2.ensures.front b.1 in
    let small : IsBytes c.split_at-2.result.0.now = summed_small c.args.bytes.now c.split_at.result.1.now c.split_at-2.result.0.now c.in_ok-len.start c.in_ok-len.len (λ i. (c.type_inv.bytes i).fits) c.split_at.ensures.back c.split_at-2.ensures.front in
    no_sum c.split_at-2.result.1.now _ b.1.rest (subst IsBytes s small) c.in_err-sum.ensures.none (behind_sum e c.split_at.result.1.now c.split_at-2.result.1.now body c.in_ok-len.len b.0 c.split_at-2.ensures.back b.1))

pub returns-then-sum-crc32c-clause-none : goal.returns-then-sum-crc32c-clause-none
returns-then-sum-crc32c-clause-none c = λ e body h.
    let b = behind_length e c.args.bytes.now c.split_at.result.1.now body c.in_ok-len.len c.in_ok-len.start c.in_ok-len.ensures.found c.split_at.ensures.back h in
    let s = behind_summed e c.split_at.result.1.now c.split_at-2.result.0.now body c.in_ok-len.len b.0 c.split_at-2.ensures.front b.1 in
    let small : IsBytes c.split_at-2.result.0.now = summed_small c.args.bytes.now c.split_at.result.1.now c.split_at-2.result.0.now c.in_ok-len.start c.in_ok-len.len (λ i. (c.type_inv.bytes i).fits) c.split_at.ensures.back c.split_at-2.ensures.front in
    let sum = sum_is c.split_at-2.result.1.now _ b.1.rest c.in_ok-sum.sum (subst IsBytes s small) c.in_ok-sum.ensures.found (behind_sum e c.split_at.result.1.now c.split_at-2.result.1.now body c.in_ok-len.len b.0 c.split_at-2.ensures.back b.1) in
    omega (arith, sum, ap crc32c s, c.crc32c.ensures, c.if-sum-crc32c.true)

pub returns-clause-found : goal.returns-clause-found
returns-clause-found c =
    begins c.in_ok-encoding.encoding c.args.bytes.now c.split_at.result.1.now c.split_at-2.result.0.now c.split_at-2.result.1.now c.split_at-3.result.1.now c.in_ok-len.len c.in_ok-len.start c.in_ok-sum.sum
    c.in_ok-len.ensures.found c.split_at.ensures.back (omega arith) c.split_at-2.ensures.front c.split_at-2.ensures.back (sym c.in_ok-encoding.ensures.found) c.in_ok-sum.ensures.found (omega (arith, c.if-sum-crc32c.false, c.crc32c.ensures)) c.split_at-3.ensures.back
