use Rattle.std.proofs.Common.{◌≡◌, ◌∙◌, Err, Result, ap, sym, arith}
use Rattle.std.specs.Prelude.{IsErrAnd}
use Rattle.std.proofs.lemmas.Result.{err_from_is_err_and}
use Rattle.xor_chunk.specs.declared.fault.XorFault.{XorFault}
use Rattle.xor_chunk.specs.declared.fault.XorFault.TheVariants as xor
use Rattle.block_read.specs.declared.fault.PartFault.{PartFault}
use Rattle.block_read.specs.declared.fault.PartFault.TheVariants as part
use Rattle.block_read.specs.Faults.{of_xor}
use Rattle.block_read.proofs.chunks.decode_xor.Goals as goal

not_memory : {T : Type 0} (result : Result T PartFault) (fault : XorFault) → IsErrAnd result (λ e. e ≡ of_xor fault) → result ≡ Err part.Bad → fault ≡ xor.Memory → ⊥
not_memory {T = T} result fault p bad m =
    let q = err_from_is_err_and result p in
    let same : Err part.Bad ≡ Err (of_xor xor.Memory) = sym bad ∙ q.1 ∙ ap (λ (e : PartFault). let r : Result T PartFault = Err e in r) (q.2 ∙ ap of_xor m) in
    absurd cc

pub returns-in_err-samples-clause-bad : goal.returns-in_err-samples-clause-bad
returns-in_err-samples-clause-bad c = λ was part h e.
    c.in_err-samples.ensures.bad (λ m. not_memory c.from_residual.result c.in_err-samples.field-0.0 c.from_residual.ensures.1 was m) part h.fit (record { few = omega (arith, h.few); is = e })

pub returns-clause-only : goal.returns-clause-only
returns-clause-only c = λ part h e.
    let chunk = c.in_ok-samples.ensures.found in
    c.one_xor_chunk.ensures c.in_ok-samples.samples.items part chunk.0.few (omega (arith, h.few)) chunk.1 h.fit (sym chunk.0.is ∙ e)
