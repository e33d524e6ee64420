use Rattle.hw_bytes.proofs.Codes.{at_none}
use Rattle.head_column.specs.Reading.{IsSample}
use Rattle.head_column.proofs.SampleCodes.{sample_no_value, sample_found}
use Rattle.head_column.proofs.decoding.front_sample.Goals as goal

pub returns-in_err-be64_at-clause-none : goal.returns-in_err-be64_at-clause-none
returns-in_err-be64_at-clause-none c =
    at_none (IsSample c.args.before) c.args.bytes.now c.from_residual-in_err-be64_at.result
    (λ _. sample_no_value c.args.before c.args.bytes.now c.split_at.result.1.now c.in_ok-time.time c.in_ok-time.len c.in_ok-time.ensures.found c.split_at.ensures.back c.in_err-be64_at.ensures.short)

pub returns-clause-found : goal.returns-clause-found
returns-clause-found c =
    sample_found c.args.before c.args.bytes.now c.split_at.result.1.now c.in_ok-time.time c.cast_signed-value.result c.in_ok-be64_at.field-0 c.in_ok-time.len
    c.in_ok-time.ensures.found c.split_at.ensures.back c.in_ok-be64_at.ensures.found c.cast_signed-value.ensures (record { sfits = c.cast_signed-value.type_inv })
