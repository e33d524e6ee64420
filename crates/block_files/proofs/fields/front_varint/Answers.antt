use Rattle.block_files.proofs.Fronts.{varint_front, varint_nowhere}
use Rattle.block_files.proofs.fields.front_varint.Goals as goal

pub returns-in_err-number-clause-again : goal.returns-in_err-number-clause-again
returns-in_err-number-clause-again c = λ n rest h e. absurd (varint_nowhere c.args.bytes.now rest n c.in_err-number.ensures.none h e)

pub returns-clause-again : goal.returns-clause-again
returns-clause-again c = λ n rest h e.
    varint_front c.args.bytes.now c.split_at.result.1.now rest c.in_ok-number.number n c.in_ok-number.len c.in_ok-number.ensures.found c.split_at.ensures.back h e
