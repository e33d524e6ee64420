use Rattle.answers.proofs.Answered.{nothing_told}
use Rattle.query_commands.proofs.dumping.carry_out_dump.Goals as goal

pub returns-in-Err : goal.returns-in-Err
returns-in-Err g c = nothing_told _ c.failed.result c.failed.ensures.fails (λ bad. c.in-Err.ensures (c.failed.ensures.damaged bad))
