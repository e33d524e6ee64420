use Rattle.std.proofs.Common.{rules}
use Rattle.std.specs.Prelude.{◌<ℤ◌, ◌≤ℤ◌}
use Rattle.block_read.proofs.Described.{within_from}
use Rattle.block_read.proofs.describing.has_run.Goals as goal

pub returns-clause-sound : goal.returns-clause-sound
returns-clause-sound c = λ hour s e yes.
    let last : c.args.run.now.max_time <ℤ c.args.span.end = search rules in
    let first : c.args.span.start ≤ℤ c.args.run.now.min_time = search rules in
    let some : c.args.run.now.min_time ≤ℤ c.args.run.now.max_time = search rules in
    within_from hour c.args.span.start c.args.span.end c.args.run.now s e first some last
