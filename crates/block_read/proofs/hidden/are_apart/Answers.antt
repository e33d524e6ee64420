use Rattle.std.proofs.Common.{◌≡◌, true}
use Rattle.std.specs.Prelude.{pos}
use Rattle.head_column.specs.declared.items.Run.{Run}
use Rattle.block_read.proofs.Apart.{apart_all, apart_step, next_later, run_at}
use Rattle.block_read.proofs.hidden.are_apart.Goals as goal

abbrev none : Run
none = record { min_time = pos 0; max_time = pos 0 }

pub returns-then-not-is_run-clause-complete : goal.returns-then-not-is_run-clause-complete
returns-then-not-is_run-clause-complete c = λ h.
    let yes : c.is_run.result ≡ true = c.is_run.ensures.complete (run_at c.args.runs.now c.loop-i.i none c.loop-i-test.true h) in
    absurd (cc (yes, c.if-not-is_run.true))

pub returns-then-not-is_before-clause-complete : goal.returns-then-not-is_before-clause-complete
returns-then-not-is_before-clause-complete c = λ h.
    let yes : c.is_before.result ≡ true = c.is_before.ensures.complete (next_later c.args.runs.now c.split_at.result.1.now c.loop-i.i none c.loop-i-test.true c.split_at.ensures.back h) in
    absurd (cc (yes, c.if-not-is_before.true))

pub loop-i-preserved : goal.loop-i-preserved
loop-i-preserved c =
    apart_step c.args.runs.now c.split_at.result.1.now c.loop-i.i none c.loop-i-test.true c.split_at.ensures.back c.loop-i.invariant (c.is_run.ensures.sound c.if-not-is_run.false) (c.is_before.ensures.sound c.if-not-is_before.false)

pub returns-clause-sound : goal.returns-clause-sound
returns-clause-sound c = λ yes. apart_all c.args.runs.now c.loop-i.i c.loop-i-test.false c.loop-i.invariant
