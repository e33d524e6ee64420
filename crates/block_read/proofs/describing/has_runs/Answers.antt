use Rattle.std.specs.Prelude.{pos}
use Rattle.std.proofs.lemmas.List.Elements.{All-more}
use Rattle.head_column.specs.declared.items.Run.{Run}
use Rattle.block_read.specs.Blocks.{IsWithin}
use Rattle.block_read.proofs.Described.{all_whole}
use Rattle.block_read.proofs.describing.has_runs.Goals as goal

abbrev none : Run
none = record { min_time = pos 0; max_time = pos 0 }

pub loop-run-preserved : goal.loop-run-preserved
loop-run-preserved c = λ hour s e. All-more (IsWithin hour) c.args.runs.now c.loop-run.run-index none c.loop-run-test.true (c.loop-run.invariant hour s e) (c.has_run.ensures.sound hour s e c.if-not-has_run.false)

pub returns-clause-sound : goal.returns-clause-sound
returns-clause-sound c = λ hour s e yes. all_whole (IsWithin hour) c.args.runs.now c.loop-run.run-index c.loop-run-test.false (c.loop-run.invariant hour s e)
