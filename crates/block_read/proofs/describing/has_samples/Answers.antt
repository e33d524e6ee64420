use Rattle.std.specs.Prelude.{pos, IsTrue}
use Rattle.std.proofs.lemmas.List.Elements.{All-more}
use Rattle.head_column.specs.Samples.{Sample}
use Rattle.head_column.specs.Hours.{is_in_hour}
use Rattle.block_read.proofs.Described.{all_whole}
use Rattle.block_read.proofs.describing.has_samples.Goals as goal

abbrev none : Sample
none = record { time = pos 0; value = pos 0 }

pub loop-sample-preserved : goal.loop-sample-preserved
loop-sample-preserved c = λ hour s e. All-more (λ (x : Sample). IsTrue (is_in_hour hour x.time)) c.args.samples.now c.loop-sample.sample-index none c.loop-sample-test.true (c.loop-sample.invariant hour s e) (c.has_sample.ensures.sound hour s e c.if-not-has_sample.false)

pub returns-clause-sound : goal.returns-clause-sound
returns-clause-sound c = λ hour s e yes. all_whole (λ (x : Sample). IsTrue (is_in_hour hour x.time)) c.args.samples.now c.loop-sample.sample-index c.loop-sample-test.false (c.loop-sample.invariant hour s e)
