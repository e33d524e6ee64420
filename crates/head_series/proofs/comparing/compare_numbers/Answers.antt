use Rattle.std.proofs.Common.{◌∙◌, slice_index_or, arith, length}
use Rattle.std.proofs.lemmas.Option.{slice_get-get_or}
use Rattle.head_series.proofs.CopyLemmas.{greater_end, less_end}
use Rattle.head_series.proofs.RowLemmas.{within_at}
use Rattle.head_series.proofs.comparing.compare_numbers.Goals as goal

pub returns-then-i-second : goal.returns-then-i-second
returns-then-i-second c =
    greater_end c.args.texts.now.texts c.args.first.now c.args.second.now c.loop-i.i (omega (arith, c.loop-i-test.true)) (omega (arith, c.if-i-second.true)) ∙ c.loop-i.invariant.1

pub compare_pairs-requires-clause-first : goal.compare_pairs-requires-clause-first
compare_pairs-requires-clause-first c =
    within_at (length c.args.texts.now.texts) c.args.first.now c.loop-i.i (slice_index_or c.args.first.now c.loop-i.i (0, 0)) c.requires.first (slice_get-get_or c.args.first.now c.loop-i.i (0, 0) (omega (arith, c.loop-i-test.true)))

pub compare_pairs-requires-clause-second : goal.compare_pairs-requires-clause-second
compare_pairs-requires-clause-second c =
    within_at (length c.args.texts.now.texts) c.args.second.now c.loop-i.i (slice_index_or c.args.second.now c.loop-i.i (0, 0)) c.requires.second (slice_get-get_or c.args.second.now c.loop-i.i (0, 0) (omega (arith, c.if-i-second.false)))

pub returns-then-first-second : goal.returns-then-first-second
returns-then-first-second c =
    less_end c.args.texts.now.texts c.args.first.now c.args.second.now c.loop-i.i (omega (arith, c.loop-i-test.false)) (omega (arith, c.if-first-second.true, c.loop-i-test.false, c.loop-i.invariant.0)) ∙ c.loop-i.invariant.1
