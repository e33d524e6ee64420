use Rattle.std.proofs.Common.{◌≡◌, ◌<◌, Some, length, slice_index_or, ℕ, List}
use Rattle.std.specs.Prelude.{slice_get}
use Rattle.std.proofs.lemmas.Option.{slice_get-get_or}
use Rattle.head_series.specs.Rows.{label}
use Rattle.head_series.proofs.RowLemmas.{within_at, named_more, named_not, name_differs, value_differs, named_is}
use Rattle.head_series.proofs.rows.is_named.Goals as goal

at_i : (ns : List (ℕ × ℕ)) (i : ℕ) → i < length ns → slice_get ns i ≡ Some (slice_index_or ns i (0, 0))
at_i ns i h = slice_get-get_or ns i (0, 0) h

pub bytes-requires : goal.bytes-requires
bytes-requires c = (within_at (length c.args.texts.now.texts) c.args.numbers.now c.loop-i.i (slice_index_or c.args.numbers.now c.loop-i.i (0, 0)) c.requires (at_i c.args.numbers.now c.loop-i.i c.loop-i-test.true)).0

pub bytes-requires-in-loop-i : goal.bytes-requires-in-loop-i
bytes-requires-in-loop-i c = (within_at (length c.args.texts.now.texts) c.args.numbers.now c.loop-i.i (slice_index_or c.args.numbers.now c.loop-i.i (0, 0)) c.requires (at_i c.args.numbers.now c.loop-i.i c.loop-i-test.true)).1

pub returns-then-ne-clause-no : goal.returns-then-ne-clause-no
returns-then-ne-clause-no c _ =
    named_not c.args.labels.now c.args.texts.now.texts c.args.numbers.now c.loop-i.i (label c.pair.result.0.now c.pair.result.1.now) (slice_index_or c.args.numbers.now c.loop-i.i (0, 0)) c.pair.ensures (at_i c.args.numbers.now c.loop-i.i c.loop-i-test.true) (name_differs c.args.texts.now.texts (slice_index_or c.args.numbers.now c.loop-i.i (0, 0)) (label c.pair.result.0.now c.pair.result.1.now) c.bytes.result.now c.bytes.ensures c.if-ne.ensures)

pub returns-then-ne-2-clause-no : goal.returns-then-ne-2-clause-no
returns-then-ne-2-clause-no c _ =
    named_not c.args.labels.now c.args.texts.now.texts c.args.numbers.now c.loop-i.i (label c.pair.result.0.now c.pair.result.1.now) (slice_index_or c.args.numbers.now c.loop-i.i (0, 0)) c.pair.ensures (at_i c.args.numbers.now c.loop-i.i c.loop-i-test.true) (value_differs c.args.texts.now.texts (slice_index_or c.args.numbers.now c.loop-i.i (0, 0)) (label c.pair.result.0.now c.pair.result.1.now) c.bytes-in-loop-i.result.now c.bytes-in-loop-i.ensures c.if-ne-2.ensures)

pub loop-i-preserved : goal.loop-i-preserved
loop-i-preserved c =
    named_more c.args.labels.now c.args.texts.now.texts c.args.numbers.now c.loop-i.i (label c.pair.result.0.now c.pair.result.1.now) (slice_index_or c.args.numbers.now c.loop-i.i (0, 0)) c.loop-i.invariant c.pair.ensures (at_i c.args.numbers.now c.loop-i.i c.loop-i-test.true) (named_is c.args.texts.now.texts (slice_index_or c.args.numbers.now c.loop-i.i (0, 0)) (label c.pair.result.0.now c.pair.result.1.now) c.bytes.result.now c.bytes-in-loop-i.result.now c.bytes.ensures c.bytes-in-loop-i.ensures c.if-ne.ensures c.if-ne-2.ensures)
