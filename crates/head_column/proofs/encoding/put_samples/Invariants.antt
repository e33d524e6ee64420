use Rattle.std.proofs.Common.{◌≡◌, ◌++◌, drop}
use Rattle.head_column.specs.Chunks.{samples_text}
use Rattle.head_column.proofs.encoding.put_samples.Given as goal

abbrev pub invariant-loop-sample : goal.invariant-loop-sample
invariant-loop-sample l = l.bytes.items ++ samples_text l.before (drop l.sample-index l.samples) ≡ l.fn.bytes.items ++ samples_text l.fn.before l.samples
