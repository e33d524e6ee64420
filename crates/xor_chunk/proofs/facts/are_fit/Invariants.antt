use Rattle.std.proofs.Common.{ℕ, ◌<◌, get_or}
use Rattle.xor_chunk.specs.Samples.{IsFit}
use Rattle.xor_chunk.specs.declared.sample.Sample.{Sample}
use Rattle.xor_chunk.proofs.facts.are_fit.Given as goal

abbrev pub invariant-loop-sample : goal.invariant-loop-sample
invariant-loop-sample l = (k : ℕ) (d : Sample) → k < l.sample-index → IsFit (get_or l.samples k d)
