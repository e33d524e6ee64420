-- Samples.
use Rattle.std.specs.Prelude.{FitsSigned}
use Rattle.std.specs.Int.{w64}
use Rattle.xor_chunk.specs.declared.sample.Sample.{Sample}

-- the numbers of the sample fit in 64 bits
pub record IsFit (s : Sample) : Type 0 where
  pub time : FitsSigned w64 s.time
  pub value : FitsSigned w64 s.value
