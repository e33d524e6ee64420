use Rattle.std.proofs.Common.{rules}
use Rattle.std.specs.Prelude.{FitsSigned}
use Rattle.std.specs.Int.{w64}
use Rattle.xor_chunk.proofs.facts.is_fit.Goals as goal

pub returns : goal.returns
returns c =
    let time : FitsSigned w64 c.args._sample.time = search rules in
    let value : FitsSigned w64 c.args._sample.value = search rules in
    record { time = time; value = value }
