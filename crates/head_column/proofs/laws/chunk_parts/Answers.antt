use Rattle.std.proofs.Common.{arith}
use Rattle.head_column.specs.Chunks.{chunk_samples}
use Rattle.xor_chunk.proofs.Parts.{parts_are, one_parts}
use Rattle.head_column.proofs.laws.chunk_parts.Goals as goal

pub returns : goal.returns
returns c = record { are = parts_are chunk_samples (omega arith); one = one_parts chunk_samples (omega arith) }
