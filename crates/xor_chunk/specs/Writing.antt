-- A chunk that is being written, sample by sample, behind other bytes.
use Rattle.std.specs.Prelude.{ℕ, List, Bool, drop}
use Rattle.xor_chunk.specs.Chunks.{xor_text}
use Rattle.xor_chunk.specs.declared.sample.Sample.{Sample}

-- what follows the two bytes of a chunk that say how many samples it has
unfoldable pub xor_body : List Sample → List ℕ
xor_body samples = drop 2 (xor_text samples)

-- what contracts see of a chunk that is being written: the bytes before it, its samples, and how many more it takes without allocating
pub record WriterValue : Type 0 where
  pub front : List ℕ
  pub samples : List Sample
  pub room : ℕ

-- what contracts see of bits that are being written: the bytes before them, the bits, and for how many more there is memory
pub record BitsValue : Type 0 where
  pub front : List ℕ
  pub bits : List Bool
  pub room : ℕ
