-- Samples in the order of their times.
use Rattle.std.specs.Prelude.{◌<ℤ◌, List, [], ◌∷◌}
pub use Rattle.xor_chunk.specs.declared.sample.Sample.{Sample}

-- each time is greater than the one before it
abbrev pub Rises : List Sample → Type 0
Rises [] = Unit {0}
Rises (s ∷ []) = Unit {0}
Rises (s ∷ t ∷ rest) = (s.time <ℤ t.time) × Rises (t ∷ rest)
