-- Words of private functions: bytes that are made, kept, and written.
use Rattle.std.specs.Prelude.{◌≡◌, ℕ, List, ◌++◌, Option}
use Rattle.std.specs.Io.KnownBytes.{Appends}

-- the first of the bytes that were kept were written, and the others are kept still
pub record Moves (before : Option (List ℕ)) (kept : List ℕ) (behind : Option (List ℕ)) (still : List ℕ) : Type 0 where
  pub written : List ℕ
  pub appends : Appends before behind written
  pub all : kept ≡ written ++ still
