-- Jobs that are finished.
use Rattle.std.specs.Prelude.{◌≡◌, ℕ, List, Some, length, slice_get}

-- there are as many jobs as before, in their order, and each is done
pub record AreDone {J : Type 0} (done : J → J → Type 0) (before after : List J) : Type 0 where
  pub long : length after ≡ length before
  pub each : (k : ℕ) (x y : J) → slice_get before k ≡ Some x → slice_get after k ≡ Some y → done x y
