-- A directory that nobody changes while it is read.
use Rattle.std.specs.Prelude.{◌≡◌, ℕ, List}
use Rattle.store.specs.Views.{View}

-- Each directory has one list of names, and each file has one text.
pub record IsStill (view : View) : Type 0 where
  pub names : (dir : List ℕ) (first second : List (List ℕ)) → view.names dir first → view.names dir second → first ≡ second
  pub bytes : (dir name first second : List ℕ) → view.bytes dir name first → view.bytes dir name second → first ≡ second
