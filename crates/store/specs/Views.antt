-- What is seen of directories and files.
use Rattle.std.specs.Prelude.{ℕ, List}
use Rattle.std.specs.Path.{path_join}
use Rattle.store.specs.Found.{Bytes, Found, Names}

-- the names in a directory, and the bytes of a file by its directory and its name
pub record View : Type 1 where
  pub names : List ℕ → List (List ℕ) → Type 0
  pub bytes : List ℕ → List ℕ → List ℕ → Type 0

-- what is seen where this is found at paths
abbrev pub view_of : (List ℕ → Found → Type 0) → View
view_of found = record { names = λ dir names. found dir (Names names); bytes = λ dir name bytes. found (path_join dir name) (Bytes bytes) }
