-- What a fault of writing says.
use Rattle.std.specs.Prelude.{◌≡◌, ℕ, ◌++◌, List, codes, string_bytes, ⊤}
use Rattle.store.specs.Shown.{shown}
use Rattle.new_files.specs.declared.fault.WriteFault.{WriteFault}
use Rattle.new_files.specs.declared.fault.WriteFault.TheVariants.{CannotWrite, OutOfMemory}

-- what is at this path could not be written, or out of memory
abbrev pub NamesPath : List ℕ → WriteFault → Type 0
NamesPath path (CannotWrite named reason) = string_bytes named ≡ path
NamesPath path OutOfMemory = ⊤

-- its text
abbrev pub text_of : WriteFault → List ℕ
text_of (CannotWrite path reason) = codes "cannot write " ++ shown (string_bytes path)
text_of OutOfMemory = codes "out of memory"
