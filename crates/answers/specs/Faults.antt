-- What a fault says.
use Rattle.std.specs.Prelude.{◌≡◌, ℕ, ◌++◌, List, Option, None, Some, codes, string_bytes, ⊤}
use Rattle.std.specs.Fmt.{decimal}
use Rattle.answers.specs.declared.fault.Fault.{Fault}
use Rattle.answers.specs.declared.fault.Fault.TheVariants.{Damage, Lost, BadIndex, BadChunks, BadTombstones, BadMeta, NotMeta, CannotRead, CannotWrite, Exists, OutOfMemory}
use Rattle.answers.specs.Damages.{damage_text}
use Rattle.store.specs.Shown.{shown}

-- the log is damaged, or parts of it are lost, or bytes of a block are not what a block has there
abbrev pub TellsDamage : Fault → Type 0
TellsDamage (Damage _) = ⊤
TellsDamage (Lost _) = ⊤
TellsDamage (BadIndex _) = ⊤
TellsDamage BadChunks = ⊤
TellsDamage BadTombstones = ⊤
TellsDamage BadMeta = ⊤
TellsDamage (NotMeta _) = ⊤
TellsDamage _ = ⊥

-- nothing of the kind
abbrev pub TellsNoDamage : Fault → Type 0
TellsNoDamage fault = TellsDamage fault → ⊥

-- what is at this path could not be read, or out of memory
abbrev pub TellsUnread : List ℕ → Fault → Type 0
TellsUnread path (CannotRead told reason) = string_bytes told ≡ path
TellsUnread _ OutOfMemory = ⊤
TellsUnread _ _ = ⊥

-- what is at this path could not be written, or out of memory
abbrev pub TellsUnwritten : List ℕ → Fault → Type 0
TellsUnwritten path (CannotWrite told reason) = string_bytes told ≡ path
TellsUnwritten _ OutOfMemory = ⊤
TellsUnwritten _ _ = ⊥

-- what was to be made at this path is there already, or out of memory
abbrev pub TellsTaken : List ℕ → Fault → Type 0
TellsTaken path (Exists told) = string_bytes told ≡ path
TellsTaken _ OutOfMemory = ⊤
TellsTaken _ _ = ⊥

-- the text of a fault that is damage of a log, or tells how much is lost, or that names a path, which is one line whatever the path is
abbrev pub path_text : Fault → Option (List ℕ)
path_text (Damage line) = Some (damage_text line.0)
path_text (Lost parts) = Some (codes "lost parts of the log: " ++ decimal parts)
path_text (NotMeta path) = Some (shown (string_bytes path) ++ codes ": not a block's meta.json")
path_text (CannotRead path reason) = Some (codes "cannot read " ++ shown (string_bytes path))
path_text (CannotWrite path reason) = Some (codes "cannot write " ++ shown (string_bytes path))
path_text (Exists path) = Some (codes "cannot write " ++ (shown (string_bytes path) ++ codes ": it exists already"))
path_text _ = None
