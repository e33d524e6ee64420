-- A disk, what calls make of it, and what a crash may leave of it.
use Rattle.std.specs.Prelude.{◌≡◌, ◌⊎◌, ℕ, ◌++◌, Bool, true, false, ◌&&◌, if◌then◌else◌, List, [], ◌∷◌, length, take, drop, Option, Some, None, IfSome, nat_lt, bytes_eq}
use Rattle.std.specs.Option.{option_map, unwrap_or}
use Rattle.std.specs.List.{AllByRecursion}
use Rattle.std.specs.Path.{has_no_slash, with_separator}
use Rattle.store.specs.Calls.{Call, Create, CreateDir, Remove, Rename, SyncDir, SyncFile, Write}

-- A file or a directory: the one that was at this path before, or the one that was created at it since. It keeps this name when it is
-- renamed, so this is for calls that create no path twice.
pub data File : Type 0 where
  Old : List ℕ → File
  New : List ℕ → File

-- All that was written to a file, whether all of it is on the device, and what there was of it when the file was last synced, if it was. Of a
-- directory nothing was written.
pub record Content : Type 0 where
  pub bytes : List ℕ
  pub synced : Bool
  pub kept : Option (List ℕ)

-- A disk. What a path has led to since its directory was last synced, the last first; and the files. The paths in a directory that was
-- renamed stay those under which they were created.
pub record Disk : Type 0 where
  pub names : List ℕ → List (Option File)
  pub content : File → Content

-- the path is a name in this directory
abbrev pub is_in : List ℕ → List ℕ → Bool
is_in dir path =
    let start = with_separator dir in
    let name = drop (length start) path in
    bytes_eq start (take (length start) path) && nat_lt 0 (length name) && has_no_slash name

-- ---- what calls make of a disk

-- these values, but this one at a path
abbrev pub changed : {X : Type 0} → (List ℕ → X) → List ℕ → X → List ℕ → X
changed values path value other = if bytes_eq path other then value else values other

-- the path leads to this file from now on, or to none
abbrev pub led : (List ℕ → List (Option File)) → List ℕ → Option File → List ℕ → List (Option File)
led names path file = changed names path (file ∷ names path)

-- the file that was created at this path has this content from now on
abbrev pub given : (File → Content) → List ℕ → Content → File → Content
given content path new (Old other) = content (Old other)
given content path new (New other) = changed (λ p. content (New p)) path new other

-- what a path leads to
abbrev pub latest : List (Option File) → Option File
latest [] = None
latest (file ∷ files) = file

abbrev pub no_bytes : Content
no_bytes = record { bytes = []; synced = true; kept = None }

-- the disk after a call that took effect
abbrev pub after : Disk → Call → Disk
after disk (Create path) = record { names = led disk.names path (Some (New path)); content = given disk.content path no_bytes }
after disk (CreateDir path) = record { names = led disk.names path (Some (New path)); content = given disk.content path no_bytes }
after disk (Write path bytes) = record { names = disk.names; content = given disk.content path (record { bytes = (disk.content (New path)).bytes ++ bytes; synced = false; kept = (disk.content (New path)).kept }) }
after disk (SyncFile path) = record { names = disk.names; content = given disk.content path (record { bytes = (disk.content (New path)).bytes; synced = true; kept = Some (disk.content (New path)).bytes }) }
after disk (SyncDir dir) = record { names = λ path. if is_in dir path then latest (disk.names path) ∷ [] else disk.names path; content = disk.content }
after disk (Rename from to) = record { names = led (led disk.names to (latest (disk.names from))) from None; content = disk.content }
after disk (Remove path) = record { names = led disk.names path None; content = disk.content }

-- the disk after calls, one after another
abbrev pub after_all : Disk → List Call → Disk
after_all disk [] = disk
after_all disk (call ∷ calls) = after_all (after disk call) calls

-- What is to be created is not there.
abbrev pub CanTake : Disk → Call → Type 0
CanTake disk (Create path) = latest (disk.names path) ≡ None
CanTake disk (CreateDir path) = latest (disk.names path) ≡ None
CanTake disk call = Unit {0}

abbrev pub CanTakeAll : Disk → List Call → Type 0
CanTakeAll disk [] = Unit {0}
CanTakeAll disk (call ∷ calls) = CanTake disk call × CanTakeAll (after disk call) calls

-- the bytes at each path, or none; the whole of it is on the device
abbrev pub Standing : Type 0
Standing = List ℕ → Option (List ℕ)

-- a disk on which just this is
abbrev pub disk_of : Standing → Disk
disk_of standing = record {
  names = λ path. option_map (λ _. Old path) (standing path) ∷ [];
  content = λ file. record {
    bytes = elim file [ Old path ↦ unwrap_or (standing path) [] | New path ↦ [] ];
    synced = true;
    kept = elim file [ Old path ↦ Some (unwrap_or (standing path) []) | New path ↦ None ];
  };
}

-- ---- what a crash may leave

abbrev pub IsAmong : {X : Type 0} → List X → X → Type 0
IsAmong [] x = ⊥
IsAmong (y ∷ ys) x = (x ≡ y) ⊎ IsAmong ys x

-- the bytes begin with the first ones, and the last ones begin with them
abbrev pub IsBetween : List ℕ → List ℕ → List ℕ → Type 0
IsBetween first bytes last = ((more : List ℕ) × (bytes ≡ first ++ more)) × ((rest : List ℕ) × (last ≡ bytes ++ rest))

-- What may be read of a file after a crash: its bytes, or any bytes if they are not all on the device. A file that was synced has at least what
-- it had then, and a first part of what was written behind it.
abbrev pub MayRead : (File → Content) → Option File → Option (List ℕ) → Type 0
MayRead content None left = left ≡ None
MayRead content (Some file) left = (bytes : List ℕ) × (left ≡ Some bytes) × ((content file).synced ≡ true → bytes ≡ (content file).bytes)
    × IfSome (content file).kept (λ first. IsBetween first bytes (content file).bytes)

-- A crash may leave this: each path leads to something that it has led to since its directory was synced, whatever other paths lead to.
abbrev pub MayLeave : Disk → (List ℕ → Option File) → Standing → Type 0
MayLeave disk leads left = (path : List ℕ) → IsAmong (disk.names path) (leads path) × MayRead disk.content (leads path) (left path)

-- what was at all paths but these is there
abbrev pub AreLeft : List (List ℕ) → Standing → Standing → Type 0
AreLeft changed before left = (path : List ℕ) → AllByRecursion (λ other. path ≡ other → ⊥) changed → left path ≡ before path

-- all paths but these lead to what was there
abbrev pub LeadAsBefore : List (List ℕ) → Standing → (List ℕ → Option File) → Type 0
LeadAsBefore changed before leads = (path : List ℕ) → AllByRecursion (λ other. path ≡ other → ⊥) changed → leads path ≡ option_map (λ _. Old path) (before path)
