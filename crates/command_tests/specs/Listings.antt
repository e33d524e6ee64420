-- Files and directories in a list: what is there, and what calls make of it.
use Rattle.std.specs.Prelude.{◌≡◌, ◌≢◌, ◌↔◌, ℕ, Bool, true, false, not, ◌&&◌, ◌==◌, List, [], ◌∷◌, ◌++◌, Option, None, Some, Contains, if◌then◌else◌, bytes_eq, drop, filter, length, map, string_bytes, take}
use Rattle.std.specs.List.{IsDistinct, find}
use Rattle.std.specs.Option.{option_map}
use Rattle.std.specs.Path.{slash}
use Rattle.std.proofs.Common.{◌∙◌, ap, sym, subst, refl}
use Rattle.store.specs.Calls.{Call, Create, CreateDir, Remove, Rename, SyncDir, SyncFile, Write}
use Rattle.store.specs.Found.{Bytes, Found, Names}
use Rattle.store.specs.Disk.{Standing}
use Rattle.new_files.specs.Folders.{FileAt}
use Rattle.new_files.specs.Shown.{AreNamesIn}
use Rattle.new_files.specs.Targets.{IsName}
use Rattle.command_tests.specs.Noted.{IsNoted, noted_both, noted_nothing}
use Rattle.command_tests.specs.declared.noted_call.NotedCall.{NotedCall}
use Rattle.command_tests.specs.declared.listed.Listed.{Listed}
use Rattle.command_tests.specs.declared.listing.Listing.{Listing}

-- what contracts see of a `Listed`
abbrev pub file_of : Listed → FileAt
file_of listed = record { path = string_bytes listed.path; bytes = listed.bytes.items }

-- the file has this path
abbrev pub is_at : List ℕ → FileAt → Bool
is_at path file = bytes_eq file.path path

-- What is there where these are listed: at each path the bytes of the first one of this path. A directory has none.
abbrev pub standing_in : List FileAt → Standing
standing_in files path = option_map (λ (file : FileAt). file.bytes) (find (is_at path) files)

-- ---- what is found of it

-- Where this is, these names are in a directory, and these bytes in a file.
abbrev pub HoldsAt : Standing → List ℕ → Found → Type 0
HoldsAt standing path (Names names) = AreNamesIn standing path names
HoldsAt standing path (Bytes bytes) = standing path ≡ Some bytes

-- The names of which a path with this front is listed: each once.
pub record AreNamesAt (files : List FileAt) (front : List ℕ) (names : List (List ℕ)) : Type 0 where
  pub once : IsDistinct bytes_eq names
  pub all : (name : List ℕ) → IsName name → Contains names name ↔ (standing_in files (front ++ name) ≢ None)

-- ---- what calls make of it

-- the file, with these bytes after its own if it has this path
abbrev pub longer : List ℕ → List ℕ → FileAt → FileAt
longer path bytes file = if is_at path file then record { path = file.path; bytes = file.bytes ++ bytes } else file

-- the files of all other paths
abbrev pub without : List ℕ → List FileAt → List FileAt
without path files = filter (λ file. not (is_at path file)) files

-- the text is empty, or goes on with a slash
abbrev pub is_below : List ℕ → Bool
is_below [] = true
is_below (byte ∷ bytes) = byte == slash

-- where a path leads to if what it names, or a directory that it is in, was renamed
abbrev pub renamed : List ℕ → List ℕ → List ℕ → List ℕ
renamed from to path = if bytes_eq (take (length from) path) from && is_below (drop (length from) path) then to ++ drop (length from) path else path

abbrev pub renamed_file : List ℕ → List ℕ → FileAt → FileAt
renamed_file from to file = record { path = renamed from to file.path; bytes = file.bytes }

-- the files after a call
abbrev pub relisted : List FileAt → Call → List FileAt
relisted files (Create path) = files ++ record { path = path; bytes = [] } ∷ []
relisted files (CreateDir path) = files ++ record { path = path; bytes = [] } ∷ []
relisted files (Write path bytes) = map (longer path bytes) files
relisted files (SyncFile path) = files
relisted files (SyncDir path) = files
relisted files (Rename from to) = map (renamed_file from to) (without to files)
relisted files (Remove path) = without path files

-- What is to be created is not there, and nothing was renamed before: what a renamed directory has in it would keep its names on a disk.
abbrev pub MayBe : List FileAt → Bool → Call → Type 0
MayBe files is_renamed (Create path) = (standing_in files path ≡ None) × (is_renamed ≡ false)
MayBe files is_renamed (CreateDir path) = (standing_in files path ≡ None) × (is_renamed ≡ false)
MayBe files is_renamed call = Unit {0}

-- whether something was renamed, with this call
abbrev pub renames : Bool → Call → Bool
renames is_renamed (Rename from to) = true
renames is_renamed call = is_renamed

-- These calls, one after another, make the one list of the other, and what was renamed.
abbrev pub Relists : List FileAt → Bool → List Call → List FileAt → Bool → Type 0
Relists files is_renamed [] later is_later = (later ≡ files) × (is_later ≡ is_renamed)
Relists files is_renamed (call ∷ calls) later is_later = MayBe files is_renamed call × Relists (relisted files call) (renames is_renamed call) calls later is_later

pub relists_both : (files middle later : List FileAt) (a b c : Bool) (first second : List Call) → Relists files a first middle b → Relists middle b second later c → Relists files a (first ++ second) later c
relists_both files middle later a b c [] second one two = subst (λ (fs : List FileAt). Relists fs a second later c) one.0 (subst (λ (is : Bool). Relists middle is second later c) one.1 two)
relists_both files middle later a b c (call ∷ first) second one two = (one.0, relists_both (relisted files call) middle later (renames a call) b c first second one.1 two)

-- Calls were noted, and these files made of those.
pub record DidOn (files : List FileAt) (was : Bool) (old : List NotedCall) (calls : List Call) (later : List FileAt) (is : Bool) (new : List NotedCall) : Type 0 where
  pub noted : IsNoted old calls new
  pub relists : Relists files was calls later is

pub did_nothing_on : (files : List FileAt) (was : Bool) (old : List NotedCall) → DidOn files was old [] files was old
did_nothing_on files was old = record { noted = noted_nothing old; relists = (refl, refl) }

pub did_both_on : (files middle later : List FileAt) (a b c : Bool) (old mid new : List NotedCall) (first second : List Call) → DidOn files a old first middle b mid → DidOn middle b mid second later c new → DidOn files a old (first ++ second) later c new
did_both_on files middle later a b c old mid new first second one two = record { noted = noted_both old mid new first second one.noted two.noted; relists = relists_both files middle later a b c first second one.relists two.relists }

-- between these states of a store these calls were made
abbrev pub Did : Listing → List Call → Listing → Type 0
Did old calls new = DidOn (map file_of old.files.items) old.is_renamed old.calls.items calls (map file_of new.files.items) new.is_renamed new.calls.items

-- the call that creates a directory or a file
abbrev pub creation : Bool → List ℕ → Call
creation true path = CreateDir path
creation false path = Create path
