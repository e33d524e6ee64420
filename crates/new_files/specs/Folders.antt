-- A new folder: the order in which it is written, and what a crash leaves of it.
use Rattle.std.specs.Prelude.{◌≡◌, ◌⊎◌, ℕ, Bool, true, List, [], ◌∷◌, ◌++◌, map, Option, None, Some, string_bytes}
use Rattle.std.specs.List.{AllByRecursion, flat_map, list_any}
use Rattle.store.specs.Calls.{Call, CreateDir, Rename, SyncDir}
use Rattle.store.specs.Disk.{AreLeft, File, LeadAsBefore, New, Standing, is_in}
use Rattle.new_files.specs.declared.folder.NewFile.{NewFile}
use Rattle.new_files.specs.Files.{file_calls}

-- a file by its path and its bytes
pub record FileAt : Type 0 where
  pub path : List ℕ
  pub bytes : List ℕ

-- what contracts see of a `NewFile`
abbrev pub file_at : NewFile → FileAt
file_at file = record { path = string_bytes file.path; bytes = file.bytes.now }

-- the path is a name in one of these directories
abbrev pub is_inside : List (List ℕ) → List ℕ → Bool
is_inside dirs path = list_any (λ dir. is_in dir path) dirs

-- The directories are in the folder, and each file is in it or in one of them.
pub record AreInside (folder : List ℕ) (dirs : List (List ℕ)) (files : List FileAt) : Type 0 where
  pub dirs_in : AllByRecursion (λ dir. is_in folder dir ≡ true) dirs
  pub files_in : AllByRecursion (λ (file : FileAt). is_inside (dirs ++ folder ∷ []) file.path ≡ true) files

abbrev pub create_dirs : List (List ℕ) → List Call
create_dirs dirs = flat_map (λ dir. CreateDir dir ∷ []) dirs

abbrev pub sync_dirs : List (List ℕ) → List Call
sync_dirs dirs = flat_map (λ dir. SyncDir dir ∷ []) dirs

-- files one after another
abbrev pub files_calls : List FileAt → List Call
files_calls files = flat_map (λ (file : FileAt). file_calls file.path file.bytes) files

-- the unfinished folder: the directories, the files, and then each directory is synced, the folder last
abbrev pub unfinished_folder : List ℕ → List (List ℕ) → List FileAt → List Call
unfinished_folder unfinished dirs files = (CreateDir unfinished ∷ create_dirs dirs) ++ (files_calls files ++ (sync_dirs dirs ++ SyncDir unfinished ∷ []))

-- A new folder: the unfinished one is renamed, and the directory that it is in is synced.
abbrev pub new_folder : List ℕ → List ℕ → List ℕ → List (List ℕ) → List FileAt → List Call
new_folder parent path unfinished dirs files = unfinished_folder unfinished dirs files ++ Rename unfinished path ∷ SyncDir parent ∷ []

-- The path leads to the folder that was created as the unfinished one and is there, with no bytes, as a directory has none; each
-- directory and each file in it is whole. Their paths are still those of the unfinished folder.
pub record IsWholeFolder (path unfinished : List ℕ) (dirs : List (List ℕ)) (files : List FileAt) (leads : List ℕ → Option File) (left : Standing) : Type 0 where
  pub folder : leads path ≡ Some (New unfinished)
  pub stands : left path ≡ Some []
  pub dirs_there : AllByRecursion (λ dir. leads dir ≡ Some (New dir)) dirs
  pub files_there : AllByRecursion (λ (file : FileAt). left file.path ≡ Some file.bytes) files

-- what is not as before: the folder, and what is in it
abbrev pub changed_paths : List ℕ → List ℕ → List (List ℕ) → List FileAt → List (List ℕ)
changed_paths path unfinished dirs files = path ∷ unfinished ∷ dirs ++ map (λ (file : FileAt). file.path) files

-- At the path is what was there, or the whole folder, where nothing was at the unfinished one; and all else as before, but for the
-- unfinished folder.
pub record LeavesOldOrFolder (path unfinished : List ℕ) (dirs : List (List ℕ)) (files : List FileAt) (before : Standing) (leads : List ℕ → Option File) (left : Standing) : Type 0 where
  pub folder : (left path ≡ before path) ⊎ ((before unfinished ≡ None) × IsWholeFolder path unfinished dirs files leads left)
  pub others : AreLeft (changed_paths path unfinished dirs files) before left
  pub leads_as : LeadAsBefore (changed_paths path unfinished dirs files) before leads

-- At the path is the whole folder.
pub record LeavesFolder (path unfinished : List ℕ) (dirs : List (List ℕ)) (files : List FileAt) (before : Standing) (leads : List ℕ → Option File) (left : Standing) : Type 0 where
  pub folder : IsWholeFolder path unfinished dirs files leads left

-- At the path is what was there; and all else as before, but for the unfinished folder.
pub record LeavesOld (path unfinished : List ℕ) (dirs : List (List ℕ)) (files : List FileAt) (before : Standing) (leads : List ℕ → Option File) (left : Standing) : Type 0 where
  pub folder : left path ≡ before path
  pub others : AreLeft (changed_paths path unfinished dirs files) before left
  pub leads_as : LeadAsBefore (changed_paths path unfinished dirs files) before leads
