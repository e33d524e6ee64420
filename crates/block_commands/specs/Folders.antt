-- The folder of a block, and what a crash leaves where it is written.
use Rattle.std.specs.Prelude.{◌≡◌, ◌⊎◌, ℕ, zero, suc, ◌+◌, All, List, [], ◌∷◌, ◌++◌, Option, codes}
use Rattle.std.specs.Path.{path_join}
use Rattle.store.specs.Calls.{Call}
use Rattle.store.specs.Found.{Found}
use Rattle.store.specs.Views.{View, view_of}
use Rattle.store.specs.Disk.{File, Standing}
use Rattle.answers.specs.declared.requests.BlockRequest.{BlockRequest}
use Rattle.answers.specs.declared.requests.BlockRequest.TheVariants as asked
use Rattle.answers.specs.declared.requests.CutRequest.{CutRequest}
use Rattle.wal_log.specs.Inputs.{Files}
use Rattle.block_cut.specs.Logs.{IsBlockOfLog}
use Rattle.block_read.specs.declared.block.Block.{Block}
use Rattle.hw_bytes.specs.Sums.{Text}
use Rattle.new_files.specs.Crashes.{IsCrashSafe}
use Rattle.new_files.specs.Folders.{FileAt, LeavesFolder, LeavesOldOrFolder}
use Rattle.new_files.specs.Targets.{TargetPaths, unfinished_of, zero_filled}
use Rattle.answers.specs.declared.damage.Flaw.{Flaw}
use Rattle.log_directory.specs.Sources.{IsSourceIn}
use Rattle.answers.specs.Answers.{IsNoDamage}

-- the file of this name in a directory
abbrev pub named : List ℕ → List ℕ → List ℕ → FileAt
named dir name bytes = record { path = path_join dir name; bytes = bytes }

-- chunk files in a directory, numbered from n on
abbrev pub chunk_paths : List ℕ → ℕ → List Text → List FileAt
chunk_paths dir n [] = []
chunk_paths dir n (chunk ∷ chunks) = named dir (zero_filled 6 n) chunk ∷ chunk_paths dir (n + 1) chunks

-- the paths of so many chunk files in a directory, numbered from n on
abbrev pub numbered : List ℕ → ℕ → ℕ → List (List ℕ)
numbered dir n zero = []
numbered dir n (suc more) = path_join dir (zero_filled 6 n) ∷ numbered dir (n + 1) more

-- the files of a block in a folder, those of chunks in the directory `dir`
abbrev pub block_files : List ℕ → List ℕ → Block → List FileAt
block_files folder dir block =
    named folder (codes "index") block.index ∷ chunk_paths dir 1 block.chunks ++ named folder (codes "tombstones") block.tombstones ∷ named folder (codes "meta.json") block.meta ∷ []

-- the directory of chunk files in a folder
abbrev pub chunks_in : List ℕ → List ℕ
chunks_in folder = path_join folder (codes "chunks")

-- At the target's path is what was there, or a folder with the block's files; after a write that went well, the folder.
abbrev pub WritesFolder : {S : Type 0} → (S → List Call → S → Type 0) → S → TargetPaths → Block → Type 0 → S → Type 0
WritesFolder did old at block WentWell new =
    let dirs = chunks_in at.unfinished ∷ [] in
    let files = block_files at.unfinished (chunks_in at.unfinished) block in
    IsCrashSafe did old (LeavesOldOrFolder at.path at.unfinished dirs files) (LeavesFolder at.path at.unfinished dirs files) WentWell new

-- At the block's path is what was there, or a folder with its files; and all else as before, but for the unfinished folder.
abbrev pub LeavesOldOrBlock : List ℕ → List ℕ → Block → Standing → (List ℕ → Option File) → Standing → Type 0
LeavesOldOrBlock out name block =
    let path = path_join out name in
    let folder = unfinished_of path in
    LeavesOldOrFolder path folder (chunks_in folder ∷ []) (block_files folder (chunks_in folder) block)

-- At the block's path is a folder with its files.
abbrev pub LeavesBlock : List ℕ → List ℕ → Block → Standing → (List ℕ → Option File) → Standing → Type 0
LeavesBlock out name block =
    let path = path_join out name in
    let folder = unfinished_of path in
    LeavesFolder path folder (chunks_in folder ∷ []) (block_files folder (chunks_in folder) block)

-- nothing in the directory has this name
abbrev pub IsFreeIn : View → List ℕ → List ℕ → Type 0
IsFreeIn view dir name = (names : List (List ℕ)) × view.names dir names × All (λ (other : List ℕ). other ≡ name → ⊥) names

-- A block was written where nothing had its name, or the call failed before.
abbrev pub WritesBlock : {S : Type 0} → (S → List Call → S → Type 0) → (S → List ℕ → Found → Type 0) → S → List ℕ → List ℕ → Block → Type 0 → S → Type 0
WritesBlock did holds old out name block WentWell new =
    ((new ≡ old) × (WentWell → ⊥))
    ⊎ (IsFreeIn (view_of (holds old)) out name × IsCrashSafe did old (LeavesOldOrBlock out name block) (LeavesBlock out name block) WentWell new)

-- The block of the log in the directory, in the form that is asked for, was written, or the call failed before. There was no damage up to which
-- the log was read.
abbrev pub Cuts : {S : Type 0} → (S → List Call → S → Type 0) → (S → List ℕ → Found → Type 0) → S → CutRequest → Type 0 → S → Type 0
Cuts did holds old request WentWell new =
    ((new ≡ old) × (WentWell → ⊥))
    ⊎ ((log : Files) × (own : Option Flaw) × (block : Block) × IsSourceIn request.form (view_of (holds old)) request.dir.now log own × IsNoDamage own × IsBlockOfLog request.encoding log request.options.min_valid request.hour request.ulid.now block
    × WritesBlock did holds old request.out.now request.ulid.now block WentWell new)

-- A request to cut writes a block. The other requests change nothing.
abbrev pub CarriesOut : {S : Type 0} → (S → List Call → S → Type 0) → (S → List ℕ → Found → Type 0) → S → BlockRequest → Type 0 → S → Type 0
CarriesOut did holds old (asked.Cut request) WentWell new = Cuts did holds old request WentWell new
CarriesOut did holds old (asked.Ranges dir form options) WentWell new = new ≡ old
CarriesOut did holds old (asked.Block path) WentWell new = new ≡ old
