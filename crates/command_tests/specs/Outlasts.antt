-- What a run over a list of files leaves: the files, and what a crash at any moment of its calls does.
use Rattle.std.specs.Prelude.{◌≡◌, ◌⊎◌, ℕ, Bool, false, List, [], Option, None, Some}
use Rattle.std.specs.Path.{path_join}
use Rattle.wal_log.specs.declared.input.Checkpoint.{Checkpoint}
use Rattle.wal_log.specs.declared.input.Segment.{Segment}
use Rattle.wal_log.specs.Inputs.{Files, last_number}
use Rattle.head_core.specs.Content.{Content}
use Rattle.head_serial.specs.Replays.{IsReplayed}
use Rattle.head_live.specs.Rows.{Row}
use Rattle.block_read.specs.declared.block.Block.{Block}
use Rattle.block_cut.specs.Logs.{IsBlockOfLog}
use Rattle.store.specs.Calls.{Call}
use Rattle.store.specs.Views.{View}
use Rattle.store.specs.Disk.{File, MayLeave, Standing, after_all, disk_of}
use Rattle.answers.specs.declared.damage.Flaw.{Flaw}
use Rattle.answers.specs.declared.requests.AppendRequest.{AppendRequest}
use Rattle.answers.specs.declared.requests.CheckpointRequest.{CheckpointRequest}
use Rattle.answers.specs.declared.requests.CutRequest.{CutRequest}
use Rattle.answers.specs.declared.requests.UnpackRequest.{UnpackRequest}
use Rattle.new_files.specs.Crashes.{AtEachMoment}
use Rattle.new_files.specs.Folders.{FileAt}
use Rattle.new_files.specs.Shown.{AreNamesIn, IsTreeIn, shown}
use Rattle.new_files.specs.Targets.{unfinished_of}
use Rattle.log_directory.specs.Directory.{IsLogIn}
use Rattle.log_directory.specs.Sources.{IsSourceIn}
use Rattle.answers.specs.Answers.{IsNoDamage}
use Rattle.write_commands.specs.Checkpoints.{IsFreeIn, checkpoint_path}
use Rattle.write_commands.specs.Crashes.{ReplaysAlike, ReplaysOldOrRows, ReplaysRows}
use Rattle.write_commands.specs.RowTexts.{AreRowsAt}
use Rattle.block_commands.specs.Folders.{IsFreeIn as IsFreeForBlock, LeavesBlock, LeavesOldOrBlock}
use Rattle.log_directory.specs.declared.unpacking.FileDamage.{FileDamage}
use Rattle.unpack_command.specs.Folders.{Ending, IsOut, LeavesLog, LeavesOldBesideLog, LeavesOldOrLog}
use Rattle.log_directory.specs.declared.lost.Lost.{Lost}
use Rattle.log_directory.specs.Rescued.{IsRescuedLogIn}
use Rattle.unpack_command.specs.Rescues.{RescueEnding}
use Rattle.log_directory.specs.Unpacked.{IsUnpackedLogIn}
use Rattle.command_tests.specs.Listings.{HoldsAt, Relists, standing_in}

-- P of what a crash may leave after these calls, where this stood before, and of what its paths lead to
abbrev pub CrashLeaves : Standing → (Standing → (List ℕ → Option File) → Standing → Type 0) → List Call → Type 0
CrashLeaves before P calls = (left : Standing) (leads : List ℕ → Option File) → MayLeave (after_all (disk_of before) calls) leads left → P before leads left

-- The calls made of these files those after them. A crash at any moment of the calls leaves `Either`, and a crash after them `New` if all
-- went well.
pub record Outlasts (files : List FileAt) (calls : List Call) (later : List FileAt) (Either New : Standing → (List ℕ → Option File) → Standing → Type 0) (WentWell : Type 0) : Type 0 where
  pub is_renamed : Bool
  pub done : Relists files false calls later is_renamed
  pub crash : AtEachMoment (CrashLeaves (standing_in files) Either) calls
  pub well : WentWell → CrashLeaves (standing_in files) New calls

-- no call was made, and the files stay
abbrev pub MakesNone : List FileAt → List Call → List FileAt → Type 0
MakesNone files calls later = (calls ≡ []) × (later ≡ files)

-- ---- of `append`

-- No call was made, since the run failed before or the file has no rows. Or a log is in the directory, and whenever a crash comes, a
-- replay gives its head, or that head with the rows of the file; and if all went well, with the rows.
abbrev pub AppendOutlasts : AppendRequest → List FileAt → List Call → List FileAt → Type 0 → Type 0
AppendOutlasts request files calls later WentWell =
    let before = standing_in files in
    let dir = request.dir.now in
    let m = request.options.min_valid in
    (MakesNone files calls later × (WentWell → AreRowsAt request.floats (HoldsAt before) request.rows.now []))
    ⊎ ((log : Files) × (c : Content) × (rows : List Row) × IsLogIn (shown before) dir log × IsReplayed log m None c × AreRowsAt request.floats (HoldsAt before) request.rows.now rows
    × Outlasts files calls later (λ _ leads left. ReplaysOldOrRows dir m c rows left) (λ _ leads left. ReplaysRows dir m c rows left) WentWell)

-- ---- of `checkpoint`

-- what a replay gives stays, if in the unfinished folder of the checkpoint nothing was but where the folder did
abbrev pub StaysAlike : CheckpointRequest → Files → ℕ → Standing → (List ℕ → Option File) → Standing → Type 0
StaysAlike request log number before leads left = IsTreeIn before (unfinished_of (checkpoint_path request.dir.now number)) → ReplaysAlike request.dir.now request.min_valid log leads left

-- No call was made, since the run failed before. Or a log is in the directory and no checkpoint of its last number, and whenever a crash
-- comes, a replay gives what it gave before.
abbrev pub CheckpointOutlasts : CheckpointRequest → List FileAt → List Call → List FileAt → Type 0 → Type 0
CheckpointOutlasts request files calls later WentWell =
    let before = shown (standing_in files) in
    let dir = request.dir.now in
    (MakesNone files calls later × (WentWell → ⊥))
    ⊎ ((log : Files) × (number : ℕ) × IsLogIn before dir log × (last_number log ≡ Some number) × IsFreeIn before dir number
    × Outlasts files calls later (StaysAlike request log number) (StaysAlike request log number) WentWell)

-- ---- of `cut`

-- No call was made, since the run failed before. Or a log is in the directory and nothing has the block's name, and whenever a crash comes,
-- at the block's path is what was there, or the folder of the block of this log; and if all went well, the folder.
abbrev pub CutOutlasts : CutRequest → List FileAt → List Call → List FileAt → Type 0 → Type 0
CutOutlasts request files calls later WentWell =
    (MakesNone files calls later × (WentWell → ⊥))
    ⊎ ((log : Files) × (own : Option Flaw) × (block : Block) × IsSourceIn request.form (shown (standing_in files)) request.dir.now log own × IsNoDamage own × IsBlockOfLog request.encoding log request.options.min_valid request.hour request.ulid.now block
    × IsFreeForBlock (shown (standing_in files)) request.out.now request.ulid.now
    × Outlasts files calls later (LeavesOldOrBlock request.out.now request.ulid.now block) (LeavesBlock request.out.now request.ulid.now block) WentWell)

-- ---- of `unpack`

-- the names in directories where these files are, and the bytes that are there at a moment of calls from there on
abbrev pub seen_from : List FileAt → View
seen_from files = record {
  names = AreNamesIn (standing_in files);
  bytes = λ dir name bytes. (made : List Call) × (between : List FileAt) × (is_renamed : Bool) × Relists files false made between is_renamed × (standing_in between (path_join dir name) ≡ Some bytes);
}

-- No call was made, since the run failed before, or since the log is damaged, and then the damage that is reported is its own. Or the log in the
-- directory was unpacked up to the damage that is reported, and whenever a crash comes, at the new path is what was there, or a folder with
-- what was unpacked; and if all went well, the folder. Or it was given up, and whenever a crash comes, at the new path is what was there.
abbrev pub UnpackOutlasts : UnpackRequest → List FileAt → List Call → List FileAt → Ending → Type 0
UnpackOutlasts request files calls later end =
    (MakesNone files calls later × (end.well → ⊥)
    × (end.told → (checkpoint : Option Checkpoint) × (segments : List Segment) × (bad : FileDamage) × IsUnpackedLogIn (seen_from files) request.dir.now checkpoint segments (Some bad) × end.tells (Some bad)))
    ⊎ ((path : List ℕ) × IsOut request.out.now path
    × (((checkpoint : Option Checkpoint) × (segments : List Segment) × (damage : Option FileDamage) × IsUnpackedLogIn (seen_from files) request.dir.now checkpoint segments damage
    × end.tells damage × (request.through_damage ≡ false → damage ≡ None) × Outlasts files calls later (LeavesOldOrLog path checkpoint segments) (LeavesLog path checkpoint segments) end.well)
    ⊎ ((checkpoint : Option Checkpoint) × (segments : List Segment) × Outlasts files calls later (LeavesOldBesideLog path checkpoint segments) (LeavesOldBesideLog path checkpoint segments) ⊥
    × (end.told → ⊥) × (end.well → ⊥))))

-- ---- of `unpack --past-damage`

-- No call was made, since the run failed before. Or all that can be read of the log in the directory was written, with what is reported to be lost,
-- and whenever a crash comes, at the new path is what was there, or a folder with what was written; and if all went well, the folder. Or
-- it was given up, and whenever a crash comes, at the new path is what was there.
abbrev pub RescueOutlasts : UnpackRequest → List FileAt → List Call → List FileAt → RescueEnding → Type 0
RescueOutlasts request files calls later end =
    (MakesNone files calls later × (end.told → ⊥) × (end.well → ⊥))
    ⊎ ((path : List ℕ) × IsOut request.out.now path
    × (((checkpoint : Option Checkpoint) × (segments : List Segment) × (lost : List Lost) × IsRescuedLogIn (seen_from files) request.dir.now checkpoint segments lost
    × end.tells lost × Outlasts files calls later (LeavesOldOrLog path checkpoint segments) (LeavesLog path checkpoint segments) end.well)
    ⊎ ((checkpoint : Option Checkpoint) × (segments : List Segment) × Outlasts files calls later (LeavesOldBesideLog path checkpoint segments) (LeavesOldBesideLog path checkpoint segments) ⊥
    × (end.told → ⊥) × (end.well → ⊥))))
