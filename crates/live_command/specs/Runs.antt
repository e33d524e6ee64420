-- A store that runs behind a log.
use Rattle.std.specs.Prelude.{◌≡◌, ◌≤ℤ◌, ℕ, ℤ, List, [], None}
use Rattle.wal_log.specs.Inputs.{Files, next_number}
use Rattle.store.specs.Calls.{Call}
use Rattle.store.specs.Disk.{CanTakeAll, File, MayLeave, Standing, after_all, disk_of}
use Rattle.store.specs.Views.{View}
use Rattle.new_files.specs.Shown.{shown}
use Rattle.wal_record.specs.declared.record.WalRecord.{WalRecord}
use Rattle.head_serial.specs.Replays.{IsReplayed}
use Rattle.log_directory.specs.Directory.{IsLogIn}
use Rattle.live_log.specs.Running.{HasLogged, RunningState}
use Rattle.write_commands.specs.Growing.{ReadsSynced}
use Rattle.std.specs.Prelude.{Option}

-- In the directory is a log without damage. The segment behind it was begun with its head, without what is before a least valid time, which is this one
-- or a later one.
pub record IsBegunBehind {S : Type 0} (did : S → List Call → S → Type 0) (view : View) (store : S) (dir : List ℕ) (least : ℤ) (r : RunningState S) : Type 0 where
  pub log : Files
  pub there : IsLogIn view dir log
  pub min_valid : ℤ
  pub late : least ≤ℤ min_valid
  pub replayed : IsReplayed log min_valid None r.content
  pub behind : r.number ≡ next_number log
  pub inside : r.dir ≡ dir
  pub first : r.first ≡ store
  pub logged : HasLogged did r [] []

-- These calls were made since the last segment was begun. If a crash follows them, and the log was in the directory before them, it reads as before, then
-- as all records that were synced, and perhaps as first ones of the rest.
pub record OutlastsCrash {S : Type 0} (did : S → List Call → S → Type 0) (r : RunningState S) (log : Files) (synced more : List WalRecord) : Type 0 where
  pub calls : List Call
  pub made : did r.first calls r.store
  pub reads : (before left : Standing) (leads : List ℕ → Option File) → IsLogIn (shown before) r.dir log → CanTakeAll (disk_of before) calls → MayLeave (after_all (disk_of before) calls) leads left
      → ReadsSynced r.dir log synced more left
