-- What is written where a log becomes blocks, one for each hour that has a sample.
use Rattle.std.specs.Prelude.{◌≡◌, ◌↔◌, ◌⊎◌, ℕ, ℤ, pos, negsuc, ◌-ℤ◌, All, Contains, List, [], ◌∷◌, Option, None, Some, ⊤}
use Rattle.std.specs.Path.{path_join}
use Rattle.wal_log.specs.Inputs.{Files}
use Rattle.block_files.specs.Ulids.{IsUlid}
use Rattle.block_files.specs.declared.encoding.Encoding.TheVariants.{Xor}
use Rattle.block_read.specs.declared.block.Block.{Block}
use Rattle.hw_bytes.specs.Sums.{Text}
use Rattle.head_column.specs.declared.items.Run.{Run}
use Rattle.head_column.specs.Hours.{hour_start}
use Rattle.head_core.specs.Content.{Content}
use Rattle.head_core.specs.Kept.{content_at}
use Rattle.head_serial.specs.Replays.{IsReplayed}
use Rattle.block_cut.specs.Logs.{IsBlockOfLog}
use Rattle.block_cut.specs.Ranges.{Ascends, IsSampled}
use Rattle.store.specs.Calls.{Call}
use Rattle.store.specs.Found.{Bytes, Found}
use Rattle.store.specs.Views.{view_of}
use Rattle.answers.specs.declared.damage.Flaw.{Flaw}
use Rattle.answers.specs.declared.fault.Fault.TheVariants.{Lost}
use Rattle.answers.specs.declared.requests.BlocksRequest.{BlocksRequest}
use Rattle.answers.specs.declared.requests.LogForm.{LogForm}
use Rattle.answers.specs.declared.requests.LogForm.TheVariants.{PastDamage}
use Rattle.answers.specs.declared.requests.RescueRequest.{RescueRequest}
use Rattle.new_files.specs.Folders.{FileAt}
use Rattle.log_directory.specs.Sources.{IsSourceIn}
use Rattle.answers.specs.Answers.{IsNoDamage, fault_of}
use Rattle.answers.specs.declared.answer.Answer.{Answer}
use Rattle.block_commands.specs.Folders.{WritesBlock, block_files, chunks_in}

-- ---- one hour

-- this is the block of an hour of a log, with chunks that a server opens, under some ULID
abbrev pub IsBlockOfHour : Files → ℤ → ℤ → Text → Block → Type 0
IsBlockOfHour log m hour name block = IsUlid name × IsBlockOfLog Xor log m hour name block

-- the files of a block are found in the folder of its name in a directory, byte for byte
abbrev pub Stands : (List ℕ → Found → Type 0) → List ℕ → Text → Block → Type 0
Stands found out name block = let folder = path_join out name in All (λ (file : FileAt). found file.path (Bytes file.bytes)) (block_files folder (chunks_in folder) block)

module _ {S : Type 0} (did : S → List Call → S → Type 0) (holds : S → List ℕ → Found → Type 0) (out : List ℕ) (IsBlock : ℤ → Text → Block → Type 0) where
  -- the block of an hour was written in the directory, or stood there already and was left
  abbrev pub HasBlock : S → ℤ → S → Type 0
  HasBlock old hour new = (name : Text) × (block : Block) × IsBlock hour name block
      × (((new ≡ old) × Stands (holds old) out name block) ⊎ WritesBlock did holds old out name block ⊤ new)

  -- its writing was begun, and did not go well
  abbrev pub GivesUpBlock : S → ℤ → S → Type 0
  GivesUpBlock old hour new = (name : Text) × (block : Block) × IsBlock hour name block × WritesBlock did holds old out name block ⊥ new

  -- Hour by hour, its block was written or stood there. If not all went well, it was so up to some hour, whose block was given up, if it was
  -- begun.
  abbrev pub HaveBlocks : S → List ℤ → Type 0 → S → Type 0
  HaveBlocks old [] WentWell new = new ≡ old
  HaveBlocks old (hour ∷ hours) WentWell new =
      ((middle : S) × HasBlock old hour middle × HaveBlocks middle hours WentWell new)
      ⊎ ((WentWell → ⊥) × ((new ≡ old) ⊎ GivesUpBlock old hour new))

-- ---- a log

-- These are all hours that have a sample, ascending, but for an edge of time.
pub record AreHours (c : Content) (hours : List ℤ) : Type 0 where
  pub ascend : Ascends hours
  pub exact : (k : ℤ) → Contains hours k ↔ IsSampled k c

-- the least and the greatest time
abbrev pub least_time : ℤ
least_time = negsuc 9223372036854775807

abbrev pub greatest_time : ℤ
greatest_time = pos 9223372036854775807

-- Times at which passes begin behind the one that begins at `from`: each is later than the one before it, and an hour begins there.
pub record AreBounds (from : ℤ) (bounds : List ℤ) : Type 0 where
  pub ascend : Ascends (from ∷ bounds)
  pub starts : All (λ (t : ℤ). (k : ℤ) × (t ≡ hour_start k)) bounds

-- nothing failed: no fault is reported, but for parts of the log that are lost
abbrev pub IsWell : Answer → Type 0
IsWell answer = (answer.fault ≡ None) ⊎ ((parts : ℕ) × (answer.fault ≡ Some (Lost parts)))

-- how much of the log is lost is reported as the fault, and nothing else is
abbrev pub TellsLost : Answer → Option Flaw → Type 0
TellsLost answer own = answer.fault ≡ fault_of own

module _ {S : Type 0} (did : S → List Call → S → Type 0) (holds : S → List ℕ → Found → Type 0) (form : LogForm) (dir out : List ℕ) (m : ℤ) where
  -- The log in a directory, in a form, was replayed, hour by hour the blocks of these hours were written in the directory `out`, and where all went
  -- well, what is wrong with the log was reported; or the call failed before anything was written.
  abbrev pub WritesHours : (Content → List ℤ → Type 0) → S → Type 0 → (Option Flaw → Type 0) → S → Type 0
  WritesHours Are old WentWell Told new =
      ((new ≡ old) × (WentWell → ⊥))
      ⊎ ((log : Files) × (own : Option Flaw) × (content : Content) × (hours : List ℤ) × IsSourceIn form (view_of (holds old)) dir log own × IsNoDamage own
      × IsReplayed log m None content × Are content hours × HaveBlocks did holds out (IsBlockOfHour log m) old hours WentWell new × (WentWell → Told own))

  -- the same, of the hours that have a sample at these times
  abbrev pub WritesHoursAt : Run → S → Type 0 → (Option Flaw → Type 0) → S → Type 0
  WritesHoursAt times old WentWell Told new = WritesHours (λ content hours. AreHours (content_at times content) hours) old WentWell Told new

  -- Pass by pass, the log was read as it was then, and the blocks of the hours with a sample at the times of the pass were written: the first pass
  -- begins at `from`, each other one at one of these bounds, and the last has all times behind. Of what is wrong with the log, what the last pass met
  -- was reported. If not all went well, it was so up to some pass.
  abbrev pub WritesPasses : S → ℤ → List ℤ → Type 0 → (Option Flaw → Type 0) → S → Type 0
  WritesPasses old from [] WentWell Told new = WritesHoursAt (record { min_time = from; max_time = greatest_time }) old WentWell Told new
  WritesPasses old from (next ∷ later) WentWell Told new =
      let times : Run = record { min_time = from; max_time = next -ℤ pos 1 } in
      ((middle : S) × WritesHoursAt times old ⊤ (λ own. ⊤) middle × WritesPasses middle next later WentWell Told new)
      ⊎ ((WentWell → ⊥) × WritesHoursAt times old ⊥ (λ own. ⊤) new)

-- what `blocks` does: in one pass, or in several, each of whole hours
abbrev pub WritesBlocks : {S : Type 0} → (S → List Call → S → Type 0) → (S → List ℕ → Found → Type 0) → S → BlocksRequest → Type 0 → (Option Flaw → Type 0) → S → Type 0
WritesBlocks did holds old request WentWell Told new =
    (bounds : List ℤ) × AreBounds least_time bounds × WritesPasses did holds request.form request.dir.now request.out.now request.options.min_valid old least_time bounds WentWell Told new

-- what `rescue` does
abbrev pub RescuesBlocks : {S : Type 0} → (S → List Call → S → Type 0) → (S → List ℕ → Found → Type 0) → S → RescueRequest → Type 0 → (Option Flaw → Type 0) → S → Type 0
RescuesBlocks did holds old request WentWell Told new = WritesHours did holds PastDamage request.dir.now request.out.now request.options.min_valid AreHours old WentWell Told new
