-- What a run of `unpack --past-damage` does.
use Rattle.std.specs.Prelude.{◌≡◌, ◌≢◌, ◌↔◌, ◌⊎◌, ℕ, List, [], ◌++◌, Option, None, string_bytes}
use Rattle.wal_log.specs.declared.input.Checkpoint.{Checkpoint}
use Rattle.wal_log.specs.declared.input.Segment.{Segment}
use Rattle.store.specs.Calls.{Call}
use Rattle.store.specs.Found.{Found}
use Rattle.answers.specs.declared.fault.Status.TheVariants.{Damaged, Done}
use Rattle.answers.specs.declared.requests.UnpackRequest.{UnpackRequest}
use Rattle.answers.specs.declared.answer.Answer.{Answer}
use Rattle.log_directory.specs.declared.lost.Lost.{Lost}
use Rattle.log_directory.specs.LostLines.{AreLines}
use Rattle.unpack_command.specs.Folders.{GivesUpLog, IsOut, WritesLog}
use Rattle.unpack_command.specs.Since.{seen_since}
use Rattle.log_directory.specs.Rescued.{IsRescuedLogIn}

-- ---- what is reported

-- The answer of a log that was written with this lost: its lines come first, and the status is Done if nothing is lost, else Damaged.
pub record TellsRescued (lost : List Lost) (answer : Answer) : Type 0 where
  pub lines : List ℕ
  pub rest : List ℕ
  pub printed : string_bytes answer.printed ≡ lines ++ rest
  pub are : AreLines lost lines
  pub done : (answer.status ≡ Done) ↔ (lost ≡ [])
  pub damaged : (answer.status ≡ Damaged) ↔ (lost ≢ [])

-- ---- what is done

-- How a run ends: what it tells of what is lost, whether it tells of a log at all, and whether it went well.
pub record RescueEnding : Type 1 where
  pub tells : List Lost → Type 0
  pub told : Type 0
  pub well : Type 0

-- a run that failed
abbrev pub failing_rescue : RescueEnding
failing_rescue = record { tells = λ lost. Unit {0}; told = ⊥; well = ⊥ }

-- a run with this answer: unless it reports a fault it tells of the log, and went well
abbrev pub rescue_ending_of : Answer → RescueEnding
rescue_ending_of answer = record { tells = λ lost. answer.fault ≡ None → TellsRescued lost answer; told = answer.fault ≡ None; well = answer.fault ≡ None }

-- A log was written into a new folder at the path, with this lost; or it was given up, and not all went well.
abbrev pub WritesRescued : {S : Type 0} → (S → List Call → S → Type 0) → S → List ℕ → (Option Checkpoint → List Segment → List Lost → Type 0) → RescueEnding → S → Type 0
WritesRescued did old path IsLog end new =
    ((checkpoint : Option Checkpoint) × (segments : List Segment) × (lost : List Lost) × IsLog checkpoint segments lost × end.tells lost × WritesLog did old path checkpoint segments end.well new)
    ⊎ (GivesUpLog did old path new × (end.told → ⊥) × (end.well → ⊥))

-- Nothing was done, and nothing told; or what can be read of the log in the directory was written into a new folder at the path `out`, or
-- given up. The names are those of before, and each file is what the store held at some moment of the call, as far as it could be read.
abbrev pub Rescues : {S : Type 0} → (S → List Call → S → Type 0) → (S → List ℕ → Found → Type 0) → S → UnpackRequest → RescueEnding → S → Type 0
Rescues did holds old request end new =
    ((new ≡ old) × (end.told → ⊥) × (end.well → ⊥))
    ⊎ ((path : List ℕ) × IsOut request.out.now path × WritesRescued did old path (IsRescuedLogIn (seen_since did holds old) request.dir.now) end new)
