-- How the events of a file are taken: words of private functions, which no public contract cites.
use Rattle.std.specs.Prelude.{◌≡◌, ℕ, ℤ, Bool, List, ◌++◌, length, slice_get, take}
use Rattle.std.specs.List.{AllZip}
use Rattle.std.specs.Option.{option_map}
use Rattle.wal_record.specs.declared.record.WalRecord.{WalRecord}
use Rattle.wal_log.specs.declared.reading.Placed.{Placed}
use Rattle.wal_log.specs.Log.{contents}
use Rattle.wal_survey.specs.Unbound.{AreReferencesOf, ReferencesValue}
use Rattle.wal_unpack.specs.Salvage.{Event, passed_in, records_in}
use Rattle.wal_survey.specs.Surveys.{IsPlacedRecord, IsReadableOf, IsSurveyOf, front}
use Rattle.wal_survey.specs.declared.records.Survey.{Survey}
use Rattle.wal_survey.specs.declared.surveying.Surveyor.{Surveyor}

-- The survey of these events, of which the records spell these.
pub record HasCounted (events : List Event) (records : List WalRecord) (s : Survey) : Type 0 where
  pub counted : IsSurveyOf (take (length (front events)) records) s
  pub damage : s.damage ≡ option_map (λ x. x.damage) (slice_get (passed_in events) 0)
  pub readable : IsReadableOf records (passed_in events) s.readable

-- What a surveyor begins with: the file, and the references of any records before it.
pub record SurveyStart : Type 0 where
  pub in_checkpoint : Bool
  pub number : ℕ
  pub references : ReferencesValue

-- A surveyor that began so has taken these events of its file.
pub record HasTaken (start : SurveyStart) (events : List Event) (s : Surveyor) : Type 0 where
  pub in_checkpoint : s.in_checkpoint ≡ start.in_checkpoint
  pub number : s.number ≡ start.number
  pub placed : List Placed
  pub spelled : AllZip (IsPlacedRecord start.in_checkpoint start.number) (records_in events) placed
  pub counted : HasCounted events (contents placed) s.survey
  pub taken : (m : ℤ) (before : List Placed) → AreReferencesOf m before start.references → AreReferencesOf m (before ++ placed) s.references
