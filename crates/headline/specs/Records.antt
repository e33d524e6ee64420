-- Files of a log that have just some records, as those have that were unpacked.
use Rattle.std.specs.Prelude.{◌≡◌, ℕ, All, List, [], ◌∷◌, ◌++◌, None, map}
use Rattle.wal_page.specs.File.{IsFile, PieceValue}
use Rattle.wal_record.specs.declared.record.WalRecord.{WalRecord}
use Rattle.wal_record.specs.Records.{IsRecord}
use Rattle.wal_log.specs.Inputs.{Files}
use Rattle.wal_log.specs.Log.{LogFile, in_order}

-- these bytes spell a record
abbrev pub SpellsOne : List ℕ → Type 0
SpellsOne bytes = (content : WalRecord) × IsRecord bytes content

-- The file has these bytes as its records, without a fault, and each spells one.
pub record HasJust (file : LogFile) (records : List (List ℕ)) : Type 0 where
  pub pieces : List PieceValue
  pub read : IsFile file.segment.bytes pieces None
  pub same : map (λ (p : PieceValue). p.bytes) pieces ≡ records
  pub spelled : All SpellsOne records

-- so have files, one after another
abbrev pub HaveJust : List LogFile → List (List ℕ) → Type 0
HaveJust [] records = records ≡ []
HaveJust (file ∷ more) records = (here : List (List ℕ)) × (others : List (List ℕ)) × HasJust file here × (records ≡ here ++ others) × HaveJust more others

-- the log has these bytes as its records, in order
abbrev pub IsLogOf : List (List ℕ) → Files → Type 0
IsLogOf records log = HaveJust (in_order log) records
