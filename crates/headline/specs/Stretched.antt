-- The records of the stretches of the files in a directory, by what is seen of it.
use Rattle.std.specs.Prelude.{◌≡◌, ℕ, List, [], ◌∷◌, ◌++◌, Option, None, Some}
use Rattle.std.specs.Option.{option_map}
use Rattle.std.specs.Path.{path_join}
use Rattle.wal_log.specs.declared.input.Segment.{Segment}
use Rattle.wal_log.specs.Plan.{NumberedName}
use Rattle.wal_unpack.specs.Salvage.{Event, IsSalvageOf, records_in}
use Rattle.wal_unpack.specs.Texts.{bytes_of}
use Rattle.log_directory.specs.Listings.{AreListed, IsListing, IsReadIn}
use Rattle.store.specs.Views.{View}
use Rattle.store.specs.declared.store.Unread.{Unread}
use Rattle.log_directory.specs.Rescued.{SlotValue, checkpoint_slots, segment_slots}

-- The bytes of the records of all stretches of a file in a directory, as far as it can be read. A missing file has none.
abbrev pub AreOfFile : View → List ℕ → ℕ → Option (List ℕ) → List (List ℕ) → Type 0
AreOfFile view dir number None records = records ≡ []
AreOfFile view dir number (Some name) records =
    (file : Segment) × (unread : List Unread) × (events : List Event) × IsReadIn view dir (record { number = number; name = name }) file unread
    × IsSalvageOf file.bytes events × (records ≡ bytes_of (records_in events))

-- those of files, one after another
abbrev pub AreOfFiles : View → List ℕ → List SlotValue → List (List ℕ) → Type 0
AreOfFiles view dir [] records = records ≡ []
AreOfFiles view dir (slot ∷ more) records =
    (here : List (List ℕ)) × (others : List (List ℕ)) × AreOfFile view dir slot.number slot.name here × (records ≡ here ++ others) × AreOfFiles view dir more others

-- those of the files of the listed checkpoint of a directory, if there is one
abbrev pub AreOfCheckpoint : View → List ℕ → Option NumberedName → List (List ℕ) → Type 0
AreOfCheckpoint view dir None records = records ≡ []
AreOfCheckpoint view dir (Some listed) records =
    (names : List (List ℕ)) × (inner : List NumberedName) × view.names (path_join dir listed.name) names × AreListed None names inner
    × AreOfFiles view (path_join dir listed.name) (checkpoint_slots inner) records

-- The bytes of the records of all stretches of the log in a directory: of the files of its newest checkpoint, then of the segments past it.
pub record HasStretches (view : View) (dir : List ℕ) (records : List (List ℕ)) : Type 0 where
  pub names : List (List ℕ)
  pub listed : view.names dir names
  pub newest : Option NumberedName
  pub files : List NumberedName
  pub listing : IsListing names newest files
  pub first : List (List ℕ)
  pub later : List (List ℕ)
  pub is : records ≡ first ++ later
  pub checkpoint : AreOfCheckpoint view dir newest first
  pub segments : AreOfFiles view dir (segment_slots (option_map (λ c. c.number) newest) files) later
