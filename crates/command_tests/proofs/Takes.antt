-- What a list can take, a disk can.
use Rattle.std.specs.Prelude.{◌≡◌, ℕ, Bool, true, false, ◌||◌, List, [], ◌∷◌, ◌++◌, Option, None, Some, if◌then◌else◌, bytes_eq, refl}
use Rattle.std.specs.Option.{option_map}
use Rattle.std.proofs.Common.{ap, subst, sym, ◌∙◌}
use Rattle.std.proofs.lemmas.Bool.{false≢true, true≢false}
use Rattle.std.proofs.lemmas.Slice.Eq.{bytes_eq-Decides}
use Rattle.store.specs.Calls.{Call, Create, CreateDir, Remove, Rename, SyncDir, SyncFile, Write}
use Rattle.store.specs.Disk.{CanTakeAll, Disk, File, New, Old, after, disk_of, is_in, latest}
use Rattle.new_files.specs.Folders.{FileAt}
use Rattle.command_tests.specs.Listings.{MayBe, Relists, is_at, longer, relisted, renames, standing_in, without}
use Rattle.command_tests.proofs.Listings.{has, has_mapped, has_more, has_without, longer_path, none_has, none_stands}

-- where nothing is listed, the disk's path leads to nothing
abbrev Agrees : Disk → List FileAt → Type 0
Agrees disk files = (path : List ℕ) → has files path ≡ false → latest (disk.names path) ≡ None

both_none : (a b : Bool) → (a || b) ≡ false → (a ≡ false) × (b ≡ false)
both_none true b none = absurd (true≢false none)
both_none false b none = (refl, none)

-- a path that is led elsewhere, or not
led_none : (b : Bool) (file : Option File) (there names : List (Option File)) → (b ≡ true → file ≡ None) → (b ≡ false → latest names ≡ None) → latest (if b then file ∷ there else names) ≡ None
led_none true file there names here other = here refl
led_none false file there names here other = other refl

synced_none : (b : Bool) (names : List (Option File)) → latest names ≡ None → latest (if b then latest names ∷ [] else names) ≡ None
synced_none true names none = none
synced_none false names none = none

created_agrees : (disk : Disk) (files : List FileAt) (path : List ℕ) → Agrees disk files → (other : List ℕ) → has (files ++ record { path = path; bytes = [] } ∷ []) other ≡ false
    → latest (if bytes_eq path other then Some (New path) ∷ disk.names path else disk.names other) ≡ None
created_agrees disk files path agrees other none =
    let both = both_none (has files other) (bytes_eq path other) (sym (has_more files (record { path = path; bytes = [] }) other) ∙ none) in
    led_none (bytes_eq path other) (Some (New path)) (disk.names path) (disk.names other) (λ is. absurd (true≢false (sym is ∙ both.1))) (λ _. agrees other both.0)

-- so it is after each call but a rename
agrees_after : (disk : Disk) (files : List FileAt) (call : Call) → ((from to : List ℕ) → call ≡ Rename from to → ⊥) → Agrees disk files → Agrees (after disk call) (relisted files call)
agrees_after disk files (Create path) other agrees = created_agrees disk files path agrees
agrees_after disk files (CreateDir path) other agrees = created_agrees disk files path agrees
agrees_after disk files (Write path bytes) other agrees = λ at none. agrees at (sym (has_mapped (longer path bytes) (longer_path path bytes) files at) ∙ none)
agrees_after disk files (SyncFile path) other agrees = agrees
agrees_after disk files (SyncDir dir) other agrees = λ at none. synced_none (is_in dir at) (disk.names at) (agrees at none)
agrees_after disk files (Rename from to) other agrees = absurd (other from to refl)
agrees_after disk files (Remove path) other agrees = λ at none.
    led_none (bytes_eq path at) None (disk.names path) (disk.names at) (λ _. refl)
    (λ apart. agrees at (sym (has_without path at files (λ same. false≢true (sym apart ∙ (bytes_eq-Decides path at).1 same))) ∙ none))

-- after a rename nothing is created
none_created : (disk : Disk) (files later : List FileAt) (calls : List Call) (is : Bool) → Relists files true calls later is → CanTakeAll disk calls
none_created disk files later [] is lists = tt
none_created disk files later (Create path ∷ calls) is lists = absurd (true≢false lists.0.1)
none_created disk files later (CreateDir path ∷ calls) is lists = absurd (true≢false lists.0.1)
none_created disk files later (Write path bytes ∷ calls) is lists = (tt, none_created (after disk (Write path bytes)) (relisted files (Write path bytes)) later calls is lists.1)
none_created disk files later (SyncFile path ∷ calls) is lists = (tt, none_created (after disk (SyncFile path)) files later calls is lists.1)
none_created disk files later (SyncDir dir ∷ calls) is lists = (tt, none_created (after disk (SyncDir dir)) files later calls is lists.1)
none_created disk files later (Rename from to ∷ calls) is lists = (tt, none_created (after disk (Rename from to)) (relisted files (Rename from to)) later calls is lists.1)
none_created disk files later (Remove path ∷ calls) is lists = (tt, none_created (after disk (Remove path)) (relisted files (Remove path)) later calls is lists.1)

takes : (disk : Disk) (files later : List FileAt) (calls : List Call) (is : Bool) → Agrees disk files → Relists files false calls later is → CanTakeAll disk calls
takes disk files later [] is agrees lists = tt
takes disk files later (Create path ∷ calls) is agrees lists = (agrees path (none_has files path lists.0.0), takes (after disk (Create path)) (relisted files (Create path)) later calls is (agrees_after disk files (Create path) (λ _ _ same. cc) agrees) lists.1)
takes disk files later (CreateDir path ∷ calls) is agrees lists = (agrees path (none_has files path lists.0.0), takes (after disk (CreateDir path)) (relisted files (CreateDir path)) later calls is (agrees_after disk files (CreateDir path) (λ _ _ same. cc) agrees) lists.1)
takes disk files later (Write path bytes ∷ calls) is agrees lists = (tt, takes (after disk (Write path bytes)) (relisted files (Write path bytes)) later calls is (agrees_after disk files (Write path bytes) (λ _ _ same. cc) agrees) lists.1)
takes disk files later (SyncFile path ∷ calls) is agrees lists = (tt, takes (after disk (SyncFile path)) files later calls is (agrees_after disk files (SyncFile path) (λ _ _ same. cc) agrees) lists.1)
takes disk files later (SyncDir dir ∷ calls) is agrees lists = (tt, takes (after disk (SyncDir dir)) files later calls is (agrees_after disk files (SyncDir dir) (λ _ _ same. cc) agrees) lists.1)
takes disk files later (Rename from to ∷ calls) is agrees lists = (tt, none_created (after disk (Rename from to)) (relisted files (Rename from to)) later calls is lists.1)
takes disk files later (Remove path ∷ calls) is agrees lists = (tt, takes (after disk (Remove path)) (relisted files (Remove path)) later calls is (agrees_after disk files (Remove path) (λ _ _ same. cc) agrees) lists.1)

-- the disk on which just these files are can take the calls
pub can_take : (files later : List FileAt) (calls : List Call) (is : Bool) → Relists files false calls later is → CanTakeAll (disk_of (standing_in files)) calls
can_take files later calls is lists = takes (disk_of (standing_in files)) files later calls is (λ path none. ap (option_map (λ _. Old path)) (none_stands files path none)) lists

-- and the first of them
pub first_relists : (files later : List FileAt) (was is : Bool) (first rest : List Call) → Relists files was (first ++ rest) later is → (middle : List FileAt) × (between : Bool) × Relists files was first middle between
first_relists files later was is [] rest lists = (files, was, (refl, refl))
first_relists files later was is (call ∷ first) rest lists =
    let more = first_relists (relisted files call) later (renames was call) is first rest lists.1 in
    (more.0, more.1, (lists.0, more.2))
