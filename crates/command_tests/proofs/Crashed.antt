-- From the calls of a list to what a crash leaves of its files.
use Rattle.std.specs.Prelude.{◌≡◌, ℕ, Bool, false, List, [], ◌++◌, Option, map, refl}
use Rattle.std.proofs.Common.{ap, append-nil, subst, sym, ◌∙◌}
use Rattle.std.proofs.lemmas.List.{append_cancel_left}
use Rattle.store.specs.Calls.{Call}
use Rattle.store.specs.Disk.{CanTakeAll, File, Standing, disk_of}
use Rattle.new_files.specs.Crashes.{AfterCrash, AtEachMoment, IsCrashSafe}
use Rattle.new_files.specs.Folders.{FileAt}
use Rattle.command_tests.specs.Listings.{Did, Relists, file_of, standing_in}
use Rattle.command_tests.specs.Noted.{calls_of}
use Rattle.command_tests.specs.Outlasts.{CrashLeaves, Outlasts}
use Rattle.command_tests.specs.declared.listing.Listing.{Listing}
use Rattle.command_tests.proofs.Takes.{can_take, first_relists}

-- the calls that a new list has noted are those that were made
pub all_noted : (old new : Listing) (made : List Call) → old.calls.items ≡ [] → Did old made new → calls_of new.calls.items ≡ made
all_noted old new made none did = did.noted ∙ ap (λ noted. calls_of noted ++ made) none

leaves : (files later : List FileAt) (P : Standing → (List ℕ → Option File) → Standing → Type 0) (calls : List Call) (is : Bool) → Relists files false calls later is → AfterCrash P calls → CrashLeaves (standing_in files) P calls
leaves files later P calls is lists safe = λ left leads may. safe (standing_in files) left leads (can_take files later calls is lists) may

-- a new list outlasts a crash
pub outlasts : (old new : Listing) (Either New : Standing → (List ℕ → Option File) → Standing → Type 0) (W : Type 0) → old.calls.items ≡ [] → old.is_renamed ≡ false → IsCrashSafe Did old Either New W new
    → Outlasts (map file_of old.files.items) (calls_of new.calls.items) (map file_of new.files.items) Either New W
outlasts old new Either New W none first safe =
    let files = map file_of old.files.items in
    let later = map file_of new.files.items in
    let lists : Relists files false safe.made later new.is_renamed = subst (λ b. Relists files b safe.made later new.is_renamed) first safe.done.relists in
    subst (λ (calls : List Call). Outlasts files calls later Either New W) (sym (all_noted old new safe.made none safe.done)) (record {
      is_renamed = new.is_renamed;
      done = lists;
      crash = λ first rest made.
          let part = first_relists files later false new.is_renamed first rest (subst (λ (calls : List Call). Relists files false calls later new.is_renamed) made lists) in
          leaves files part.0 Either first part.1 part.2 (safe.crash first rest made);
      well = λ w. leaves files later New safe.made new.is_renamed lists (safe.well w);
    })
