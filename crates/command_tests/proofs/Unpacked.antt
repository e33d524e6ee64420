-- A log that is unpacked from a list of files.
use Rattle.std.specs.Prelude.{◌≡◌, ◌⊎◌, ℕ, Bool, false, true, List, [], ◌∷◌, Option, None, Some, map}
use Rattle.std.specs.Path.{path_join}
use Rattle.std.proofs.Common.{inl, inr, subst}
use Rattle.wal_log.specs.declared.input.Checkpoint.{Checkpoint}
use Rattle.wal_log.specs.declared.input.Segment.{Segment}
use Rattle.wal_log.specs.Plan.{NumberedName}
use Rattle.wal_unpack.specs.declared.fault.UnpackDamage.{UnpackDamage}
use Rattle.store.specs.Calls.{Call}
use Rattle.store.specs.Found.{Found}
use Rattle.store.specs.Views.{View}
use Rattle.new_files.specs.Folders.{FileAt}
use Rattle.log_directory.specs.declared.unpacking.FileDamage.{FileDamage}
use Rattle.log_directory.specs.Unpacked.{AreUnpackedBehind, AreUnpackedIn, IsUnpackedCheckpoint, IsUnpackedFolder, IsUnpackedIn, IsUnpackedLogIn, IsUnpackedPlan}
use Rattle.unpack_command.specs.Since.{seen_since}
use Rattle.command_tests.specs.Listings.{Did, HoldsAt, Relists, file_of, standing_in}
use Rattle.command_tests.specs.Outlasts.{seen_from}
use Rattle.command_tests.specs.declared.listing.Listing.{Listing}

-- what is seen in the one view is seen in the other
module _ (seen view : View) (names_too : (dir : List ℕ) (names : List (List ℕ)) → seen.names dir names → view.names dir names) (bytes_too : (dir name bytes : List ℕ) → seen.bytes dir name bytes → view.bytes dir name bytes) where
  one_seen : (dir : List ℕ) (planned : NumberedName) (unpacked : Segment) (damage : Option UnpackDamage) → IsUnpackedIn seen dir planned unpacked damage → IsUnpackedIn view dir planned unpacked damage
  one_seen dir planned unpacked damage (file, is, stands) = (file, (is.0, bytes_too dir planned.name file.bytes is.1), stands)

  files_seen : (dir : List ℕ) (inner : Bool) (plan : List NumberedName) (files : List Segment) (damage : Option FileDamage) → AreUnpackedIn seen dir inner plan files damage → AreUnpackedIn view dir inner plan files damage
  files_seen dir inner [] files damage all = all
  files_seen dir inner (planned ∷ plan) files damage (inl (unpacked, others, is, are, rest)) = inl (unpacked, others, one_seen dir planned unpacked None is, are, files_seen dir inner plan others damage rest)
  files_seen dir inner (planned ∷ plan) files damage (inr (unpacked, bad, is, are, found)) = inr (unpacked, bad, one_seen dir planned unpacked (Some bad) is, are, found)

  folder_seen : (dir : List ℕ) (files : List Segment) (damage : Option FileDamage) → IsUnpackedFolder seen dir files damage → IsUnpackedFolder view dir files damage
  folder_seen dir files damage is = record { names = is.names; listed = names_too dir is.names is.listed; plan = is.plan; planned = is.planned; each = files_seen dir true is.plan files damage is.each }

  checkpoint_seen : (dir : List ℕ) (newest : Option NumberedName) (checkpoint : Option Checkpoint) (damage : Option FileDamage) → IsUnpackedCheckpoint seen dir newest checkpoint damage → IsUnpackedCheckpoint view dir newest checkpoint damage
  checkpoint_seen dir None None damage is = is
  checkpoint_seen dir None (Some c) damage is = absurd is
  checkpoint_seen dir (Some p) None damage is = absurd is
  checkpoint_seen dir (Some p) (Some c) damage is = (is.0, folder_seen (path_join dir p.name) c.files damage is.1)

  behind_seen : (dir : List ℕ) (first : Option FileDamage) (plan : List NumberedName) (segments : List Segment) (damage : Option FileDamage) → AreUnpackedBehind seen dir first plan segments damage → AreUnpackedBehind view dir first plan segments damage
  behind_seen dir None plan segments damage are = files_seen dir false plan segments damage are
  behind_seen dir (Some bad) plan segments damage are = are

  log_seen : (dir : List ℕ) (checkpoint : Option Checkpoint) (segments : List Segment) (damage : Option FileDamage) → IsUnpackedLogIn seen dir checkpoint segments damage → IsUnpackedLogIn view dir checkpoint segments damage
  log_seen dir checkpoint segments damage is = record {
    names = is.names;
    listed = names_too dir is.names is.listed;
    newest = is.newest;
    plan = is.plan;
    planned = is.planned;
    unpacked = record {
      first = is.unpacked.first;
      checkpoint_is = checkpoint_seen dir is.newest checkpoint is.unpacked.first is.unpacked.checkpoint_is;
      segments_are = behind_seen dir is.unpacked.first is.plan segments damage is.unpacked.segments_are;
    };
  }

-- a log that was unpacked from a list was seen in its files
pub seen_unpacked : (old : Listing) → old.is_renamed ≡ false → (dir : List ℕ) (checkpoint : Option Checkpoint) (segments : List Segment) (damage : Option FileDamage)
    → IsUnpackedLogIn (seen_since Did (λ (state : Listing) (path : List ℕ) (found : Found). HoldsAt (standing_in (map file_of state.files.items)) path found) old) dir checkpoint segments damage
    → IsUnpackedLogIn (seen_from (map file_of old.files.items)) dir checkpoint segments damage
seen_unpacked old first dir checkpoint segments damage is =
    log_seen (seen_since Did (λ (state : Listing) (path : List ℕ) (found : Found). HoldsAt (standing_in (map file_of state.files.items)) path found) old) (seen_from (map file_of old.files.items)) (λ dir names listed. listed)
    (λ dir name bytes (state, made, did, held). (made, map file_of state.files.items, state.is_renamed, subst (λ (b : Bool). Relists (map file_of old.files.items) b made (map file_of state.files.items) state.is_renamed) first did.relists, held))
    dir checkpoint segments damage is
