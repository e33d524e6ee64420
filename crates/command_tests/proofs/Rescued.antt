-- What can be read of a log, written from a list of files.
use Rattle.std.specs.Prelude.{◌≡◌, ℕ, Bool, false, true, List, [], ◌∷◌, Option, None, Some, map}
use Rattle.std.specs.Path.{path_join}
use Rattle.std.proofs.Common.{subst}
use Rattle.wal_log.specs.declared.input.Checkpoint.{Checkpoint}
use Rattle.wal_log.specs.declared.input.Segment.{Segment}
use Rattle.wal_log.specs.Plan.{NumberedName}
use Rattle.store.specs.Found.{Found}
use Rattle.store.specs.Views.{View}
use Rattle.log_directory.specs.declared.lost.Lost.{Lost}
use Rattle.log_directory.specs.declared.lost.LostPart.{LostPart}
use Rattle.unpack_command.specs.Since.{seen_since}
use Rattle.log_directory.specs.Rescued.{AreRescuedIn, IsRescuedCheckpoint, IsRescuedIn, IsRescuedLogIn, SlotValue}
use Rattle.command_tests.specs.Listings.{Did, HoldsAt, Relists, file_of, standing_in}
use Rattle.command_tests.specs.Outlasts.{seen_from}
use Rattle.command_tests.specs.declared.listing.Listing.{Listing}

-- what is seen in the one view is seen in the other
module _ (seen view : View) (names_too : (dir : List ℕ) (names : List (List ℕ)) → seen.names dir names → view.names dir names) (bytes_too : (dir name bytes : List ℕ) → seen.bytes dir name bytes → view.bytes dir name bytes) where
  one_seen : (dir : List ℕ) (name : Option (List ℕ)) (written : Segment) (parts : List LostPart) → IsRescuedIn seen dir name written parts → IsRescuedIn view dir name written parts
  one_seen dir None written parts is = is
  one_seen dir (Some name) written parts (file, unread, events, in_part, salvaged, reads, lost) = (file, unread, events, record { number = in_part.number; bytes = λ none. bytes_too dir name file.bytes (in_part.bytes none) }, salvaged, reads, lost)

  files_seen : (dir : List ℕ) (inner : Bool) (slots : List SlotValue) (files : List Segment) (lost : List Lost) → AreRescuedIn seen dir inner slots files lost → AreRescuedIn view dir inner slots files lost
  files_seen dir inner [] files lost are = are
  files_seen dir inner (slot ∷ slots) files lost (written, others, parts, later, number, is, files_are, lost_are, rest) = (written, others, parts, later, number, one_seen dir slot.name written parts is, files_are, lost_are, files_seen dir inner slots others later rest)

  checkpoint_seen : (dir : List ℕ) (newest : Option NumberedName) (checkpoint : Option Checkpoint) (lost : List Lost) → IsRescuedCheckpoint seen dir newest checkpoint lost → IsRescuedCheckpoint view dir newest checkpoint lost
  checkpoint_seen dir None None lost is = is
  checkpoint_seen dir None (Some c) lost is = absurd is
  checkpoint_seen dir (Some p) None lost is = absurd is
  checkpoint_seen dir (Some p) (Some c) lost (number, folder) = (
    number,
    record {
      names = folder.names;
      listed = names_too (path_join dir p.name) folder.names folder.listed;
      inner = folder.inner;
      are = folder.are;
      each = files_seen (path_join dir p.name) true _ c.files lost folder.each;
    },
  )

  log_seen : (dir : List ℕ) (checkpoint : Option Checkpoint) (segments : List Segment) (lost : List Lost) → IsRescuedLogIn seen dir checkpoint segments lost → IsRescuedLogIn view dir checkpoint segments lost
  log_seen dir checkpoint segments lost is = record {
    names = is.names;
    listed = names_too dir is.names is.listed;
    newest = is.newest;
    files = is.files;
    listing = is.listing;
    first = is.first;
    later = is.later;
    lost_is = is.lost_is;
    checkpoint_is = checkpoint_seen dir is.newest checkpoint is.first is.checkpoint_is;
    segments_are = files_seen dir false _ segments is.later is.segments_are;
  }

-- what was written from a list was seen in its files
pub seen_rescued : (old : Listing) → old.is_renamed ≡ false → (dir : List ℕ) (checkpoint : Option Checkpoint) (segments : List Segment) (lost : List Lost)
    → IsRescuedLogIn (seen_since Did (λ (state : Listing) (path : List ℕ) (found : Found). HoldsAt (standing_in (map file_of state.files.items)) path found) old) dir checkpoint segments lost
    → IsRescuedLogIn (seen_from (map file_of old.files.items)) dir checkpoint segments lost
seen_rescued old first dir checkpoint segments lost is =
    log_seen (seen_since Did (λ (state : Listing) (path : List ℕ) (found : Found). HoldsAt (standing_in (map file_of state.files.items)) path found) old) (seen_from (map file_of old.files.items)) (λ dir names listed. listed)
    (λ dir name bytes (state, made, did, held). (made, map file_of state.files.items, state.is_renamed, subst (λ (b : Bool). Relists (map file_of old.files.items) b made (map file_of state.files.items) state.is_renamed) first did.relists, held))
    dir checkpoint segments lost is
