-- The log of all that can be read of a directory has the records of the stretches of its files.
use Rattle.std.proofs.Common.{ℕ, ◌-◌, Bool, true, false, All, List, [], ◌∷◌, ◌++◌, Option, Some, None, ap, append_assoc, sym, subst, ◌∙◌, refl}
use Rattle.std.specs.List.{AllZip}
use Rattle.std.specs.Path.{path_join}
use Rattle.std.proofs.lemmas.List.{map-append}
use Rattle.std.proofs.lemmas.List.Elements.{All-append, All-cons, All-nil, filter_map-append}
use Rattle.wal_page.specs.File.{IsFile}
use Rattle.wal_log.specs.declared.input.Checkpoint.{Checkpoint}
use Rattle.wal_log.specs.declared.input.Segment.{Segment}
use Rattle.wal_log.specs.Inputs.{Files}
use Rattle.wal_log.specs.Log.{LogFile, log_files}
use Rattle.wal_log.specs.Plan.{NumberedName}
use Rattle.wal_log.specs.Text.{pieces_at, text_from}
use Rattle.wal_unpack.specs.declared.stretch.Ending.{Ending}
use Rattle.wal_unpack.specs.declared.stretch.Ending.TheVariants.{Damage, FileEnd, Hole as HoleEnd}
use Rattle.wal_unpack.specs.Stretches.{StretchPieceValue, StretchValue}
use Rattle.wal_unpack.specs.declared.unpacking.UnpackedRecord.{UnpackedRecord}
use Rattle.wal_unpack.specs.Salvage.{Event, Give, IsEventOf, PassedOver, Taken, ended_by, next_begin, record_of, records_in}
use Rattle.wal_unpack.specs.Texts.{bytes_of}
use Rattle.store.specs.Views.{View}
use Rattle.log_directory.specs.declared.lost.Lost.{Lost}
use Rattle.log_directory.specs.declared.lost.LostPart.{LostPart}
use Rattle.log_directory.specs.Rescued.{AreRescuedIn, IsRescuedCheckpoint, IsRescuedIn, IsRescuedLogIn, SlotValue, checkpoint_slots}
use Rattle.headline.specs.Records.{HasJust, HaveJust, IsLogOf, SpellsOne}
use Rattle.headline.specs.Stretched.{AreOfCheckpoint, AreOfFile, AreOfFiles, HasStretches}

-- ---- the records of events spell

abbrev AreSpelled : List Event → Type 0
AreSpelled events = All SpellsOne (bytes_of (records_in events))

own_spelled : (ps : List StretchPieceValue) (es : List Event) → AllZip IsEventOf ps es → AreSpelled es
own_spelled [] [] h = All-nil SpellsOne
own_spelled [] (e ∷ es) h = absurd h
own_spelled (p ∷ ps) [] h = absurd h
own_spelled (p ∷ ps) (Taken r ∷ es) h = All-cons SpellsOne r.bytes (bytes_of (records_in es)) h.0.2 (own_spelled ps es h.1)
own_spelled (p ∷ ps) (PassedOver x ∷ es) h = own_spelled ps es h.1

both_spelled : (es fs : List Event) → AreSpelled es → AreSpelled fs → AreSpelled (es ++ fs)
both_spelled es fs h k =
    subst (All SpellsOne) (sym (ap bytes_of (filter_map-append record_of es fs) ∙ map-append (λ (r : UnpackedRecord). r.bytes) (records_in es) (records_in fs)))
    (All-append SpellsOne (bytes_of (records_in es)) (bytes_of (records_in fs)) h k)

ended_spelled : (ending : Ending) (bytes : ℕ) → AreSpelled (ended_by ending bytes)
ended_spelled (Damage offset kind) bytes = All-nil SpellsOne
ended_spelled (HoleEnd offset) bytes = All-nil SpellsOne
ended_spelled FileEnd bytes = All-nil SpellsOne

given_spelled : (size : ℕ) (ss : List StretchValue) (es : List Event) → Give size ss es → AreSpelled es
given_spelled size [] es h = subst AreSpelled (sym h) (All-nil SpellsOne)
given_spelled size (s ∷ more) es (own, later, are, is, rest) =
    let ended : List Event = ended_by s.ending (next_begin size more - s.ends) in
    subst AreSpelled (sym is) (both_spelled own (ended ++ later) (own_spelled s.pieces own are) (both_spelled ended later (ended_spelled s.ending (next_begin size more - s.ends)) (given_spelled size more later rest)))

-- ---- files

module _ (whole : (rs : List (List ℕ)) → IsFile (text_from 0 rs) (pieces_at 0 rs) None) where
  module _ (view : View) (dir : List ℕ) (in_checkpoint : Bool) where
    -- the file of a log, of this kind
    of_kind : Segment → LogFile
    of_kind segment = record { in_checkpoint = in_checkpoint; segment = segment }

    file_just : (name : Option (List ℕ)) (written : Segment) (parts : List LostPart) → IsRescuedIn view dir name written parts
        → (records : List (List ℕ)) × AreOfFile view dir written.number name records × HasJust (record { in_checkpoint = in_checkpoint; segment = written }) records
    file_just None written parts is = (
      [],
      refl,
      record {
        pieces = [];
        read = subst (λ (t : List ℕ). IsFile t [] None) (sym is.0) (whole []);
        same = refl;
        spelled = All-nil SpellsOne;
      },
    )
    file_just (Some name) written parts (file, unread, events, read, salvaged, reads, lost) = (
      bytes_of (records_in events),
      (file, unread, events, read, salvaged, refl),
      record {
        pieces = reads.pieces;
        read = reads.read;
        same = reads.same;
        spelled = given_spelled _ salvaged.stretches events salvaged.given;
      },
    )

    files_just : (slots : List SlotValue) (files : List Segment) (lost : List Lost) → AreRescuedIn view dir in_checkpoint slots files lost
        → (records : List (List ℕ)) × AreOfFiles view dir slots records × HaveJust (log_files in_checkpoint files) records
    files_just [] files lost is = ([], refl, subst (λ (fs : List Segment). HaveJust (log_files in_checkpoint fs) []) (sym is.0) refl)
    files_just (slot ∷ slots) files lost (written, others, parts, later, number, rescued, files_are, lost_is, rest) =
        let here = file_just slot.name written parts rescued in
        let more = files_just slots others later rest in (
          here.0 ++ more.0,
          (here.0, more.0, subst (λ (n : ℕ). AreOfFile view dir n slot.name here.0) number here.1, refl, more.1),
          subst (λ (fs : List Segment). HaveJust (log_files in_checkpoint fs) (here.0 ++ more.0)) (sym files_are) (here.0, more.0, here.2, refl, more.2),
        )

-- files that have just some records, after others
have_both : (fs gs : List LogFile) (rs ss : List (List ℕ)) → HaveJust fs rs → HaveJust gs ss → HaveJust (fs ++ gs) (rs ++ ss)
have_both [] gs rs ss h k = subst (λ (xs : List (List ℕ)). HaveJust gs (xs ++ ss)) (sym h) k
have_both (f ∷ fs) gs rs ss (here, others, has, is, rest) k = (here, others ++ ss, has, ap (λ (xs : List (List ℕ)). xs ++ ss) is ∙ append_assoc here others ss, have_both fs gs others ss rest k)

module _ (whole : (rs : List (List ℕ)) → IsFile (text_from 0 rs) (pieces_at 0 rs) None) (view : View) (dir : List ℕ) where
  -- the files of a checkpoint, if there is one
  checkpoint_just : (newest : Option NumberedName) (c : Option Checkpoint) (lost : List Lost) → IsRescuedCheckpoint view dir newest c lost
      → (records : List (List ℕ)) × AreOfCheckpoint view dir newest records × ((segments : List Segment) (ss : List (List ℕ)) → HaveJust (log_files false segments) ss → IsLogOf (records ++ ss) (record { checkpoint = c; segments = segments }))
  checkpoint_just None None lost is = ([], refl, λ segments ss h. h)
  checkpoint_just None (Some c) lost is = absurd is
  checkpoint_just (Some listed) None lost is = absurd is
  checkpoint_just (Some listed) (Some c) lost is =
      let found = files_just whole view (path_join dir listed.name) true (checkpoint_slots is.1.inner) c.files lost is.1.each in
      (found.0, (is.1.names, is.1.inner, is.1.listed, is.1.are, found.1), λ segments ss h. have_both (log_files true c.files) (log_files false segments) found.0 ss found.2 h)

  pub log_just : (log : Files) (lost : List Lost) → IsRescuedLogIn view dir log.checkpoint log.segments lost → (records : List (List ℕ)) × HasStretches view dir records × IsLogOf records log
  log_just log lost is =
      let first = checkpoint_just is.newest log.checkpoint is.first is.checkpoint_is in
      let later = files_just whole view dir false _ log.segments is.later is.segments_are in (
        first.0 ++ later.0,
        record {
          names = is.names;
          listed = is.listed;
          newest = is.newest;
          files = is.files;
          listing = is.listing;
          first = first.0;
          later = later.0;
          is = refl;
          checkpoint = first.1;
          segments = later.1;
        },
        first.2 log.segments later.0 later.2,
      )
