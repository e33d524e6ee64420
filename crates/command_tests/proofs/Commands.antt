-- The commands over a new list of files.
use Rattle.std.specs.Prelude.{◌≡◌, ◌⊎◌, ℕ, false, List, [], Option, Some, map}
use Rattle.std.proofs.Common.{ap, inl, inr, subst, ◌∙◌}
use Rattle.wal_log.specs.Inputs.{Files}
use Rattle.store.specs.Calls.{Call}
use Rattle.store.specs.Found.{Found}
use Rattle.store.specs.Disk.{File, Standing}
use Rattle.answers.specs.declared.requests.AppendRequest.{AppendRequest}
use Rattle.answers.specs.declared.requests.CheckpointRequest.{CheckpointRequest}
use Rattle.answers.specs.declared.requests.CutRequest.{CutRequest}
use Rattle.answers.specs.declared.requests.UnpackRequest.{UnpackRequest}
use Rattle.new_files.specs.Crashes.{IsCrashSafe}
use Rattle.new_files.specs.Folders.{FileAt}
use Rattle.new_files.specs.Shown.{shown}
use Rattle.log_directory.specs.Directory.{IsLogIn}
use Rattle.write_commands.specs.Crashes.{IfFree, IfStood, OutlastsAppend, OutlastsCheckpoint, ReplaysAlike, ReplaysOldOrRows, ReplaysRows}
use Rattle.block_commands.specs.Folders.{Cuts, LeavesBlock, LeavesOldOrBlock}
use Rattle.unpack_command.specs.Folders.{Ending, LeavesLog, LeavesOldBesideLog, LeavesOldOrLog, Unpacks}
use Rattle.unpack_command.specs.Rescues.{RescueEnding, Rescues}
use Rattle.command_tests.specs.Listings.{Did, HoldsAt, file_of, standing_in}
use Rattle.command_tests.specs.Noted.{calls_of}
use Rattle.command_tests.specs.Outlasts.{AppendOutlasts, CheckpointOutlasts, CutOutlasts, MakesNone, Outlasts, RescueOutlasts, StaysAlike, UnpackOutlasts}
use Rattle.command_tests.specs.declared.listing.Listing.{Listing}
use Rattle.command_tests.proofs.Crashed.{outlasts}
use Rattle.command_tests.proofs.Rescued.{seen_rescued}
use Rattle.command_tests.proofs.Unpacked.{seen_unpacked}

abbrev pub Holds : Listing → List ℕ → Found → Type 0
Holds state path found = HoldsAt (standing_in (map file_of state.files.items)) path found

-- less may be known of what a crash leaves
outlasts_less : (files : List FileAt) (calls : List Call) (later : List FileAt) (E N F M : Standing → (List ℕ → Option File) → Standing → Type 0) (W : Type 0)
    → ((left : Standing) (leads : List ℕ → Option File) → E (standing_in files) leads left → F (standing_in files) leads left) → ((left : Standing) (leads : List ℕ → Option File) → N (standing_in files) leads left → M (standing_in files) leads left)
    → Outlasts files calls later E N W → Outlasts files calls later F M W
outlasts_less files calls later E N F M W either new lasts = record {
  is_renamed = lasts.is_renamed;
  done = lasts.done;
  crash = λ first rest is left leads may. either left leads (lasts.crash first rest is left leads may);
  well = λ w left leads may. new left leads (lasts.well w left leads may);
}

module _ (old new : Listing) (W : Type 0) (none : old.calls.items ≡ []) (first : old.is_renamed ≡ false) where
  abbrev files : List FileAt
  files = map file_of old.files.items

  abbrev later : List FileAt
  later = map file_of new.files.items

  abbrev calls : List Call
  calls = calls_of new.calls.items

  -- no call was made
  makes_none : new ≡ old → MakesNone files calls later
  makes_none same = (ap (λ (s : Listing). calls_of s.calls.items) same ∙ ap calls_of none, ap (λ (s : Listing). map file_of s.files.items) same)

  pub append_lasts : (request : AppendRequest) → OutlastsAppend Did Holds old request W new → AppendOutlasts request files calls later W
  append_lasts request (inl (same, rows)) = inl (makes_none same, rows)
  append_lasts request (inr (log, c, rows, at, is, spelled, safe)) =
      let dir = request.dir.now in
      let m = request.options.min_valid in
      let lasts = outlasts old new (IfStood dir log (ReplaysOldOrRows dir m c rows)) (IfStood dir log (ReplaysRows dir m c rows)) W none first safe in
      inr (
        log,
        c,
        rows,
        at,
        is,
        spelled,
        outlasts_less files calls later (IfStood dir log (ReplaysOldOrRows dir m c rows)) (IfStood dir log (ReplaysRows dir m c rows)) (λ _ leads left. ReplaysOldOrRows dir m c rows left) (λ _ leads left. ReplaysRows dir m c rows left) W
            (λ left leads stood. stood at) (λ left leads stood. stood at) lasts,
      )

  pub checkpoint_lasts : (request : CheckpointRequest) → OutlastsCheckpoint Did Holds old request W new → CheckpointOutlasts request files calls later W
  checkpoint_lasts request (inl (same, failed)) = inl (makes_none same, failed)
  checkpoint_lasts request (inr (log, number, at, last, free, safe)) =
      let dir = request.dir.now in
      let alike = IfFree dir log number (ReplaysAlike dir request.min_valid log) in
      let stays = StaysAlike request log number in
      inr (log, number, at, last, free, outlasts_less files calls later alike alike stays stays W (λ left leads stood. stood at free) (λ left leads stood. stood at free) (outlasts old new alike alike W none first safe))

  pub cut_lasts : (request : CutRequest) → Cuts Did Holds old request W new → CutOutlasts request files calls later W
  cut_lasts request (inl (same, failed)) = inl (makes_none same, failed)
  cut_lasts request (inr (log, own, block, at, undamaged, is, inl (same, failed))) = inl (makes_none same, failed)
  cut_lasts request (inr (log, own, block, at, undamaged, is, inr (free, safe))) =
      inr (log, own, block, at, undamaged, is, free, outlasts old new (LeavesOldOrBlock request.out.now request.ulid.now block) (LeavesBlock request.out.now request.ulid.now block) W none first safe)

  pub unpack_lasts : (request : UnpackRequest) (end : Ending) → Unpacks Did Holds old request end new → UnpackOutlasts request files calls later end
  unpack_lasts request end (inl (same, failed, tells)) =
      inl (makes_none same, failed, λ told. ((tells told).0, (tells told).1, (tells told).2, seen_unpacked old first request.dir.now (tells told).0 (tells told).1 (Some (tells told).2) (tells told).3, (tells told).4))
  unpack_lasts request end (inr (path, out, inl (checkpoint, segments, damage, is, tells, whole, safe))) =
      inr (path, out, inl (checkpoint, segments, damage, seen_unpacked old first request.dir.now checkpoint segments damage is, tells, whole, outlasts old new (LeavesOldOrLog path checkpoint segments) (LeavesLog path checkpoint segments) end.well none first safe))
  unpack_lasts request end (inr (path, out, inr ((checkpoint, segments, safe), untold, failed))) =
      inr (path, out, inr (checkpoint, segments, outlasts old new (LeavesOldBesideLog path checkpoint segments) (LeavesOldBesideLog path checkpoint segments) ⊥ none first safe, untold, failed))

  pub rescue_lasts : (request : UnpackRequest) (end : RescueEnding) → Rescues Did Holds old request end new → RescueOutlasts request files calls later end
  rescue_lasts request end (inl (same, untold, failed)) = inl (makes_none same, untold, failed)
  rescue_lasts request end (inr (path, out, inl (checkpoint, segments, lost, is, tells, safe))) =
      inr (path, out, inl (checkpoint, segments, lost, seen_rescued old first request.dir.now checkpoint segments lost is, tells, outlasts old new (LeavesOldOrLog path checkpoint segments) (LeavesLog path checkpoint segments) end.well none first safe))
  rescue_lasts request end (inr (path, out, inr ((checkpoint, segments, safe), untold, failed))) =
      inr (path, out, inr (checkpoint, segments, outlasts old new (LeavesOldBesideLog path checkpoint segments) (LeavesOldBesideLog path checkpoint segments) ⊥ none first safe, untold, failed))

-- what is so of four values is so of others that are the same
pub left_so : {A B C D : Type 0} (P : A → B → C → D → Type 0) (a e : A) (b f : B) (c g : C) (d h : D) → a ≡ e → b ≡ f → c ≡ g → d ≡ h → P a b c d → P e f g h
left_so P a e b f c g d h p q r s is = subst (λ x. P x f g h) p (subst (λ x. P a x g h) q (subst (λ x. P a b x h) r (subst (λ x. P a b c x) s is)))
