-- What makes a new folder is safe in a crash.
use Rattle.std.specs.Prelude.{ℕ, ◌≡◌, ◌<◌, true, List, [], ◌∷◌, ◌++◌, length, Result, Ok, Err, IsOk}
use Rattle.std.proofs.Common.{ap, append_assoc, subst, sym, ◌∙◌}
use Rattle.std.proofs.lemmas.Bool.{false≢true}
use Rattle.store.specs.Calls.{Call, CreateDir, Rename, SyncDir}
use Rattle.store.specs.Disk.{is_in}
use Rattle.new_files.specs.Crashes.{IsCrashSafe}
use Rattle.new_files.specs.Folders.{AreInside, FileAt, LeavesFolder, LeavesOld, LeavesOldOrFolder, create_dirs, files_calls, new_folder, sync_dirs, unfinished_folder}
use Rattle.new_files.specs.Orders.{AreFirst, DidAll, DidFirst, Follows}
use Rattle.new_files.proofs.Orders.{first_of_all, first_of_first, first_of_more, then_follows}
use Rattle.new_files.proofs.FolderCrash.{acknowledged, any_moment, before_rename}

-- it was not ended
pub not_ended : {S : Type 0} (did : S → List Call → S → Type 0) (old : S) (parent path unfinished : List ℕ) (dirs : List (List ℕ)) (files : List FileAt) (W : Type 0) (new : S) → (W → ⊥) → length path < length unfinished
    → AreInside unfinished dirs files → DidFirst did old (new_folder parent path unfinished dirs files) new
    → IsCrashSafe did old (LeavesOldOrFolder path unfinished dirs files) (LeavesFolder path unfinished dirs files) W new
not_ended did old parent path unfinished dirs files W new failed shorter of part = record {
  made = part.made;
  done = part.done;
  crash = λ first rest is before left leads can leaves. any_moment before parent path unfinished dirs files shorter of first
      (first_of_first first rest (new_folder parent path unfinished dirs files) (subst (λ m. AreFirst m (new_folder parent path unfinished dirs files)) is part.are_first)) can leads left leaves;
  well = λ went. absurd (failed went);
}

pub is_safe : {S T E : Type 0} (did : S → List Call → S → Type 0) (old : S) (parent path unfinished : List ℕ) (dirs : List (List ℕ)) (files : List FileAt) (result : Result T E) (new : S) → length path < length unfinished → is_in parent path ≡ true
    → AreInside unfinished dirs files → Follows did old (new_folder parent path unfinished dirs files) result new
    → IsCrashSafe did old (LeavesOldOrFolder path unfinished dirs files) (LeavesFolder path unfinished dirs files) (IsOk result) new
is_safe did old parent path unfinished dirs files (Ok value) new shorter inside of all = record {
  made = all.made;
  done = all.done;
  crash = λ first rest is before left leads can leaves. any_moment before parent path unfinished dirs files shorter of first
      (first_of_first first rest (new_folder parent path unfinished dirs files) (subst (λ m. AreFirst m (new_folder parent path unfinished dirs files)) is (first_of_all all.made (new_folder parent path unfinished dirs files) all.are_all))) can leads left leaves;
  well = λ went before left leads can leaves. acknowledged before parent path unfinished dirs files shorter of inside all.made all.are_all can leads left leaves;
}
is_safe {S} {T} {E} did old parent path unfinished dirs files (Err fault) new shorter inside of part = not_ended did old parent path unfinished dirs files (IsOk {T = T} {E = E} (Err fault)) new false≢true shorter of part

-- ---- a new folder in parts: it is begun, its files are written, and it is finished

-- a folder that is begun, with these files
abbrev pub begun_with : List ℕ → List (List ℕ) → List FileAt → List Call
begun_with unfinished dirs files = (CreateDir unfinished ∷ create_dirs dirs) ++ files_calls files

-- what is left to be done for a folder whose files are written
abbrev pub finishing : List ℕ → List ℕ → List ℕ → List (List ℕ) → List Call
finishing parent path unfinished dirs = sync_dirs dirs ++ SyncDir unfinished ∷ Rename unfinished path ∷ SyncDir parent ∷ []

in_parts : (parent path unfinished : List ℕ) (dirs : List (List ℕ)) (files : List FileAt) → begun_with unfinished dirs files ++ finishing parent path unfinished dirs ≡ new_folder parent path unfinished dirs files
in_parts parent path unfinished dirs files =
    let begun = CreateDir unfinished ∷ create_dirs dirs in
    let written = files_calls files in
    let synced = sync_dirs dirs in
    let last = SyncDir unfinished ∷ [] in
    let late = Rename unfinished path ∷ SyncDir parent ∷ [] in
    append_assoc begun written (synced ++ (last ++ late))
    ∙ ap (λ (x : List Call). begun ++ (written ++ x)) (sym (append_assoc synced last late))
    ∙ ap (λ (x : List Call). begun ++ x) (sym (append_assoc written (synced ++ last) late))
    ∙ sym (append_assoc begun (written ++ (synced ++ last)) late)

module _ {S : Type 0} (did : S → List Call → S → Type 0) (parent path unfinished : List ℕ) (dirs : List (List ℕ)) (files : List FileAt) where
  -- the first calls of a folder that is begun are those of a new folder
  pub begun_first : (old new : S) → DidFirst did old (begun_with unfinished dirs files) new → DidFirst did old (new_folder parent path unfinished dirs files) new
  begun_first old new first = subst (λ (all : List Call). DidFirst did old all new) (in_parts parent path unfinished dirs files) (first_of_more did old new (begun_with unfinished dirs files) (finishing parent path unfinished dirs) first)

  -- a folder that was begun and then finished is a new folder
  pub then_finished : ((old middle new : S) (first second : List Call) → did old first middle → did middle second new → did old (first ++ second) new) → {T E : Type 0} (old filled new : S) (result : Result T E)
      → DidAll did old (begun_with unfinished dirs files) filled → Follows did filled (finishing parent path unfinished dirs) result new → Follows did old (new_folder parent path unfinished dirs files) result new
  then_finished did_both old filled new result begun finished =
      subst (λ (all : List Call). Follows did old all result new) (in_parts parent path unfinished dirs files) (then_follows did did_both old filled new (begun_with unfinished dirs files) (finishing parent path unfinished dirs) result begun finished)

  -- A folder that was begun and not finished left at the path what was there.
  pub left_unfinished : (old new : S) → length path < length unfinished → AreInside unfinished dirs files → DidFirst did old (begun_with unfinished dirs files) new
      → IsCrashSafe did old (LeavesOld path unfinished dirs files) (LeavesOld path unfinished dirs files) ⊥ new
  left_unfinished old new shorter of part =
      let early = unfinished_folder unfinished dirs files in
      let first : DidFirst did old early new = subst (λ (all : List Call). DidFirst did old all new) (append_assoc (CreateDir unfinished ∷ create_dirs dirs) (files_calls files) (sync_dirs dirs ++ SyncDir unfinished ∷ []))
      (first_of_more did old new (begun_with unfinished dirs files) (sync_dirs dirs ++ SyncDir unfinished ∷ []) part) in
      record {
        made = first.made;
        done = first.done;
        crash = λ made rest is before left leads can leaves. before_rename before parent path unfinished dirs files shorter of made
            (first_of_first made rest early (subst (λ m. AreFirst m early) is first.are_first)) can leads left leaves;
        well = λ went. absurd went;
      }
