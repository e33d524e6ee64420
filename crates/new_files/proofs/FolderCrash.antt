-- What a crash leaves of a new folder.
use Rattle.std.specs.Prelude.{ℕ, ◌≡◌, ◌≢◌, ◌⊎◌, ◌<◌, ◌≤◌, ◌||◌, Bool, true, false, if◌then◌else◌, List, [], ◌∷◌, ◌++◌, length, map, Option, Some, None, refl}
use Rattle.std.specs.Option.{option_map}
use Rattle.std.specs.List.{AllByRecursion}
use Rattle.std.proofs.Common.{inl, inr, ap, subst, sym, ◌∙◌, arith}
use Rattle.std.proofs.lemmas.Bool.{false≢true, true≢false, cases_Bool}
use Rattle.store.specs.Calls.{Call, CreateDir, Rename, SyncDir}
use Rattle.store.specs.Disk.{CanTake, CanTakeAll, Disk, File, IsAmong, MayLeave, MayRead, New, Old, Standing, after, after_all, disk_of, given, is_in, latest, led, no_bytes}
use Rattle.new_files.specs.Files.{file_calls}
use Rattle.new_files.specs.Folders.{AreInside, FileAt, IsWholeFolder, LeavesFolder, LeavesOld, LeavesOldOrFolder, changed_paths, create_dirs, files_calls, is_inside, new_folder, sync_dirs, unfinished_folder}
use Rattle.new_files.specs.Orders.{AreAll, AreFirst, IsRemoval}
use Rattle.new_files.proofs.Disks.{Keeps, after_both, all_then, all_weaker, among_has, can_take_both, first_keep, given_elsewhere, given_here, latest_synced, led_elsewhere, led_here, not_there, olds_kept, on_device, read_among, read_old, read_synced, run_keep, synced_one, whole}
use Rattle.new_files.proofs.Orders.{AreBehind, are_first_of_more, exactly, first_apart}
use Rattle.new_files.proofs.Paths.{in_longer, inside_longer, longer_differs}

-- ---- what was created

-- The path leads to the file that was created at it, and this has these bytes, all on the device.
record IsMade (path bytes : List ℕ) (disk : Disk) : Type 0 where
  leads : latest (disk.names path) ≡ Some (New path)
  kept : Option (List ℕ)
  synced : disk.content (New path) ≡ on_device bytes kept

is_there : Option File → Bool
is_there None = false
is_there (Some file) = true

-- what can be created is not what was made
not_made : (disk : Disk) (path bytes other : List ℕ) → IsMade path bytes disk → latest (disk.names other) ≡ None → other ≢ path
unfolding is_there
not_made disk path bytes other is none same = true≢false (sym (ap is_there is.leads) ∙ ap (λ p. is_there (latest (disk.names p))) (sym same) ∙ ap is_there none)

made_dir : (disk : Disk) (path : List ℕ) → IsMade path [] (after disk (CreateDir path))
made_dir disk path = record { leads = ap latest (led_here disk.names path (Some (New path))); kept = None; synced = given_here disk.content path no_bytes }

made_file : (disk : Disk) (path bytes : List ℕ) → IsMade path bytes (after_all disk (file_calls path bytes))
made_file disk path bytes = record {
  leads = ap latest (led_here disk.names path (Some (New path)));
  kept = Some bytes;
  synced = let made = given disk.content path no_bytes in
      let put = given made path (record { bytes = (made (New path)).bytes ++ bytes; synced = false; kept = (made (New path)).kept }) in
      given_here put path (whole (put (New path)).bytes)
      ∙ ap (λ c. whole c.bytes) (given_here made path (record { bytes = (made (New path)).bytes ++ bytes; synced = false; kept = (made (New path)).kept }))
      ∙ ap (λ c. whole (c.bytes ++ bytes)) (given_here disk.content path no_bytes);
}

-- another directory or file leaves it so
past_dir : (disk : Disk) (path bytes other : List ℕ) → CanTake disk (CreateDir other) → IsMade path bytes disk → IsMade path bytes (after disk (CreateDir other))
past_dir disk path bytes other can is = let differ = not_made disk path bytes other is can in
    record { leads = ap latest (led_elsewhere disk.names other path (Some (New other)) differ) ∙ is.leads; kept = is.kept; synced = given_elsewhere disk.content other path no_bytes differ ∙ is.synced }

past_file : (disk : Disk) (path bytes other more : List ℕ) → CanTakeAll disk (file_calls other more) → IsMade path bytes disk → IsMade path bytes (after_all disk (file_calls other more))
past_file disk path bytes other more can is = let differ = not_made disk path bytes other is can.0 in record {
  leads = ap latest (led_elsewhere disk.names other path (Some (New other)) differ) ∙ is.leads;
  kept = is.kept;
  synced = let made = given disk.content other no_bytes in
      let put = given made other (record { bytes = (made (New other)).bytes ++ more; synced = false; kept = (made (New other)).kept }) in
      given_elsewhere put other path (whole (put (New other)).bytes) differ
      ∙ given_elsewhere made other path (record { bytes = (made (New other)).bytes ++ more; synced = false; kept = (made (New other)).kept }) differ
      ∙ given_elsewhere disk.content other path no_bytes differ
      ∙ is.synced;
}

past_dirs : (dirs : List (List ℕ)) (disk : Disk) (path bytes : List ℕ) → CanTakeAll disk (create_dirs dirs) → IsMade path bytes disk → IsMade path bytes (after_all disk (create_dirs dirs))
past_dirs [] disk path bytes can is = is
past_dirs (dir ∷ dirs) disk path bytes can is = past_dirs dirs (after disk (CreateDir dir)) path bytes can.1 (past_dir disk path bytes dir can.0 is)

past_files : (files : List FileAt) (disk : Disk) (path bytes : List ℕ) → CanTakeAll disk (files_calls files) → IsMade path bytes disk → IsMade path bytes (after_all disk (files_calls files))
past_files [] disk path bytes can is = is
past_files (file ∷ files) disk path bytes can is =
    past_files files (after_all disk (file_calls file.path file.bytes)) path bytes can.1.1.1 (past_file disk path bytes file.path file.bytes (can.0, (can.1.0, (can.1.1.0, tt))) is)

dirs_made : (dirs : List (List ℕ)) (disk : Disk) → CanTakeAll disk (create_dirs dirs) → AllByRecursion (λ dir. IsMade dir [] (after_all disk (create_dirs dirs))) dirs
dirs_made [] disk can = tt
dirs_made (dir ∷ dirs) disk can = (past_dirs dirs (after disk (CreateDir dir)) dir [] can.1 (made_dir disk dir), dirs_made dirs (after disk (CreateDir dir)) can.1)

abbrev AreMade : List FileAt → Disk → Type 0
AreMade files disk = AllByRecursion (λ (file : FileAt). IsMade file.path file.bytes disk) files

files_made : (files : List FileAt) (disk : Disk) → CanTakeAll disk (files_calls files) → AreMade files (after_all disk (files_calls files))
files_made [] disk can = tt
files_made (file ∷ files) disk can = (
  past_files files (after_all disk (file_calls file.path file.bytes)) file.path file.bytes can.1.1.1 (made_file disk file.path file.bytes),
  files_made files (after_all disk (file_calls file.path file.bytes)) can.1.1.1,
)

-- ---- what was synced

-- The path leads to the file that was created at it, after a crash too.
record IsSettled (path bytes : List ℕ) (disk : Disk) : Type 0 where
  leads : disk.names path ≡ Some (New path) ∷ []
  kept : Option (List ℕ)
  synced : disk.content (New path) ≡ on_device bytes kept

made_past_sync : (disk : Disk) (dir path bytes : List ℕ) → IsMade path bytes disk → IsMade path bytes (after disk (SyncDir dir))
made_past_sync disk dir path bytes is = record { leads = latest_synced (is_in dir path) (disk.names path) (Some (New path)) is.leads; kept = is.kept; synced = is.synced }

made_past_syncs : (dirs : List (List ℕ)) (disk : Disk) (path bytes : List ℕ) → IsMade path bytes disk → IsMade path bytes (after_all disk (sync_dirs dirs))
made_past_syncs [] disk path bytes is = is
made_past_syncs (dir ∷ dirs) disk path bytes is = made_past_syncs dirs (after disk (SyncDir dir)) path bytes (made_past_sync disk dir path bytes is)

settled_past_sync : (disk : Disk) (dir path bytes : List ℕ) → IsSettled path bytes disk → IsSettled path bytes (after disk (SyncDir dir))
settled_past_sync disk dir path bytes is = record { leads = synced_one (is_in dir path) (disk.names path) (Some (New path)) is.leads; kept = is.kept; synced = is.synced }

settled_past_syncs : (dirs : List (List ℕ)) (disk : Disk) (path bytes : List ℕ) → IsSettled path bytes disk → IsSettled path bytes (after_all disk (sync_dirs dirs))
settled_past_syncs [] disk path bytes is = is
settled_past_syncs (dir ∷ dirs) disk path bytes is = settled_past_syncs dirs (after disk (SyncDir dir)) path bytes (settled_past_sync disk dir path bytes is)

settled_by_sync : (disk : Disk) (dir path bytes : List ℕ) → is_in dir path ≡ true → IsMade path bytes disk → IsSettled path bytes (after disk (SyncDir dir))
settled_by_sync disk dir path bytes inside is = record { leads = ap (λ b. if b then latest (disk.names path) ∷ [] else disk.names path) inside ∙ ap (λ f. f ∷ []) is.leads; kept = is.kept; synced = is.synced }

settled_by_first : (dir : List ℕ) (dirs : List (List ℕ)) (disk : Disk) (path bytes : List ℕ) → (is_in dir path ≡ true) ⊎ (is_in dir path ≡ false) → is_inside (dir ∷ dirs) path ≡ true → IsMade path bytes disk
    → ((other : Disk) → is_inside dirs path ≡ true → IsMade path bytes other → IsSettled path bytes (after_all other (sync_dirs dirs))) → IsSettled path bytes (after_all disk (sync_dirs (dir ∷ dirs)))
settled_by_first dir dirs disk path bytes (inl here) inside is later = settled_past_syncs dirs (after disk (SyncDir dir)) path bytes (settled_by_sync disk dir path bytes here is)
settled_by_first dir dirs disk path bytes (inr not_here) inside is later = later (after disk (SyncDir dir)) (sym (ap (λ b. b || is_inside dirs path) not_here) ∙ inside) (made_past_sync disk dir path bytes is)

settled_by_syncs : (dirs : List (List ℕ)) (disk : Disk) (path bytes : List ℕ) → is_inside dirs path ≡ true → IsMade path bytes disk → IsSettled path bytes (after_all disk (sync_dirs dirs))
settled_by_syncs [] disk path bytes inside is = absurd (false≢true inside)
settled_by_syncs (dir ∷ dirs) disk path bytes inside is = settled_by_first dir dirs disk path bytes (cases_Bool (is_in dir path)) inside is (λ other. settled_by_syncs dirs other path bytes)

-- directories and one more, synced one after another
syncs_and_last : (dirs : List (List ℕ)) (last : List ℕ) → sync_dirs dirs ++ SyncDir last ∷ [] ≡ sync_dirs (dirs ++ last ∷ [])
syncs_and_last [] last = refl
syncs_and_last (dir ∷ dirs) last = ap (λ calls. SyncDir dir ∷ calls) (syncs_and_last dirs last)

settled_past_rename : (disk : Disk) (from to path bytes : List ℕ) → from ≢ path → to ≢ path → IsSettled path bytes disk → IsSettled path bytes (after disk (Rename from to))
settled_past_rename disk from to path bytes f t is =
    record { leads = led_elsewhere (led disk.names to (latest (disk.names from))) from path None f ∙ led_elsewhere disk.names to path (latest (disk.names from)) t ∙ is.leads; kept = is.kept; synced = is.synced }

-- ---- calls that leave a path as it was

-- directories and files at other paths, and syncs
module _ (Q : List (Option File) → Type 0) (name : List ℕ) where
  abbrev Holds : Disk → Type 0
  Holds disk = Q (disk.names name)

  dirs_keep : (dirs : List (List ℕ)) → AllByRecursion (λ dir. name ≡ dir → ⊥) dirs → AllByRecursion (Keeps Holds) (create_dirs dirs)
  dirs_keep [] apart = tt
  dirs_keep (dir ∷ dirs) (differ, apart) = ((λ disk has. subst Q (sym (led_elsewhere disk.names dir name (Some (New dir)) (λ is. differ (sym is)))) has), dirs_keep dirs apart)

  files_keep : (files : List FileAt) → AllByRecursion (λ (file : FileAt). name ≡ file.path → ⊥) files → AllByRecursion (Keeps Holds) (files_calls files)
  files_keep [] apart = tt
  files_keep (file ∷ files) (differ, apart) =
      ((λ disk has. subst Q (sym (led_elsewhere disk.names file.path name (Some (New file.path)) (λ is. differ (sym is)))) has), ((λ disk has. has), ((λ disk has. has), files_keep files apart)))

  syncs_keep : (dirs : List (List ℕ)) → ((b : Bool) (names : List (Option File)) → Q names → Q (if b then latest names ∷ [] else names)) → AllByRecursion (Keeps Holds) (sync_dirs dirs)
  syncs_keep [] by_sync = tt
  syncs_keep (dir ∷ dirs) by_sync = ((λ disk has. by_sync (is_in dir name) (disk.names name) has), syncs_keep dirs by_sync)

-- no call removes anything
dirs_remove_none : (dirs : List (List ℕ)) → AllByRecursion (λ call. IsRemoval call → ⊥) (create_dirs dirs)
dirs_remove_none [] = tt
dirs_remove_none (dir ∷ dirs) = ((λ h. h), dirs_remove_none dirs)

files_remove_none : (files : List FileAt) → AllByRecursion (λ call. IsRemoval call → ⊥) (files_calls files)
files_remove_none [] = tt
files_remove_none (file ∷ files) = ((λ h. h), ((λ h. h), ((λ h. h), files_remove_none files)))

syncs_remove_none : (dirs : List (List ℕ)) → AllByRecursion (λ call. IsRemoval call → ⊥) (sync_dirs dirs)
syncs_remove_none [] = tt
syncs_remove_none (dir ∷ dirs) = ((λ h. h), syncs_remove_none dirs)

all_front : {X : Type 0} (P : X → Type 0) (xs ys : List X) → AllByRecursion P (xs ++ ys) → AllByRecursion P xs
all_front P [] ys all = tt
all_front P (x ∷ xs) ys (has, all) = (has, all_front P xs ys all)

all_back : {X : Type 0} (P : X → Type 0) (xs ys : List X) → AllByRecursion P (xs ++ ys) → AllByRecursion P ys
all_back P [] ys all = all
all_back P (x ∷ xs) ys (has, all) = all_back P xs ys all

all_of_map : {X Y : Type 0} (P : Y → Type 0) (f : X → Y) (xs : List X) → AllByRecursion P (map f xs) → AllByRecursion (λ x. P (f x)) xs
all_of_map P f [] all = tt
all_of_map P f (x ∷ xs) (has, all) = (has, all_of_map P f xs all)

-- ---- the whole order

module _ (before : Standing) (parent path unfinished : List ℕ) (dirs : List (List ℕ)) (files : List FileAt) (shorter : length path < length unfinished) (of : AreInside unfinished dirs files) where
  abbrev created : List Call
  created = create_dirs dirs ++ files_calls files

  abbrev early : List Call
  early = unfinished_folder unfinished dirs files

  abbrev late : List Call
  late = Rename unfinished path ∷ SyncDir parent ∷ []

  differ : path ≢ unfinished
  differ = longer_differs path unfinished shorter

  differ_back : unfinished ≢ path
  differ_back is = differ (sym is)

  long_dirs : AllByRecursion (λ dir. length unfinished < length dir) dirs
  long_dirs = all_weaker (λ dir. is_in unfinished dir ≡ true) (λ dir. length unfinished < length dir) dirs (λ dir. in_longer unfinished dir) of.dirs_in

  long_folders : AllByRecursion (λ dir. length unfinished ≤ length dir) (dirs ++ unfinished ∷ [])
  long_folders = all_then (λ dir. length unfinished ≤ length dir) dirs (unfinished ∷ []) (all_weaker (λ dir. length unfinished < length dir) (λ dir. length unfinished ≤ length dir) dirs (λ dir l. omega (arith, l)) long_dirs) (omega arith, tt)

  long_files : AllByRecursion (λ (file : FileAt). length unfinished < length file.path) files
  long_files = all_weaker (λ (file : FileAt). is_inside (dirs ++ unfinished ∷ []) file.path ≡ true) (λ file. length unfinished < length file.path) files
      (λ file. inside_longer (length unfinished) (dirs ++ unfinished ∷ []) file.path long_folders) of.files_in

  -- a path that is no longer than the unfinished folder's is none of these
  apart_dirs : (name : List ℕ) → length name ≤ length unfinished → AllByRecursion (λ dir. name ≡ dir → ⊥) dirs
  apart_dirs name short = all_weaker (λ dir. length unfinished < length dir) (λ dir. name ≡ dir → ⊥) dirs (λ dir l. longer_differs name dir (omega (arith, short, l))) long_dirs

  apart_files : (name : List ℕ) → length name ≤ length unfinished → AllByRecursion (λ (file : FileAt). name ≡ file.path → ⊥) files
  apart_files name short = all_weaker (λ (file : FileAt). length unfinished < length file.path) (λ file. name ≡ file.path → ⊥) files (λ file l. longer_differs name file.path (omega (arith, short, l))) long_files

  abbrev stood : List ℕ → Option File
  stood name = option_map (λ _. Old name) (before name)

  -- the path leads to what was there
  abbrev IsOld : List ℕ → Disk → Type 0
  IsOld name disk = disk.names name ≡ stood name ∷ []

  old_early : (name : List ℕ) → unfinished ≢ name → AllByRecursion (λ dir. name ≡ dir → ⊥) dirs → AllByRecursion (λ (file : FileAt). name ≡ file.path → ⊥) files → AllByRecursion (Keeps (IsOld name)) early
  old_early name differs d f =
      let Q : List (Option File) → Type 0 = λ names. names ≡ stood name ∷ [] in
      let by_sync : (b : Bool) (names : List (Option File)) → Q names → Q (if b then latest names ∷ [] else names) = λ b names has. synced_one b names (stood name) has in (
        (λ disk has. led_elsewhere disk.names unfinished name (Some (New unfinished)) differs ∙ has),
        all_then (Keeps (IsOld name)) (create_dirs dirs) (files_calls files ++ (sync_dirs dirs ++ SyncDir unfinished ∷ [])) (dirs_keep Q name dirs d)
            (all_then (Keeps (IsOld name)) (files_calls files) (sync_dirs dirs ++ SyncDir unfinished ∷ []) (files_keep Q name files f)
            (all_then (Keeps (IsOld name)) (sync_dirs dirs) (SyncDir unfinished ∷ []) (syncs_keep Q name dirs by_sync) ((λ disk has. by_sync (is_in unfinished name) (disk.names name) has), tt))),
      )

  path_early : AllByRecursion (Keeps (IsOld path)) early
  path_early = old_early path differ_back (apart_dirs path (omega (arith, shorter))) (apart_files path (omega (arith, shorter)))

  none_removed : AllByRecursion (λ call. IsRemoval call → ⊥) early
  none_removed = (
    (λ h. h),
    all_then (λ call. IsRemoval call → ⊥) (create_dirs dirs) (files_calls files ++ (sync_dirs dirs ++ SyncDir unfinished ∷ [])) (dirs_remove_none dirs)
        (all_then (λ call. IsRemoval call → ⊥) (files_calls files) (sync_dirs dirs ++ SyncDir unfinished ∷ []) (files_remove_none files)
        (all_then (λ call. IsRemoval call → ⊥) (sync_dirs dirs) (SyncDir unfinished ∷ []) (syncs_remove_none dirs) ((λ h. h), tt))),
  )

  -- ---- the unfinished folder is whole

  record IsFilled (disk : Disk) : Type 0 where
    kept_in : Option (List ℕ)
    no_bytes_in : disk.content (New unfinished) ≡ on_device [] kept_in
    dirs_settled : AllByRecursion (λ dir. IsSettled dir [] disk) dirs
    files_settled : AllByRecursion (λ (file : FileAt). IsSettled file.path file.bytes disk) files

  record Ready (disk : Disk) : Type 0 where
    there : latest (disk.names unfinished) ≡ Some (New unfinished)
    filled : IsFilled disk

  all_settled : {X : Type 0} (at : X → List ℕ) (bytes : X → List ℕ) (xs : List X) (folders : List (List ℕ)) (disk : Disk) → AllByRecursion (λ x. is_inside folders (at x) ≡ true) xs
      → AllByRecursion (λ x. IsMade (at x) (bytes x) disk) xs → AllByRecursion (λ x. IsSettled (at x) (bytes x) (after_all disk (sync_dirs folders))) xs
  all_settled at bytes [] folders disk inside made = tt
  all_settled at bytes (x ∷ xs) folders disk (here, inside) (is, made) = (settled_by_syncs folders disk (at x) (bytes x) here is, all_settled at bytes xs folders disk inside made)

  inside_last : (folders : List (List ℕ)) (name : List ℕ) → is_in unfinished name ≡ true → is_inside (folders ++ unfinished ∷ []) name ≡ true
  inside_last [] name is = ap (λ b. b || false) is
  inside_last (folder ∷ folders) name is = inside_or (is_in folder name) (is_inside (folders ++ unfinished ∷ []) name) (inside_last folders name is) where
    inside_or : (a b : Bool) → b ≡ true → a || b ≡ true
    inside_or true b is = refl
    inside_or false b is = is

  all_past_files : (disk : Disk) (some : List (List ℕ)) → CanTakeAll disk (files_calls files) → AllByRecursion (λ dir. IsMade dir [] disk) some → AllByRecursion (λ dir. IsMade dir [] (after_all disk (files_calls files))) some
  all_past_files disk some can made = all_weaker (λ dir. IsMade dir [] disk) (λ dir. IsMade dir [] (after_all disk (files_calls files))) some (λ dir is. past_files files disk dir [] can is) made

  ready : (disk : Disk) → CanTakeAll disk early → Ready (after_all disk early)
  ready disk can =
      let begun = after disk (CreateDir unfinished) in
      let can_dirs = can_take_both begun (create_dirs dirs) (files_calls files ++ (sync_dirs dirs ++ SyncDir unfinished ∷ [])) can.1 in
      let with_dirs = after_all begun (create_dirs dirs) in
      let can_files = can_take_both with_dirs (files_calls files) (sync_dirs dirs ++ SyncDir unfinished ∷ []) can_dirs.1 in
      let with_files = after_all with_dirs (files_calls files) in
      let folders = dirs ++ unfinished ∷ [] in
      let run : after_all disk early ≡ after_all with_files (sync_dirs folders) =
      after_both begun (create_dirs dirs) (files_calls files ++ (sync_dirs dirs ++ SyncDir unfinished ∷ [])) ∙ after_both with_dirs (files_calls files) (sync_dirs dirs ++ SyncDir unfinished ∷ [])
      ∙ ap (after_all with_files) (syncs_and_last dirs unfinished) in
      let root = past_files files with_dirs unfinished [] can_files.0 (past_dirs dirs begun unfinished [] can_dirs.0 (made_dir disk unfinished)) in
      let inside : AllByRecursion (λ dir. is_inside folders dir ≡ true) dirs = all_weaker (λ dir. is_in unfinished dir ≡ true) (λ dir. is_inside folders dir ≡ true) dirs (λ dir. inside_last dirs dir) of.dirs_in in
      subst Ready (sym run) (record {
        there = (made_past_syncs folders with_files unfinished [] root).leads;
        filled = record {
          kept_in = (made_past_syncs folders with_files unfinished [] root).kept;
          no_bytes_in = (made_past_syncs folders with_files unfinished [] root).synced;
          dirs_settled = all_settled (λ dir. dir) (λ _. []) dirs folders with_files inside (all_past_files with_dirs dirs can_files.0 (dirs_made dirs begun can_dirs.0));
          files_settled = all_settled (λ (file : FileAt). file.path) (λ file. file.bytes) files folders with_files of.files_in (files_made files with_dirs can_files.0);
        };
      })

  -- ---- the rename, and after it

  filled_past_rename : (disk : Disk) → IsFilled disk → IsFilled (after disk (Rename unfinished path))
  filled_past_rename disk is = record {
    kept_in = is.kept_in;
    no_bytes_in = is.no_bytes_in;
    dirs_settled = all_both_of dirs (λ dir. length unfinished < length dir) (λ dir. IsSettled dir [] disk) (λ dir. IsSettled dir [] (after disk (Rename unfinished path)))
        (λ dir l s. settled_past_rename disk unfinished path dir [] (longer_differs unfinished dir l) (longer_differs path dir (omega (arith, l, shorter))) s) long_dirs is.dirs_settled;
    files_settled = all_both_of files (λ (file : FileAt). length unfinished < length file.path) (λ file. IsSettled file.path file.bytes disk) (λ file. IsSettled file.path file.bytes (after disk (Rename unfinished path)))
        (λ file l s. settled_past_rename disk unfinished path file.path file.bytes (longer_differs unfinished file.path l) (longer_differs path file.path (omega (arith, l, shorter))) s) long_files is.files_settled;
  } where
    all_both_of : {X : Type 0} (xs : List X) (P Q R : X → Type 0) → ((x : X) → P x → Q x → R x) → AllByRecursion P xs → AllByRecursion Q xs → AllByRecursion R xs
    all_both_of [] P Q R both p q = tt
    all_both_of (x ∷ xs) P Q R both (a, p) (b, q) = (both x a b, all_both_of xs P Q R both p q)

  filled_past_sync : (disk : Disk) (dir : List ℕ) → IsFilled disk → IsFilled (after disk (SyncDir dir))
  filled_past_sync disk dir is = record {
    kept_in = is.kept_in;
    no_bytes_in = is.no_bytes_in;
    dirs_settled = all_weaker (λ d. IsSettled d [] disk) (λ d. IsSettled d [] (after disk (SyncDir dir))) dirs (λ d s. settled_past_sync disk dir d [] s) is.dirs_settled;
    files_settled = all_weaker (λ (file : FileAt). IsSettled file.path file.bytes disk) (λ file. IsSettled file.path file.bytes (after disk (SyncDir dir))) files (λ file s. settled_past_sync disk dir file.path file.bytes s) is.files_settled;
  }

  -- before or after the last sync
  abbrev LeadsToFolder : List (Option File) → Type 0
  LeadsToFolder names = (names ≡ Some (New unfinished) ∷ stood path ∷ []) ⊎ (names ≡ Some (New unfinished) ∷ [])

  record Moved (disk : Disk) : Type 0 where
    names : LeadsToFolder (disk.names path)
    filled : IsFilled disk

  moved : (disk : Disk) → Ready disk → IsOld path disk → Moved (after disk (Rename unfinished path))
  moved disk at old = record {
    names = inl (led_elsewhere (led disk.names path (latest (disk.names unfinished))) unfinished path None differ_back ∙ led_here disk.names path (latest (disk.names unfinished))
        ∙ ap (λ f. f ∷ disk.names path) at.there ∙ ap (λ n. Some (New unfinished) ∷ n) old);
    filled = filled_past_rename disk at.filled;
  }

  leads_past_sync : (b : Bool) (names : List (Option File)) → LeadsToFolder names → LeadsToFolder (if b then latest names ∷ [] else names)
  leads_past_sync true names (inl is) = inr (ap (λ n. latest n ∷ []) is)
  leads_past_sync true names (inr is) = inr (ap (λ n. latest n ∷ []) is)
  leads_past_sync false names is = is

  moved_past_sync : Keeps Moved (SyncDir parent)
  moved_past_sync disk has = record { names = leads_past_sync (is_in parent path) (disk.names path) has.names; filled = filled_past_sync disk parent has.filled }

  -- ---- what a crash leaves

  read_name : (disk : Disk) (leads : List ℕ → Option File) (left : Standing) (name : List ℕ) (file : Option File) → MayLeave disk leads left → disk.names name ≡ file ∷ [] → MayRead disk.content file (left name)
  read_name disk leads left name file leaves is = read_among disk.content (disk.names name) file (leads name) (left name) is (leaves name).0 (leaves name).1

  leads_to : (disk : Disk) (leads : List ℕ → Option File) (left : Standing) (name : List ℕ) (file : Option File) → MayLeave disk leads left → disk.names name ≡ file ∷ [] → leads name ≡ file
  leads_to disk leads left name file leaves is = among_has (λ f. f ≡ file) (disk.names name) (leads name) (leaves name).0 (subst (AllByRecursion (λ f. f ≡ file)) (sym is) (refl, tt))

  filled_left : (disk : Disk) (leads : List ℕ → Option File) (left : Standing) → IsFilled disk → MayLeave disk leads left → leads path ≡ Some (New unfinished) → IsWholeFolder path unfinished dirs files leads left
  filled_left disk leads left filled leaves is = record {
    folder = is;
    stands = read_synced disk.content (New unfinished) [] filled.kept_in (left path) filled.no_bytes_in (subst (λ f. MayRead disk.content f (left path)) is (leaves path).1);
    dirs_there = all_weaker (λ dir. IsSettled dir [] disk) (λ dir. leads dir ≡ Some (New dir)) dirs (λ dir s. leads_to disk leads left dir (Some (New dir)) leaves s.leads) filled.dirs_settled;
    files_there = all_weaker (λ (file : FileAt). IsSettled file.path file.bytes disk) (λ file. left file.path ≡ Some file.bytes) files
        (λ file s. read_synced disk.content (New file.path) file.bytes s.kept (left file.path) s.synced (read_name disk leads left file.path (Some (New file.path)) leaves s.leads)) filled.files_settled;
  }

  -- a path that leads to what was there reads as it did
  old_left : (made : List Call) (leads : List ℕ → Option File) (left : Standing) (name : List ℕ) → MayLeave (after_all (disk_of before) made) leads left → IsOld name (after_all (disk_of before) made) → left name ≡ before name
  old_left made leads left name leaves old =
      let disk = after_all (disk_of before) made in
      read_old disk.content name (before name) (left name) (olds_kept made (disk_of before) name) (read_name disk leads left name (stood name) leaves old)

  -- what was at the path is there, or the whole folder, where nothing was at the unfinished one
  abbrev IsOldOrFolder : (List ℕ → Option File) → Standing → Type 0
  IsOldOrFolder leads left = (left path ≡ before path) ⊎ ((before unfinished ≡ None) × IsWholeFolder path unfinished dirs files leads left)

  abbrev OldOrFolder : List Call → Type 0
  OldOrFolder made = (leads : List ℕ → Option File) (left : Standing) → MayLeave (after_all (disk_of before) made) leads left → IsOldOrFolder leads left

  old_or_folder : (made : List Call) → IsOld path (after_all (disk_of before) made) → OldOrFolder made
  old_or_folder made old leads left leaves = inl (old_left made leads left path leaves old)

  moved_or_not : before unfinished ≡ None → (made : List Call) (leads : List ℕ → Option File) (left : Standing) → MayLeave (after_all (disk_of before) made) leads left → IsFilled (after_all (disk_of before) made)
      → IsAmong (Some (New unfinished) ∷ stood path ∷ []) (leads path) → IsOldOrFolder leads left
  moved_or_not none made leads left leaves filled (inl is) = inr (none, filled_left (after_all (disk_of before) made) leads left filled leaves is)
  moved_or_not none made leads left leaves filled (inr (inl is)) =
      let disk = after_all (disk_of before) made in
      inl (read_old disk.content path (before path) (left path) (olds_kept made (disk_of before) path) (subst (λ f. MayRead disk.content f (left path)) is (leaves path).1))
  moved_or_not none made leads left leaves filled (inr (inr nowhere)) = absurd nowhere

  folder_moved : before unfinished ≡ None → (made : List Call) (names : LeadsToFolder ((after_all (disk_of before) made).names path)) → IsFilled (after_all (disk_of before) made) → OldOrFolder made
  folder_moved none made (inl is) filled leads left leaves = moved_or_not none made leads left leaves filled (subst (λ n. IsAmong n (leads path)) is (leaves path).0)
  folder_moved none made (inr is) filled leads left leaves =
      inr (none, filled_left (after_all (disk_of before) made) leads left filled leaves (leads_to (after_all (disk_of before) made) leads left path (Some (New unfinished)) leaves is))

  moved_at : before unfinished ≡ None → (made : List Call) → Moved (after_all (disk_of before) made) → OldOrFolder made
  moved_at none made has = folder_moved none made has.names has.filled

  safe_late : before unfinished ≡ None → (made b : List Call) → after_all (disk_of before) made ≡ after_all (after_all (disk_of before) early) b → Ready (after_all (disk_of before) early) → IsOld path (after_all (disk_of before) early) → AreFirst b late → OldOrFolder made
  safe_late none made b run at old (inl is) = old_or_folder made (subst (IsOld path) (sym (run ∙ ap (after_all (after_all (disk_of before) early)) is)) old)
  safe_late none made b run at old (inr (inl (rest, is, first))) =
      moved_at none made (subst Moved (sym (run ∙ ap (after_all (after_all (disk_of before) early)) is))
      (first_keep Moved (SyncDir parent ∷ []) rest (after (after_all (disk_of before) early) (Rename unfinished path)) (moved_past_sync, tt) first (moved (after_all (disk_of before) early) at old)))
  safe_late none made b run at old (inr (inr (removal, first))) = absurd removal

  path_old : (made : List Call) → AreFirst made early → IsOld path (after_all (disk_of before) made)
  path_old made first = first_keep (IsOld path) early made (disk_of before) path_early first refl

  safe_apart : (made : List Call) → CanTakeAll (disk_of before) made → (AreFirst made early ⊎ AreBehind made early late) → OldOrFolder made
  safe_apart made can (inl first) = old_or_folder made (path_old made first)
  safe_apart made can (inr behind) =
      let is : behind.a ≡ early = exactly behind.a early none_removed behind.all in
      let whole_is : made ≡ early ++ behind.b = behind.is ∙ ap (λ a. a ++ behind.b) is in
      let can_early = can_take_both (disk_of before) early behind.b (subst (CanTakeAll (disk_of before)) whole_is can) in
      safe_late (not_there (before unfinished) unfinished can_early.0.0) made behind.b (ap (after_all (disk_of before)) whole_is ∙ after_both (disk_of before) early behind.b) (ready (disk_of before) can_early.0)
      (run_keep (IsOld path) early (disk_of before) path_early refl) behind.first

  others_kept : (name : List ℕ) → AllByRecursion (λ other. name ≡ other → ⊥) (path ∷ unfinished ∷ dirs ++ map (λ (file : FileAt). file.path) files) → AllByRecursion (Keeps (IsOld name)) (new_folder parent path unfinished dirs files)
  others_kept name (not_path, (not_unfinished, others)) =
      all_then (Keeps (IsOld name)) early late
      (old_early name (λ is. not_unfinished (sym is)) (all_front (λ other. name ≡ other → ⊥) dirs (map (λ (file : FileAt). file.path) files) others)
      (all_of_map (λ other. name ≡ other → ⊥) (λ (file : FileAt). file.path) files (all_back (λ other. name ≡ other → ⊥) dirs (map (λ (file : FileAt). file.path) files) others))) (
        (λ disk has. led_elsewhere (led disk.names path (latest (disk.names unfinished))) unfinished name None (λ is. not_unfinished (sym is)) ∙ led_elsewhere disk.names path name (latest (disk.names unfinished)) (λ is. not_path (sym is)) ∙ has),
        ((λ disk has. synced_one (is_in parent name) (disk.names name) (stood name) has), tt),
      )

  -- A crash at any moment leaves what was there, or the whole folder.
  pub any_moment : (made : List Call) → AreFirst made (new_folder parent path unfinished dirs files) → CanTakeAll (disk_of before) made → (leads : List ℕ → Option File) (left : Standing)
      → MayLeave (after_all (disk_of before) made) leads left → LeavesOldOrFolder path unfinished dirs files before leads left
  any_moment made first can leads left leaves =
      let kept : (name : List ℕ) → AllByRecursion (λ other. name ≡ other → ⊥) (changed_paths path unfinished dirs files) → IsOld name (after_all (disk_of before) made) =
      λ name apart. first_keep (IsOld name) (new_folder parent path unfinished dirs files) made (disk_of before) (others_kept name apart) first refl in
      record {
        folder = safe_apart made can (first_apart made early late first) leads left leaves;
        others = λ name apart. old_left made leads left name leaves (kept name apart);
        leads_as = λ name apart. leads_to (after_all (disk_of before) made) leads left name (stood name) leaves (kept name apart);
      }

  -- A crash at a moment before the rename leaves what was there.
  pub before_rename : (made : List Call) → AreFirst made (unfinished_folder unfinished dirs files) → CanTakeAll (disk_of before) made → (leads : List ℕ → Option File) (left : Standing)
      → MayLeave (after_all (disk_of before) made) leads left → LeavesOld path unfinished dirs files before leads left
  before_rename made first can leads left leaves =
      let either = any_moment made (are_first_of_more made early late first) can leads left leaves in
      record { folder = old_left made leads left path leaves (path_old made first); others = either.others; leads_as = either.leads_as }

  -- A crash after all of it leaves the whole folder.
  pub acknowledged : is_in parent path ≡ true → (made : List Call) → AreAll made (new_folder parent path unfinished dirs files) → CanTakeAll (disk_of before) made → (leads : List ℕ → Option File) (left : Standing)
      → MayLeave (after_all (disk_of before) made) leads left → LeavesFolder path unfinished dirs files before leads left
  acknowledged inside made all can leads left leaves =
      let start = disk_of before in
      let is : made ≡ early ++ late = exactly made (early ++ late) (all_then (λ call. IsRemoval call → ⊥) early late none_removed ((λ h. h), ((λ h. h), tt))) all in
      let can_early = can_take_both start early late (subst (CanTakeAll start) is can) in
      let disk = after_all start early in
      let last = after disk (Rename unfinished path) in
      let has = moved disk (ready start can_early.0) (run_keep (IsOld path) early start path_early refl) in
      let end = after last (SyncDir parent) in
      let run : after_all start made ≡ end = ap (after_all start) is ∙ after_both start early late in
      let there = subst (λ d. MayLeave d leads left) run leaves in
      let names : end.names path ≡ Some (New unfinished) ∷ [] = ap (λ b. if b then latest (last.names path) ∷ [] else last.names path) inside ∙ ap (λ f. f ∷ []) (first_is (last.names path) has.names) in
      record { folder = filled_left end leads left (filled_past_sync last parent has.filled) there (leads_to end leads left path (Some (New unfinished)) there names) } where
        first_is : (names : List (Option File)) → LeadsToFolder names → latest names ≡ Some (New unfinished)
        first_is names (inl is) = ap latest is
        first_is names (inr is) = ap latest is
