-- What a crash leaves of a file that grows.
use Rattle.std.specs.Prelude.{ℕ, ◌≡◌, Bool, true, false, if◌then◌else◌, List, [], ◌∷◌, ◌++◌, Option, None, Some, IfSome, map, refl}
use Rattle.std.specs.Option.{option_map, unwrap_or}
use Rattle.std.specs.List.{AllByRecursion}
use Rattle.std.proofs.Common.{ap, subst, sym, ◌∙◌}
use Rattle.store.specs.Calls.{Call, Create, SyncDir, SyncFile, Write}
use Rattle.store.specs.Disk.{CanTakeAll, Content, Disk, File, IsAmong, IsBetween, MayLeave, MayRead, New, Old, Standing, after, after_all, disk_of, given, is_in, latest, led, no_bytes}
use Rattle.new_files.specs.Crashes.{AfterCrash}
use Rattle.new_files.specs.Growing.{LeavesGrown, Step, Synced, Wrote, bytes_after, growing_file, kept_after, step_call}
use Rattle.new_files.proofs.Disks.{given_here, led_elsewhere, led_here, olds_kept, read_among, read_old, synced_one}

module _ (before : Standing) (parent path : List ℕ) where
  -- the path leads to the new file, of this content, and all other names to what was there
  record Grown (bytes kept : List ℕ) (disk : Disk) : Type 0 where
    synced : Bool
    leads : disk.names path ≡ Some (New path) ∷ []
    content : disk.content (New path) ≡ record { bytes = bytes; synced = synced; kept = Some kept }
    others : (other : List ℕ) → (path ≡ other → ⊥) → disk.names other ≡ option_map (λ _. Old other) (before other) ∷ []

  grows : (bytes kept more : List ℕ) (disk : Disk) → Grown bytes kept disk → Grown (bytes ++ more) kept (after disk (Write path more))
  grows bytes kept more disk has = record {
    synced = false;
    leads = has.leads;
    content = given_here disk.content path (record { bytes = (disk.content (New path)).bytes ++ more; synced = false; kept = (disk.content (New path)).kept })
        ∙ ap (λ (c : Content). record { bytes = c.bytes ++ more; synced = false; kept = c.kept }) has.content;
    others = has.others;
  }

  syncs : (bytes kept : List ℕ) (disk : Disk) → Grown bytes kept disk → Grown bytes bytes (after disk (SyncFile path))
  syncs bytes kept disk has = record {
    synced = true;
    leads = has.leads;
    content = given_here disk.content path (record { bytes = (disk.content (New path)).bytes; synced = true; kept = Some (disk.content (New path)).bytes })
        ∙ ap (λ (c : Content). record { bytes = c.bytes; synced = true; kept = Some c.bytes }) has.content;
    others = has.others;
  }

  runs : (steps : List Step) (bytes kept : List ℕ) (disk : Disk) → Grown bytes kept disk → Grown (bytes_after bytes steps) (kept_after bytes kept steps) (after_all disk (map (step_call path) steps))
  runs [] bytes kept disk has = has
  runs (Wrote more ∷ steps) bytes kept disk has = runs steps (bytes ++ more) kept (after disk (Write path more)) (grows bytes kept more disk has)
  runs (Synced ∷ steps) bytes kept disk has = runs steps bytes bytes (after disk (SyncFile path)) (syncs bytes kept disk has)

  abbrev created : Disk
  created = after (disk_of before) (Create path)

  abbrev claimed : Disk
  claimed = after created (SyncFile path)

  begins : is_in parent path ≡ true → Grown [] [] (after claimed (SyncDir parent))
  begins inside = record {
    synced = true;
    leads = ap (λ b. if b then latest (created.names path) ∷ [] else created.names path) inside ∙ ap (λ fs. latest fs ∷ []) (led_here (disk_of before).names path (Some (New path)));
    content = given_here created.content path (record { bytes = (created.content (New path)).bytes; synced = true; kept = Some (created.content (New path)).bytes })
        ∙ ap (λ (c : Content). record { bytes = c.bytes; synced = true; kept = Some c.bytes }) (given_here (disk_of before).content path no_bytes);
    others = λ other differ. synced_one (is_in parent other) (created.names other) (option_map (λ _. Old other) (before other)) (led_elsewhere (disk_of before).names path other (Some (New path)) differ);
  }

  read_grown : (content : File → Content) (c : Content) (left : Option (List ℕ)) → content (New path) ≡ c → MayRead content (Some (New path)) left → (bytes : List ℕ) × (left ≡ Some bytes) × IfSome c.kept (λ first. IsBetween first bytes c.bytes)
  read_grown content c left is (bytes, gives, synced, kept) = (bytes, gives, subst (λ (d : Content). IfSome d.kept (λ first. IsBetween first bytes d.bytes)) is kept)

  pub leaves_grown : (steps : List Step) → is_in parent path ≡ true → (left : Standing) (leads : List ℕ → Option File) → MayLeave (after_all (disk_of before) (growing_file parent path steps)) leads left → LeavesGrown path steps before leads left
  leaves_grown steps inside left leads leaves =
      let begun = after claimed (SyncDir parent) in
      let disk = after_all begun (map (step_call path) steps) in
      let has : Grown (bytes_after [] steps) (kept_after [] [] steps) disk = runs steps [] [] begun (begins inside) in
      let read = read_grown disk.content _ (left path) has.content (read_among disk.content (disk.names path) (Some (New path)) (leads path) (left path) has.leads (leaves path).0 (leaves path).1) in
      record {
        bytes = read.0;
        file = read.1;
        between = read.2;
        others = λ other (differ, end). read_old disk.content other (before other) (left other) (olds_kept (growing_file parent path steps) (disk_of before) other)
            (read_among disk.content (disk.names other) (option_map (λ _. Old other) (before other)) (leads other) (left other) (has.others other (λ is. differ (sym is))) (leaves other).0 (leaves other).1);
      }

pub grown_after_crash : (parent path : List ℕ) (steps : List Step) → is_in parent path ≡ true → AfterCrash (LeavesGrown path steps) (growing_file parent path steps)
grown_after_crash parent path steps inside = λ before left leads can leaves. leaves_grown before parent path steps inside left leads leaves
