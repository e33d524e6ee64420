-- What a call changes of a disk, and what it leaves as it was.
use Rattle.std.specs.Prelude.{ℕ, ◌≡◌, Bool, true, false, if◌then◌else◌, List, [], ◌∷◌, ◌++◌, Option, None, Some, bytes_eq, refl}
use Rattle.std.specs.Option.{option_map, unwrap_or}
use Rattle.std.specs.List.{AllByRecursion}
use Rattle.std.proofs.Common.{inl, inr, ap, subst, sym, ◌∙◌}
use Rattle.std.proofs.lemmas.Bool.{false_from_ne_true, true≢false}
use Rattle.std.proofs.lemmas.Slice.Eq.{bytes_eq-Decides}
use Rattle.store.specs.Calls.{Call, Create, CreateDir, Remove, Rename, SyncDir, SyncFile, Write}
use Rattle.store.specs.Disk.{Content, Disk, File, IsAmong, MayLeave, MayRead, New, Old, Standing, after, after_all, CanTakeAll, changed, disk_of, given, latest, led}
use Rattle.new_files.specs.Orders.{AreAll, AreFirst}

pub changed_here : {X : Type 0} (values : List ℕ → X) (path : List ℕ) (value : X) → changed values path value path ≡ value
changed_here values path value = ap (λ b. if b then value else values path) ((bytes_eq-Decides path path).1 refl)

pub changed_elsewhere : {X : Type 0} (values : List ℕ → X) (path other : List ℕ) (value : X) → (path ≡ other → ⊥) → changed values path value other ≡ values other
changed_elsewhere values path other value differ =
    ap (λ b. if b then value else values other) (false_from_ne_true (bytes_eq path other) (λ same. differ ((bytes_eq-Decides path other).0 same)))

pub led_here : (names : List ℕ → List (Option File)) (path : List ℕ) (file : Option File) → led names path file path ≡ file ∷ names path
led_here names path file = changed_here names path (file ∷ names path)

pub led_elsewhere : (names : List ℕ → List (Option File)) (path other : List ℕ) (file : Option File) → (path ≡ other → ⊥) → led names path file other ≡ names other
led_elsewhere names path other file differ = changed_elsewhere names path other (file ∷ names path) differ

pub given_here : (content : File → Content) (path : List ℕ) (new : Content) → given content path new (New path) ≡ new
given_here content path new = changed_here (λ p. content (New p)) path new

pub given_elsewhere : (content : File → Content) (path other : List ℕ) (new : Content) → (path ≡ other → ⊥) → given content path new (New other) ≡ content (New other)
given_elsewhere content path other new differ = changed_elsewhere (λ p. content (New p)) path other new differ

pub latest_has : (fine : Option File → Type 0) (files : List (Option File)) → fine None → AllByRecursion fine files → fine (latest files)
latest_has fine [] none all = none
latest_has fine (file ∷ files) none (has, all) = has

pub among_has : {X : Type 0} (fine : X → Type 0) (xs : List X) (x : X) → IsAmong xs x → AllByRecursion fine xs → fine x
among_has fine [] x among all = absurd among
among_has fine (y ∷ ys) x (inl is) (has, all) = subst fine (sym is) has
among_has fine (y ∷ ys) x (inr among) (has, all) = among_has fine ys x among all

pub all_weaker : {X : Type 0} (fine finer : X → Type 0) (xs : List X) → ((x : X) → fine x → finer x) → AllByRecursion fine xs → AllByRecursion finer xs
all_weaker fine finer [] weaker all = tt
all_weaker fine finer (x ∷ xs) weaker (has, all) = (weaker x has, all_weaker fine finer xs weaker all)

pub all_then : {X : Type 0} (P : X → Type 0) (xs ys : List X) → AllByRecursion P xs → AllByRecursion P ys → AllByRecursion P (xs ++ ys)
all_then P [] ys none more = more
all_then P (x ∷ xs) ys (has, all) more = (has, all_then P xs ys all more)

pub after_both : (disk : Disk) (a b : List Call) → after_all disk (a ++ b) ≡ after_all (after_all disk a) b
after_both disk [] b = refl
after_both disk (call ∷ a) b = after_both (after disk call) a b

pub can_take_both : (disk : Disk) (a b : List Call) → CanTakeAll disk (a ++ b) → CanTakeAll disk a × CanTakeAll (after_all disk a) b
can_take_both disk [] b can = (tt, can)
can_take_both disk (call ∷ a) b (takes, can) = let both = can_take_both (after disk call) a b can in ((takes, both.0), both.1)

-- no call changes a file that was there before
old_kept : (call : Call) (disk : Disk) (path : List ℕ) → (after disk call).content (Old path) ≡ disk.content (Old path)
old_kept (Create other) disk path = refl
old_kept (CreateDir other) disk path = refl
old_kept (Write other bytes) disk path = refl
old_kept (SyncFile other) disk path = refl
old_kept (SyncDir other) disk path = refl
old_kept (Rename from to) disk path = refl
old_kept (Remove other) disk path = refl

pub olds_kept : (calls : List Call) (disk : Disk) (path : List ℕ) → (after_all disk calls).content (Old path) ≡ disk.content (Old path)
olds_kept [] disk path = refl
olds_kept (call ∷ calls) disk path = olds_kept calls (after disk call) path ∙ old_kept call disk path

-- a call keeps P
abbrev pub Keeps : (Disk → Type 0) → Call → Type 0
Keeps P call = (disk : Disk) → P disk → P (after disk call)

pub run_keep : (P : Disk → Type 0) (calls : List Call) (disk : Disk) → AllByRecursion (Keeps P) calls → P disk → P (after_all disk calls)
run_keep P [] disk keep has = has
run_keep P (call ∷ calls) disk (keeps, keep) has = run_keep P calls (after disk call) keep (keeps disk has)

pub all_keep : (P : Disk → Type 0) (calls made : List Call) (disk : Disk) → AllByRecursion (Keeps P) calls → AreAll made calls → P disk → P (after_all disk made)
all_keep P [] made disk keep none has = subst (λ m. P (after_all disk m)) (sym none) has
all_keep P (call ∷ calls) made disk (keeps, keep) (inl (rest, is, all)) has = subst (λ m. P (after_all disk m)) (sym is) (all_keep P calls rest (after disk call) keep all (keeps disk has))
all_keep P (call ∷ calls) made disk (keeps, keep) (inr (removal, all)) has = all_keep P calls made disk keep all has

pub first_keep : (P : Disk → Type 0) (calls made : List Call) (disk : Disk) → AllByRecursion (Keeps P) calls → AreFirst made calls → P disk → P (after_all disk made)
first_keep P [] made disk keep none has = subst (λ m. P (after_all disk m)) (sym none) has
first_keep P (call ∷ calls) made disk keep (inl none) has = subst (λ m. P (after_all disk m)) (sym none) has
first_keep P (call ∷ calls) made disk (keeps, keep) (inr (inl (rest, is, first))) has = subst (λ m. P (after_all disk m)) (sym is) (first_keep P calls rest (after disk call) keep first (keeps disk has))
first_keep P (call ∷ calls) made disk (keeps, keep) (inr (inr (removal, first))) has = first_keep P calls made disk keep first has

-- ---- what a sync of a directory leaves of a name

pub synced_has : (fine : Option File → Type 0) (b : Bool) (files : List (Option File)) → fine None → AllByRecursion fine files → AllByRecursion fine (if b then latest files ∷ [] else files)
synced_has fine true files none all = (latest_has fine files none all, tt)
synced_has fine false files none all = all

pub synced_one : (b : Bool) (names : List (Option File)) (file : Option File) → names ≡ file ∷ [] → (if b then latest names ∷ [] else names) ≡ file ∷ []
synced_one true names file is = ap (λ n. latest n ∷ []) is
synced_one false names file is = is

pub latest_synced : (b : Bool) (names : List (Option File)) (file : Option File) → latest names ≡ file → latest (if b then latest names ∷ [] else names) ≡ file
latest_synced true names file is = is
latest_synced false names file is = is

-- ---- what is read after a crash

-- a file of which all bytes are on the device, with what there was of it at its last sync
abbrev pub on_device : List ℕ → Option (List ℕ) → Content
on_device bytes kept = record { bytes = bytes; synced = true; kept = kept }

-- a file of which all bytes are synced
abbrev pub whole : List ℕ → Content
whole bytes = on_device bytes (Some bytes)

pub read_synced : (content : File → Content) (file : File) (bytes : List ℕ) (kept : Option (List ℕ)) (left : Option (List ℕ)) → content file ≡ on_device bytes kept → MayRead content (Some file) left → left ≡ Some bytes
read_synced content file bytes kept left is (read, gives, synced, first) = gives ∙ ap (λ r. Some r) (synced (ap (λ c. c.synced) is) ∙ ap (λ c. c.bytes) is)

-- a file of before
pub read_old : (content : File → Content) (other : List ℕ) (file : Option (List ℕ)) (left : Option (List ℕ)) → content (Old other) ≡ whole (unwrap_or file [])
    → MayRead content (option_map (λ _. Old other) file) left → left ≡ file
read_old content other None left is read = read
read_old content other (Some old) left is read = read_synced content (Old other) old (Some old) left is read

pub read_among : (content : File → Content) (names : List (Option File)) (one file : Option File) (left : Option (List ℕ)) → names ≡ one ∷ [] → IsAmong names file → MayRead content file left → MayRead content one left
read_among content names one file left is among read = among_has (λ f. MayRead content f left → MayRead content one left) names file among (subst (AllByRecursion (λ f. MayRead content f left → MayRead content one left)) (sym is) ((λ r. r), tt)) read

pub left_as_before : (before : Standing) (leads : List ℕ → Option File) (left : Standing) → MayLeave (disk_of before) leads left → (path : List ℕ) → left path ≡ before path
left_as_before before leads left leaves path =
    let disk = disk_of before in
    read_old disk.content path (before path) (left path) refl (read_among disk.content (disk.names path) (option_map (λ _. Old path) (before path)) (leads path) (left path) refl (leaves path).0 (leaves path).1)

pub leads_as_before : (before : Standing) (leads : List ℕ → Option File) (left : Standing) → MayLeave (disk_of before) leads left → (path : List ℕ) → leads path ≡ option_map (λ _. Old path) (before path)
leads_as_before before leads left leaves path =
    let stood : Option File = option_map (λ _. Old path) (before path) in
    among_has (λ f. f ≡ stood) ((disk_of before).names path) (leads path) (leaves path).0 (refl, tt)

is_there : Option File → Bool
is_there None = false
is_there (Some file) = true

-- where a path leads to nothing, nothing was there
pub not_there : (standing : Option (List ℕ)) (path : List ℕ) → option_map (λ _. Old path) standing ≡ None → standing ≡ None
unfolding is_there
not_there None path is = refl
not_there (Some bytes) path is = absurd (true≢false (ap is_there is))
