-- What was read up to a damage is the reading of all files of the directory.
use Rattle.std.proofs.Common.{◌≡◌, ◌≤◌, ℕ, zero, suc, ◌+◌, ◌-◌, true, false, List, [], ◌∷◌, ◌++◌, length, take, Option, Some, None, refl, sym, ap, subst, ◌∙◌, arith}
use Rattle.std.specs.List.{AllZip}
use Rattle.std.specs.Path.{path_join}
use Rattle.std.proofs.lemmas.List.{take_all}
use Rattle.wal_log.specs.declared.input.Segment.{Segment}
use Rattle.wal_log.specs.declared.reading.Damage.{Damage}
use Rattle.wal_log.specs.declared.reading.Placed.{Placed}
use Rattle.wal_log.specs.Inputs.{Files, files_in}
use Rattle.wal_log.specs.Log.{IsReading, LogFile, ReadsFiles, in_order, log_files}
use Rattle.wal_log.specs.Plan.{IsDirPlan, IsPlan, NumberedName}
use Rattle.store.specs.Views.{View}
use Rattle.log_directory.specs.Directory.{IsFileIn, IsInnerPlan, IsLogIn, IsLogPlan, IsLogUpTo, LogPlan, checkpoint_dir}
use Rattle.log_directory.proofs.UpTo.{whole_up_to}
use Rattle.headline.specs.Still.{IsStill}

-- ---- files behind a damage

-- a reading that meets damage, or that of all files, is that of all files
reads_on : (files left : List LogFile) (placed : List Placed) (damage : Option Damage) → (damage ≡ None → left ≡ []) → ReadsFiles files placed damage → ReadsFiles (files ++ left) placed damage
reads_on [] left placed damage none h = subst (λ (fs : List LogFile). ReadsFiles fs placed damage) (sym (none h.1)) h
reads_on (file ∷ more) left placed damage none (here, None, others, read, whole, later) = (here, None, others, read, whole, reads_on more left others damage none later)
reads_on (file ∷ more) left placed damage none (here, Some found, others, read, whole, later) = (here, Some found, others, read, whole, later)

-- files in the order of reading, as far as the first `count` of them
abbrev firsts : ℕ → List Segment → List Segment → List LogFile
firsts count inner segments = log_files true (take count inner) ++ log_files false (take (count - length inner) segments)

-- the others of them
pub record IsRest (count : ℕ) (inner segments : List Segment) (left : List LogFile) : Type 0 where
  pub is : firsts count inner segments ++ left ≡ log_files true inner ++ log_files false segments
  pub none : length inner + length segments ≤ count → left ≡ []

none_first : (n : ℕ) → suc n ≤ 0 → ⊥
none_first n few = omega (arith, few)

segments_rest : (count : ℕ) (segments : List Segment) → (left : List LogFile) × (log_files false (take count segments) ++ left ≡ log_files false segments) × (length segments ≤ count → left ≡ [])
segments_rest zero [] = ([], refl, λ few. refl)
segments_rest zero (s ∷ segments) = (log_files false (s ∷ segments), refl, λ few. absurd (none_first (length segments) few))
segments_rest (suc count) [] = ([], refl, λ few. refl)
segments_rest (suc count) (s ∷ segments) =
    let (left, is, none) = segments_rest count segments in
    (left, ap (λ (fs : List LogFile). record { in_checkpoint = false; segment = s } ∷ fs) is, λ few. none (omega (arith, few)))

rest_of : (count : ℕ) (inner segments : List Segment) → (left : List LogFile) × IsRest count inner segments left
rest_of zero [] segments =
    let (left, is, none) = segments_rest (0 - 0) segments in
    (left, record { is = is; none = λ few. none (omega (arith, few)) })
rest_of (suc count) [] segments =
    let (left, is, none) = segments_rest (suc count - 0) segments in
    (left, record { is = is; none = λ few. none (omega (arith, few)) })
rest_of zero (file ∷ inner) segments =
    let same : 0 ≡ 0 - suc (length inner) = omega arith in
    let all : List LogFile = log_files true (file ∷ inner) ++ log_files false segments in
    (all, record { is = ap (λ (n : ℕ). log_files false (take n segments) ++ all) (sym same); none = λ few. absurd (none_first (length inner + length segments) (omega (arith, few))) })
rest_of (suc count) (file ∷ inner) segments =
    let (left, rest) = rest_of count inner segments in
    let same : count - length inner ≡ suc count - suc (length inner) = omega arith in (
      left,
      record {
        is = ap (λ (n : ℕ). (log_files true (file ∷ take count inner) ++ log_files false (take n segments)) ++ left) (sym same)
            ∙ ap (λ (fs : List LogFile). record { in_checkpoint = true; segment = file } ∷ fs) rest.is;
        none = λ few. rest.none (omega (arith, few));
      },
    )

-- ---- one directory has one log

module _ (view : View) (still : IsStill view) where
  same_file : (dir : List ℕ) (planned : NumberedName) (first second : Segment) → IsFileIn view dir planned first → IsFileIn view dir planned second → first ≡ second
  same_file dir planned first second h k =
      let whole : ℕ → List ℕ → Segment = λ number bytes. record { number = number; bytes = bytes } in
      ap (λ (n : ℕ). whole n first.bytes) (h.0 ∙ sym k.0) ∙ ap (whole second.number) (still.bytes dir planned.name first.bytes second.bytes h.1 k.1)

  -- the first ones of some planned files are the first ones of all of them
  same_files : (dir : List ℕ) (count : ℕ) (plan : List NumberedName) (first whole : List Segment) → AllZip (IsFileIn view dir) (take count plan) first → AllZip (IsFileIn view dir) plan whole → first ≡ take count whole
  same_files dir zero plan [] whole h k = refl
  same_files dir zero plan (x ∷ xs) whole h k = absurd h
  same_files dir (suc count) [] [] [] h k = refl
  same_files dir (suc count) [] [] (y ∷ ys) h k = absurd k
  same_files dir (suc count) [] (x ∷ xs) whole h k = absurd h
  same_files dir (suc count) (p ∷ plan) [] whole h k = absurd h
  same_files dir (suc count) (p ∷ plan) (x ∷ xs) [] h k = absurd k
  same_files dir (suc count) (p ∷ plan) (x ∷ xs) (y ∷ ys) h k =
      ap (λ (s : Segment). s ∷ xs) (same_file dir p x y h.0 k.0) ∙ ap (λ (ss : List Segment). y ∷ ss) (same_files dir count plan xs ys h.1 k.1)

  as_long : (dir : List ℕ) (plan : List NumberedName) (files : List Segment) → AllZip (IsFileIn view dir) plan files → length plan ≡ length files
  as_long dir [] [] h = refl
  as_long dir [] (x ∷ xs) h = absurd h
  as_long dir (p ∷ plan) [] h = absurd h
  as_long dir (p ∷ plan) (x ∷ xs) h = ap suc (as_long dir plan xs h.1)

  module _ (one : (past : Option ℕ) (names : List (List ℕ)) (xs ys : List NumberedName) → IsPlan past names xs → IsPlan past names ys → xs ≡ ys)
      (one_dir : (names : List (List ℕ)) (a b : Option NumberedName) (xs ys : List NumberedName) → IsDirPlan names a xs → IsDirPlan names b ys → (a ≡ b) × (xs ≡ ys)) where
    same_inner : (dir : List ℕ) (newest : Option NumberedName) (first second : List NumberedName) → IsInnerPlan view dir newest first → IsInnerPlan view dir newest second → first ≡ second
    same_inner dir None first second h k = h ∙ sym k
    same_inner dir (Some c) first second h k =
        one None k.0 first second (subst (λ (names : List (List ℕ)). IsPlan None names first) (still.names (path_join dir c.name) h.0 k.0 h.1 k.1) h.2) k.2

    same_plan : (dir : List ℕ) (first second : LogPlan) → IsLogPlan view dir first → IsLogPlan view dir second → first ≡ second
    same_plan dir first second h k =
        let names = still.names dir h.names k.names h.listed k.listed in
        let same = one_dir k.names first.newest second.newest first.segments second.segments (subst (λ (ns : List (List ℕ)). IsDirPlan ns first.newest first.segments) names h.planned) k.planned in
        let inner = same_inner dir second.newest first.inner second.inner (subst (λ (c : Option NumberedName). IsInnerPlan view dir c first.inner) same.0 h.inner) k.inner in
        let whole : Option NumberedName → List NumberedName → List NumberedName → LogPlan = λ c inner segments. record { newest = c; inner = inner; segments = segments } in
        ap (λ (c : Option NumberedName). whole c first.inner first.segments) same.0 ∙ ap (λ (names : List NumberedName). whole second.newest names first.segments) inner ∙ ap (whole second.newest second.inner) same.1

    -- what was read up to a damage is the reading of all files
    pub whole_reading : (dir : List ℕ) (first whole : Files) (placed : List Placed) (damage : Option Damage) → IsLogUpTo view dir damage first → IsReading first placed damage → IsLogIn view dir whole → IsReading whole placed damage
    whole_reading dir first whole placed damage up reading all =
        let w = whole_up_to view dir None whole all in
        let plan = w.plan in
        let same = same_plan dir up.plan plan up.planned w.planned in
        let cdir = checkpoint_dir dir plan.newest in
        let few = w.all refl in
        let inner : AllZip (IsFileIn view cdir) plan.inner (files_in whole.checkpoint) = subst (λ (names : List NumberedName). AllZip (IsFileIn view cdir) names (files_in whole.checkpoint)) (take_all w.count plan.inner (omega (arith, few))) w.inner in
        let segments : AllZip (IsFileIn view dir) plan.segments whole.segments = subst (λ (names : List NumberedName). AllZip (IsFileIn view dir) names whole.segments) (take_all (w.count - length plan.inner) plan.segments (omega (arith, few))) w.segments in
        let first_inner : AllZip (IsFileIn view cdir) (take up.count plan.inner) (files_in first.checkpoint) =
        subst (λ (p : LogPlan). AllZip (IsFileIn view (checkpoint_dir dir p.newest)) (take up.count p.inner) (files_in first.checkpoint)) same up.inner in
        let first_segments : AllZip (IsFileIn view dir) (take (up.count - length plan.inner) plan.segments) first.segments =
        subst (λ (p : LogPlan). AllZip (IsFileIn view dir) (take (up.count - length p.inner) p.segments) first.segments) same up.segments in
        let long = as_long cdir plan.inner (files_in whole.checkpoint) inner in
        let long_segments = as_long dir plan.segments whole.segments segments in
        let ins = same_files cdir up.count plan.inner (files_in first.checkpoint) (files_in whole.checkpoint) first_inner inner in
        let segs = same_files dir (up.count - length plan.inner) plan.segments first.segments whole.segments first_segments segments
        ∙ ap (λ (n : ℕ). take (up.count - n) whole.segments) long in
        let (left, rest) = rest_of up.count (files_in whole.checkpoint) whole.segments in
        let is : in_order first ++ left ≡ in_order whole =
        ap (λ (ss : List Segment). (log_files true ss ++ log_files false first.segments) ++ left) ins
        ∙ ap (λ (ss : List Segment). (log_files true (take up.count (files_in whole.checkpoint)) ++ log_files false ss) ++ left) segs ∙ rest.is in
        let at_end : damage ≡ None → length up.plan.inner + length up.plan.segments ≤ up.count = up.all in
        let ended : damage ≡ None → length plan.inner + length plan.segments ≤ up.count = subst (λ (p : LogPlan). damage ≡ None → length p.inner + length p.segments ≤ up.count) same at_end in
        subst (λ (fs : List LogFile). ReadsFiles fs placed damage) is
        (reads_on (in_order first) left placed damage (λ none. rest.none (let few = ended none in omega (arith, few, long, long_segments))) reading)
