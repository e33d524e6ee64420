-- The list of remarks: which are in it, and in which order.
use Rattle.std.proofs.Common.{◌≡◌, ℕ, zero, suc, ◌+◌, ◌<◌, ◌≤◌, ◌^◌, Bool, true, false, List, [], ◌∷◌, ◌++◌, append_assoc, drop, get_or, length-drop, Option, Some, None, arith, inl, inr, length, refl, sym, ap, subst, ◌∙◌}
use Rattle.std.specs.Option.{option_map}
use Rattle.std.specs.Prelude.{◌↔◌, ◌==◌, ◌&&◌, Contains, if◌then◌else◌, nat_lt, not, slice_get, slice_index_or}
use Rattle.std.proofs.Math.Seq.{drop-cons}
use Rattle.std.proofs.lemmas.List.{append-nil, nil_from_length}
use Rattle.std.proofs.lemmas.List.Elements.{Contains-append_cases, Contains-append_left, Contains-append_right}
use Rattle.wal_log.specs.Inputs.{following}
use Rattle.wal_survey.specs.declared.references.UnboundReference.{UnboundReference}
use Rattle.inspect_files.specs.declared.files.FileSurvey.{FileSurvey}
use Rattle.inspect_files.specs.declared.inspection.Inspection.{Inspection}
use Rattle.answers.specs.declared.fault.Status.{Status}
use Rattle.inspect_command.specs.declared.remarks.Remark.{Remark}
use Rattle.inspect_command.specs.declared.remarks.Remark.TheVariants.{EmptyCheckpoint, NoLog, NoneBehind, PassedOver, SegmentsMissing, UnboundReferences}
use Rattle.inspect_command.specs.Statuses.{IsStatusOf}
use Rattle.inspect_command.specs.Remarks.{AreInOrder, AreOnEach, Holds, HoldsAndIs, HoldsBelow, HoldsOfFile, IsAtMostOne, IsOnCheckpoint, IsOnContents, IsOnFiles, IsOnNumber, IsOnPassedOver, IsOnReferences, IsOnUnread, are_read, first_segment, has_checkpoint_file, hides_records}
use Rattle.inspect_command.specs.Remarking.{checkpoint_remark, file_remarks, first_remark, found_remark, log_remark, number_remark, own_remarks, passed_remark, remark_on, some_of, unbound_remark, unread_remark}
use Rattle.inspect_command.proofs.Conditions.{checkpoint_holds, log_holds, log_told, passed_holds, unbound_holds}
use Rattle.inspect_command.proofs.OnFile.{file_told, found_holds, number_holds, same_remark, unread_holds}

-- all remarks on a log
abbrev pub all_remarks : Inspection → List Remark
all_remarks i = some_of (log_remark i) ++ (some_of (checkpoint_remark i.checkpoint i.files.items) ++ (some_of (passed_remark i.passed_over) ++ (file_remarks i.files.items ++ some_of (unbound_remark i.unbound i.is_wbl i.files.items))))

-- ---- which are in it

-- no remark is among none
pub none_contained : (none : List Remark) (r : Remark) → none ≡ [] → Contains none r → ⊥
none_contained none r empty (k, within, is) = omega (arith, ap length empty, within)

in_some : (o : Option Remark) (r : Remark) → Contains (some_of o) r → o ≡ Some r
in_some None r h = absurd (none_contained [] r refl h)
in_some (Some x) r (k, within, is) = (let z : k ≡ 0 = omega (arith, within) in ap Some (subst (λ (j : ℕ). slice_index_or (x ∷ []) j r ≡ r) z is))

of_some : (o : Option Remark) (r : Remark) → o ≡ Some r → Contains (some_of o) r
of_some o r is = subst (λ (p : Option Remark). Contains (some_of p) r) (sym is) (0, omega arith, refl)

-- a remark on a file after the first
below_later : (f : FileSurvey) (later : List FileSurvey) (r : Remark) → HoldsBelow (length later) later r → HoldsBelow (length (f ∷ later)) (f ∷ later) r
below_later f later r (k, g, below, at, holds) =
    let next : suc k + 1 ≡ suc (k + 1) = omega arith in
    (suc k, g, omega (arith, below), at, subst (λ (n : ℕ). HoldsOfFile g (drop n (f ∷ later)) r) (sym next) holds)

own_contained : (f : FileSurvey) (later : List FileSurvey) (r : Remark) → Contains (own_remarks f later) r → HoldsOfFile f later r
own_contained f later r h =
    let found = some_of (found_remark f later) in
    let behind = some_of (number_remark f later) in
    elim (Contains-append_cases (some_of (unread_remark f)) (found ++ behind) r h) as (λ _. HoldsOfFile f later r) [
      | inl k ↦ (unread_holds f later r (in_some (unread_remark f) r k)).0
      | inr k ↦ elim (Contains-append_cases found behind r k) as (λ _. HoldsOfFile f later r) [
        | inl k ↦ (found_holds f later r (in_some (found_remark f later) r k)).0
        | inr k ↦ (number_holds f later r (in_some (number_remark f later) r k)).0
      ]
    ]

contains_own : (f : FileSurvey) (later : List FileSurvey) (r : Remark) → HoldsOfFile f later r → Contains (own_remarks f later) r
contains_own f later r h =
    let unread = some_of (unread_remark f) in
    let found = some_of (found_remark f later) in
    let behind = some_of (number_remark f later) in
    elim (file_told f later r h) as (λ _. Contains (own_remarks f later) r) [
      | inl k ↦ Contains-append_left unread (found ++ behind) r (of_some (unread_remark f) r k)
      | inr k ↦ Contains-append_right unread (found ++ behind) r (elim k as (λ _. Contains (found ++ behind) r) [
        | inl k ↦ Contains-append_left found behind r (of_some (found_remark f later) r k)
        | inr k ↦ Contains-append_right found behind r (of_some (number_remark f later) r k)
      ])
    ]

file_contained : (files : List FileSurvey) (r : Remark) → Contains (file_remarks files) r → HoldsBelow (length files) files r
file_contained [] r h = absurd (none_contained [] r refl h)
file_contained (f ∷ later) r h = elim (Contains-append_cases (own_remarks f later) (file_remarks later) r h) as (λ _. HoldsBelow (length (f ∷ later)) (f ∷ later) r) [
  | inl k ↦ (0, f, omega arith, refl, own_contained f later r k)
  | inr k ↦ below_later f later r (file_contained later r k)
]

contains_file : (files : List FileSurvey) (r : Remark) (k : ℕ) (g : FileSurvey) → k < length files → slice_get files k ≡ Some g → HoldsOfFile g (drop (k + 1) files) r → Contains (file_remarks files) r
contains_file [] r k g below at holds = absurd (omega (arith, below))
contains_file (f ∷ later) r zero g below at holds =
    let same : f ≡ g = cc in
    Contains-append_left (own_remarks f later) (file_remarks later) r (contains_own f later r (subst (λ (h : FileSurvey). HoldsOfFile h later r) (sym same) holds))
contains_file (f ∷ later) r (suc k) g below at holds =
    let next : suc k + 1 ≡ suc (k + 1) = omega arith in
    Contains-append_right (own_remarks f later) (file_remarks later) r (contains_file later r k g (omega (arith, below)) at (subst (λ (n : ℕ). HoldsOfFile g (drop n (f ∷ later)) r) next holds))

-- the remarks of the list hold
pub all_hold : (i : Inspection) (r : Remark) → Contains (all_remarks i) r → Holds i r
all_hold i r h =
    let on_log = some_of (log_remark i) in
    let on_checkpoint = some_of (checkpoint_remark i.checkpoint i.files.items) in
    let on_passed = some_of (passed_remark i.passed_over) in
    let on_each = file_remarks i.files.items in
    let on_references = some_of (unbound_remark i.unbound i.is_wbl i.files.items) in
    elim (Contains-append_cases on_log (on_checkpoint ++ (on_passed ++ (on_each ++ on_references))) r h) as (λ _. Holds i r) [
      | inl k ↦ inl (log_holds i r (in_some (log_remark i) r k))
      | inr k ↦ elim (Contains-append_cases on_checkpoint (on_passed ++ (on_each ++ on_references)) r k) as (λ _. Holds i r) [
        | inl k ↦ inl (checkpoint_holds i r (in_some (checkpoint_remark i.checkpoint i.files.items) r k))
        | inr k ↦ elim (Contains-append_cases on_passed (on_each ++ on_references) r k) as (λ _. Holds i r) [
          | inl k ↦ inl (passed_holds i r (in_some (passed_remark i.passed_over) r k))
          | inr k ↦ elim (Contains-append_cases on_each on_references r k) as (λ _. Holds i r) [
            | inl k ↦ inr (file_contained i.files.items r k)
            | inr k ↦ inl (unbound_holds i r (in_some (unbound_remark i.unbound i.is_wbl i.files.items) r k))
          ]
        ]
      ]
    ]

-- and those that hold are in the list
pub all_contained : (i : Inspection) (r : Remark) → Holds i r → Contains (all_remarks i) r
all_contained i r h =
    let on_log = some_of (log_remark i) in
    let on_checkpoint = some_of (checkpoint_remark i.checkpoint i.files.items) in
    let on_passed = some_of (passed_remark i.passed_over) in
    let on_each = file_remarks i.files.items in
    let on_references = some_of (unbound_remark i.unbound i.is_wbl i.files.items) in
    let past_passed : Contains (on_each ++ on_references) r → Contains (all_remarks i) r = λ k.
    Contains-append_right on_log (on_checkpoint ++ (on_passed ++ (on_each ++ on_references))) r (Contains-append_right on_checkpoint (on_passed ++ (on_each ++ on_references)) r (Contains-append_right on_passed (on_each ++ on_references) r k)) in
    elim h as (λ _. Contains (all_remarks i) r) [
      | inl k ↦ elim (log_told i r k) as (λ _. Contains (all_remarks i) r) [
        | inl k ↦ Contains-append_left on_log (on_checkpoint ++ (on_passed ++ (on_each ++ on_references))) r (of_some (log_remark i) r k)
        | inr k ↦ elim k as (λ _. Contains (all_remarks i) r) [
          | inl k ↦ Contains-append_right on_log (on_checkpoint ++ (on_passed ++ (on_each ++ on_references))) r (Contains-append_left on_checkpoint (on_passed ++ (on_each ++ on_references)) r (of_some (checkpoint_remark i.checkpoint i.files.items) r k))
          | inr k ↦ elim k as (λ _. Contains (all_remarks i) r) [
            | inl k ↦
                Contains-append_right on_log (on_checkpoint ++ (on_passed ++ (on_each ++ on_references))) r
                (Contains-append_right on_checkpoint (on_passed ++ (on_each ++ on_references)) r (Contains-append_left on_passed (on_each ++ on_references) r (of_some (passed_remark i.passed_over) r k)))
            | inr k ↦ past_passed (Contains-append_right on_each on_references r (of_some (unbound_remark i.unbound i.is_wbl i.files.items) r k))
          ]
        ]
      ]
      | inr (k, g, below, at, holds) ↦ past_passed (Contains-append_left on_each on_references r (contains_file i.files.items r k g below at holds))
    ]

-- ---- in which order

one_of : (P : Remark → Type 0) (o : Option Remark) → ((r : Remark) → o ≡ Some r → P r) → IsAtMostOne P (some_of o)
one_of P None h = tt
one_of P (Some r) h = h r refl

on_each : (files : List FileSurvey) → AreOnEach files (file_remarks files)
on_each [] = refl
on_each (f ∷ later) =
    let unread = some_of (unread_remark f) in
    let found = some_of (found_remark f later) in
    let behind = some_of (number_remark f later) in
    let others = file_remarks later in (
      unread,
      found,
      behind,
      others,
      append_assoc unread (found ++ behind) others ∙ ap (λ (l : List Remark). unread ++ l) (append_assoc found behind others),
      one_of (HoldsAndIs IsOnUnread f later) (unread_remark f) (unread_holds f later),
      one_of (HoldsAndIs IsOnContents f later) (found_remark f later) (found_holds f later),
      one_of (HoldsAndIs IsOnNumber f later) (number_remark f later) (number_holds f later),
      on_each later,
    )

is_lower : (from first : ℕ) (b : Bool) (r : Remark) → (if b then Some (SegmentsMissing from first) else None) ≡ Some r → IsOnFiles r
is_lower from first true r is = subst IsOnFiles (same_remark (SegmentsMissing from first) r is) tt
is_lower from first false r is = absurd (let k : None ≡ Some r = is in cc)

is_none_behind : (from : ℕ) (b : Bool) (r : Remark) → (if b then Some (NoneBehind from) else None) ≡ Some r → IsOnFiles r
is_none_behind from true r is = subst IsOnFiles (same_remark (NoneBehind from) r is) tt
is_none_behind from false r is = absurd (let k : None ≡ Some r = is in cc)

is_first : (from : ℕ) (any : Bool) (first : Option ℕ) (r : Remark) → first_remark from any first ≡ Some r → IsOnFiles r
is_first from any None r is = is_none_behind from (nat_lt from (2 ^ 64)) r is
is_first from any (Some first) r is = is_lower from first (not any && nat_lt from first) r is

is_on_files : (files : List FileSurvey) (checkpoint : Option ℕ) (has_wal any : Bool) (r : Remark) → remark_on files checkpoint has_wal any ≡ Some r → IsOnFiles r
is_on_files [] checkpoint has_wal any r is = subst IsOnFiles (same_remark (NoLog has_wal) r is) tt
is_on_files (f ∷ more) checkpoint has_wal any r is = is_first (following checkpoint) any (first_segment (f ∷ more)) r is

is_on_checkpoint : (checkpoint : Option ℕ) (files : List FileSurvey) (r : Remark) → checkpoint_remark checkpoint files ≡ Some r → IsOnCheckpoint r
is_on_checkpoint None files r is = absurd (let k : None ≡ Some r = is in cc)
is_on_checkpoint (Some n) files r is = by (has_checkpoint_file files) is where
  by : (b : Bool) → (if b then None else Some (EmptyCheckpoint n)) ≡ Some r → IsOnCheckpoint r
  by true e = absurd (let k : None ≡ Some r = e in cc)
  by false e = subst IsOnCheckpoint (same_remark (EmptyCheckpoint n) r e) tt

is_on_passed : (segments : ℕ) (b : Bool) (r : Remark) → (if b then None else Some (PassedOver segments)) ≡ Some r → IsOnPassedOver r
is_on_passed segments true r is = absurd (let k : None ≡ Some r = is in cc)
is_on_passed segments false r is = subst IsOnPassedOver (same_remark (PassedOver segments) r is) tt

is_on_references : (references : ℕ) (read elsewhere : Bool) (found : Option UnboundReference) (r : Remark) → (if elsewhere then None else option_map (λ first. UnboundReferences references first read) found) ≡ Some r → IsOnReferences r
is_on_references references read true found r is = absurd (let k : None ≡ Some r = is in cc)
is_on_references references read false None r is = absurd (let k : None ≡ Some r = is in cc)
is_on_references references read false (Some first) r is = subst IsOnReferences (same_remark (UnboundReferences references first read) r is) tt

-- the list is in order
pub all_in_order : (i : Inspection) → AreInOrder i.files.items (all_remarks i)
all_in_order i = record {
  on_files = some_of (log_remark i);
  on_checkpoint = some_of (checkpoint_remark i.checkpoint i.files.items);
  on_passed_over = some_of (passed_remark i.passed_over);
  on_each = file_remarks i.files.items;
  on_references = some_of (unbound_remark i.unbound i.is_wbl i.files.items);
  all = refl;
  files_first = one_of IsOnFiles (log_remark i) (is_on_files i.files.items i.checkpoint i.has_wal i.is_wbl);
  then_checkpoint = one_of IsOnCheckpoint (checkpoint_remark i.checkpoint i.files.items) (is_on_checkpoint i.checkpoint i.files.items);
  then_passed_over = one_of IsOnPassedOver (passed_remark i.passed_over) (is_on_passed i.passed_over (i.passed_over == 0));
  then_each = on_each i.files.items;
  references_last = one_of IsOnReferences (unbound_remark i.unbound i.is_wbl i.files.items) (is_on_references i.unbound.references (are_read i.files.items) i.is_wbl i.unbound.first);
}

-- the status by the remarks that were told
pub status_told : (remarks : List Remark) (i : Inspection) (status : Status) → (status ≡ Status.Done) ↔ (remarks ≡ []) → ((remarks ≡ [] → ⊥) → status ≡ Status.Damaged) → ((r : Remark) → Contains remarks r ↔ Holds i r) → IsStatusOf i status
status_told [] i status is_done is_damaged told = inl (is_done.1 refl, λ r h. none_contained [] r refl ((told r).1 h))
status_told (r ∷ more) i status is_done is_damaged told = inr (is_damaged (λ none. omega (arith, ap length none)), r, (told r).0 (0, omega arith, refl))

-- ---- one file after another

-- the files from one on are that one and those after it
from_one : (files : List FileSurvey) (n : ℕ) (f : FileSurvey) (later : List FileSurvey) → n < length files → f ≡ get_or files n f → later ≡ drop (n + 1) files → drop n files ≡ f ∷ later
from_one files n f later within is behind =
    let next : suc n ≡ n + 1 = omega arith in
    drop-cons files n f within ∙ ap (λ (x : FileSurvey). x ∷ drop (suc n) files) (sym is) ∙ ap (λ (m : ℕ). f ∷ drop m files) next ∙ ap (λ (l : List FileSurvey). f ∷ l) (sym behind)

-- the remarks on one file are added
pub own_told : (unread found behind a b c d : List Remark) → b ≡ a ++ unread → c ≡ b ++ found → d ≡ c ++ behind → d ≡ a ++ (unread ++ (found ++ behind))
own_told unread found behind a b c d first second third =
    third ∙ ap (λ (l : List Remark). l ++ behind) (second ∙ ap (λ (l : List Remark). l ++ found) first) ∙ append_assoc (a ++ unread) found behind ∙ append_assoc a unread (found ++ behind)

-- the remarks on the next file are added
pub next_told : (files : List FileSurvey) (n : ℕ) (f : FileSurvey) (later : List FileSurvey) (a b all : List Remark) → n < length files → f ≡ get_or files n f → later ≡ drop (n + 1) files
    → b ≡ a ++ own_remarks f later → a ++ file_remarks (drop n files) ≡ all → b ++ file_remarks (drop (n + 1) files) ≡ all
next_told files n f later a b all within is behind made so_far =
    ap (λ (l : List Remark). l ++ file_remarks (drop (n + 1) files)) made
    ∙ append_assoc a (own_remarks f later) (file_remarks (drop (n + 1) files))
    ∙ ap (λ (l : List FileSurvey). a ++ (own_remarks f later ++ file_remarks l)) (sym behind)
    ∙ ap (λ (l : List FileSurvey). a ++ file_remarks l) (sym (from_one files n f later within is behind))
    ∙ so_far

-- the next file hides records, or none
pub next_read : (files : List FileSurvey) (n : ℕ) (f : FileSurvey) (later : List FileSurvey) (last b : Bool) → n < length files → f ≡ get_or files n f → later ≡ drop (n + 1) files → last ≡ (length later == 0)
    → b ≡ hides_records f last → are_read files ≡ are_read (drop n files) → are_read files ≡ (not b && are_read (drop (n + 1) files))
next_read files n f later last b within is behind end hides so_far =
    so_far
    ∙ ap are_read (from_one files n f later within is behind)
    ∙ ap (λ (t : Bool). not (hides_records f t) && are_read later) (sym end)
    ∙ ap (λ (t : Bool). not t && are_read later) (sym hides)
    ∙ ap (λ (l : List FileSurvey). not b && are_read l) behind

-- no file is left
pub none_left : (files : List FileSurvey) (n : ℕ) → length files ≤ n → drop n files ≡ []
none_left files n past = nil_from_length (drop n files) (omega (arith, length-drop n files, past))

pub all_told : (files : List FileSurvey) (n : ℕ) (told all : List Remark) → length files ≤ n → told ++ file_remarks (drop n files) ≡ all → told ≡ all
all_told files n told all past so_far = sym (append-nil told) ∙ ap (λ (l : List FileSurvey). told ++ file_remarks l) (sym (none_left files n past)) ∙ so_far

pub all_read : (files : List FileSurvey) (n : ℕ) → length files ≤ n → are_read files ≡ are_read (drop n files) → are_read files ≡ true
all_read files n past so_far = so_far ∙ ap are_read (none_left files n past)

-- the list that was reported
pub told_list : (i : Inspection) (files : List FileSurvey) (w x y z : Option Remark) (none a b c d e : List Remark) → files ≡ i.files.items → w ≡ log_remark i → x ≡ checkpoint_remark i.checkpoint files → y ≡ passed_remark i.passed_over
    → z ≡ unbound_remark i.unbound i.is_wbl files → none ≡ [] → a ≡ none ++ some_of w → b ≡ a ++ some_of x → c ≡ b ++ some_of y → d ≡ c ++ file_remarks files → e ≡ d ++ some_of z → e ≡ all_remarks i
told_list i files w x y z none a b c d e are log checkpoint passed unbound empty first second third each last =
    last
    ∙ ap (λ (l : List Remark). l ++ some_of z) (each ∙ ap (λ (l : List Remark). l ++ file_remarks files) (third ∙ ap (λ (l : List Remark). l ++ some_of y) (second ∙ ap (λ (l : List Remark). l ++ some_of x) (first ∙ ap (λ (l : List Remark). l ++ some_of w) empty))))
    ∙ grouped (some_of w) (some_of x) (some_of y) (file_remarks files) (some_of z)
    ∙ ap (λ (o : Option Remark). some_of o ++ (some_of x ++ (some_of y ++ (file_remarks files ++ some_of z)))) log
    ∙ ap (λ (o : Option Remark). some_of (log_remark i) ++ (some_of o ++ (some_of y ++ (file_remarks files ++ some_of z)))) checkpoint
    ∙ ap (λ (o : Option Remark). some_of (log_remark i) ++ (some_of (checkpoint_remark i.checkpoint files) ++ (some_of o ++ (file_remarks files ++ some_of z)))) passed
    ∙ ap (λ (o : Option Remark). some_of (log_remark i) ++ (some_of (checkpoint_remark i.checkpoint files) ++ (some_of (passed_remark i.passed_over) ++ (file_remarks files ++ some_of o)))) unbound
    ∙ ap (λ (l : List FileSurvey). some_of (log_remark i) ++ (some_of (checkpoint_remark i.checkpoint l) ++ (some_of (passed_remark i.passed_over) ++ (file_remarks l ++ some_of (unbound_remark i.unbound i.is_wbl l))))) are
  where
    grouped : (v w x y z : List Remark) → (((v ++ w) ++ x) ++ y) ++ z ≡ v ++ (w ++ (x ++ (y ++ z)))
    grouped v w x y z = simp append_assoc
