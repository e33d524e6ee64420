-- Which remarks hold of a log, by the remark on each.
use Rattle.std.proofs.Common.{◌≡◌, ℕ, zero, suc, ◌<◌, ◌^◌, Bool, true, false, List, [], ◌∷◌, Option, Some, None, arith, inl, inr, refl, sym, ap, subst, ◌∙◌}
use Rattle.std.specs.Option.{option_map}
use Rattle.std.specs.Prelude.{◌⊎◌, ◌≢◌, ◌==◌, ◌&&◌, if◌then◌else◌, nat_lt, not}
use Rattle.std.proofs.lemmas.Bool.{ltb-true, lt-ltb, ne_eqb}
use Rattle.wal_log.specs.Inputs.{following}
use Rattle.wal_survey.specs.declared.references.UnboundReference.{UnboundReference}
use Rattle.inspect_files.specs.declared.files.FileSurvey.{FileSurvey}
use Rattle.inspect_files.specs.declared.inspection.Inspection.{Inspection}
use Rattle.inspect_command.specs.declared.remarks.Remark.{Remark}
use Rattle.inspect_command.specs.declared.remarks.Remark.TheVariants.{EmptyCheckpoint, NoLog, NoneBehind, PassedOver, SegmentsMissing, UnboundReferences}
use Rattle.inspect_command.specs.Remarks.{HoldsOfLog, are_read, first_segment, has_checkpoint_file}
use Rattle.inspect_command.specs.Remarking.{checkpoint_remark, first_remark, log_remark, passed_remark, remark_on, unbound_remark}
use Rattle.inspect_command.proofs.OnFile.{same_remark}

-- a number that is not 0
eqb_positive : (n : ℕ) → (n == 0) ≡ false → 0 < n
eqb_positive zero e = absurd (let k : true ≡ false = e in cc)
eqb_positive (suc n) e = omega arith

of_lower : (i : Inspection) (first : ℕ) (r : Remark) (any b : Bool) → first_segment i.files.items ≡ Some first → i.is_wbl ≡ any → nat_lt (following i.checkpoint) first ≡ b
    → (if not any && b then Some (SegmentsMissing (following i.checkpoint) first) else None) ≡ Some r → HoldsOfLog i r
of_lower i first r false true at from lower is =
    subst (HoldsOfLog i) (same_remark (SegmentsMissing (following i.checkpoint) first) r is) (at, refl, ltb-true (following i.checkpoint) first lower, from)
of_lower i first r false false at from lower is = absurd (let k : None ≡ Some r = is in cc)
of_lower i first r true b at from lower is = absurd (let k : None ≡ Some r = is in cc)

of_none : (i : Inspection) (r : Remark) (b : Bool) → i.files.items ≢ [] → first_segment i.files.items ≡ None → nat_lt (following i.checkpoint) (2 ^ 64) ≡ b
    → (if b then Some (NoneBehind (following i.checkpoint)) else None) ≡ Some r → HoldsOfLog i r
of_none i r true some at next is = subst (HoldsOfLog i) (same_remark (NoneBehind (following i.checkpoint)) r is) (some, at, refl, ltb-true (following i.checkpoint) (2 ^ 64) next)
of_none i r false some at next is = absurd (let k : None ≡ Some r = is in cc)

of_first : (i : Inspection) (first : Option ℕ) (r : Remark) → i.files.items ≢ [] → first_segment i.files.items ≡ first → first_remark (following i.checkpoint) i.is_wbl first ≡ Some r → HoldsOfLog i r
of_first i None r some at is = of_none i r (nat_lt (following i.checkpoint) (2 ^ 64)) some at refl is
of_first i (Some first) r some at is = of_lower i first r i.is_wbl (nat_lt (following i.checkpoint) first) at refl refl is

of_files : (i : Inspection) (files : List FileSurvey) (r : Remark) → i.files.items ≡ files → remark_on files i.checkpoint i.has_wal i.is_wbl ≡ Some r → HoldsOfLog i r
of_files i [] r none is = subst (HoldsOfLog i) (same_remark (NoLog i.has_wal) r is) (none, refl)
of_files i (f ∷ more) r some is = of_first i (first_segment (f ∷ more)) r (λ none. (let k : f ∷ more ≡ [] = sym some ∙ none in cc)) (ap first_segment some) is

-- the remark on a log holds of it
pub log_holds : (i : Inspection) (r : Remark) → log_remark i ≡ Some r → HoldsOfLog i r
log_holds i r is = of_files i i.files.items r refl is

with_first : (files : List FileSurvey) (checkpoint : Option ℕ) (has_wal : Bool) (first : ℕ) → first_segment files ≡ Some first → following checkpoint < first → remark_on files checkpoint has_wal false ≡ Some (SegmentsMissing (following checkpoint) first)
with_first [] checkpoint has_wal first at lower = absurd (let k : None ≡ Some first = at in cc)
with_first (f ∷ more) checkpoint has_wal first at lower =
    ap (first_remark (following checkpoint) false) at ∙ ap (λ (b : Bool). if b then Some (SegmentsMissing (following checkpoint) first) else None) (lt-ltb (following checkpoint) first lower)

without_first : (files : List FileSurvey) (checkpoint : Option ℕ) (has_wal any : Bool) → files ≢ [] → first_segment files ≡ None → following checkpoint < 2 ^ 64 → remark_on files checkpoint has_wal any ≡ Some (NoneBehind (following checkpoint))
without_first [] checkpoint has_wal any some at next = absurd (some refl)
without_first (f ∷ more) checkpoint has_wal any some at next =
    ap (first_remark (following checkpoint) any) at ∙ ap (λ (b : Bool). if b then Some (NoneBehind (following checkpoint)) else None) (lt-ltb (following checkpoint) (2 ^ 64) next)

-- the remark on the checkpoint's directory holds of the log
pub checkpoint_holds : (i : Inspection) (r : Remark) → checkpoint_remark i.checkpoint i.files.items ≡ Some r → HoldsOfLog i r
checkpoint_holds i r is = by i.checkpoint refl is where
  by_files : (n : ℕ) (b : Bool) → i.checkpoint ≡ Some n → has_checkpoint_file i.files.items ≡ b → (if b then None else Some (EmptyCheckpoint n)) ≡ Some r → HoldsOfLog i r
  by_files n true at none e = absurd (let k : None ≡ Some r = e in cc)
  by_files n false at none e = subst (HoldsOfLog i) (same_remark (EmptyCheckpoint n) r e) (at, none)

  by : (checkpoint : Option ℕ) → i.checkpoint ≡ checkpoint → checkpoint_remark checkpoint i.files.items ≡ Some r → HoldsOfLog i r
  by None at e = absurd (let k : None ≡ Some r = e in cc)
  by (Some n) at e = by_files n (has_checkpoint_file i.files.items) at refl e

-- the remark on references that are not bound holds of the log
pub unbound_holds : (i : Inspection) (r : Remark) → unbound_remark i.unbound i.is_wbl i.files.items ≡ Some r → HoldsOfLog i r
unbound_holds i r is = by i.is_wbl i.unbound.first refl refl is where
  by : (elsewhere : Bool) (found : Option UnboundReference) → i.is_wbl ≡ elsewhere → i.unbound.first ≡ found
      → (if elsewhere then None else option_map (λ first. UnboundReferences i.unbound.references first (are_read i.files.items)) found) ≡ Some r → HoldsOfLog i r
  by true found own at e = absurd (let k : None ≡ Some r = e in cc)
  by false None own at e = absurd (let k : None ≡ Some r = e in cc)
  by false (Some first) own at e = subst (HoldsOfLog i) (same_remark (UnboundReferences i.unbound.references first (are_read i.files.items)) r e) (refl, at, refl, own)

-- the remark on segments that are not past the checkpoint holds of the log
pub passed_holds : (i : Inspection) (r : Remark) → passed_remark i.passed_over ≡ Some r → HoldsOfLog i r
passed_holds i r is = by (i.passed_over == 0) refl is where
  by : (b : Bool) → (i.passed_over == 0) ≡ b → (if b then None else Some (PassedOver i.passed_over)) ≡ Some r → HoldsOfLog i r
  by true none e = absurd (let k : None ≡ Some r = e in cc)
  by false some e = subst (HoldsOfLog i) (same_remark (PassedOver i.passed_over) r e) (refl, eqb_positive i.passed_over some)

-- a remark that holds of a log is that on its files, on its checkpoint's directory, on segments that are passed over, or on its references
abbrev pub IsToldOfLog : Inspection → Remark → Type 0
IsToldOfLog i r = (log_remark i ≡ Some r) ⊎ ((checkpoint_remark i.checkpoint i.files.items ≡ Some r) ⊎ ((passed_remark i.passed_over ≡ Some r) ⊎ (unbound_remark i.unbound i.is_wbl i.files.items ≡ Some r)))

pub log_told : (i : Inspection) (r : Remark) → HoldsOfLog i r → IsToldOfLog i r
log_told i (NoLog has_wal) (none, is) = inl (ap (λ files. remark_on files i.checkpoint i.has_wal i.is_wbl) none ∙ ap (λ (b : Bool). Some (NoLog b)) (sym is))
log_told i (SegmentsMissing from first) (at, is, lower, own) =
    inl (ap (λ (any : Bool). remark_on i.files.items i.checkpoint i.has_wal any) own ∙ with_first i.files.items i.checkpoint i.has_wal first at (subst (λ (n : ℕ). n < first) is lower) ∙ ap (λ (n : ℕ). Some (SegmentsMissing n first)) (sym is))
log_told i (NoneBehind next) (some, at, is, below) =
    inl (without_first i.files.items i.checkpoint i.has_wal i.is_wbl some at (subst (λ (n : ℕ). n < 2 ^ 64) is below) ∙ ap (λ (n : ℕ). Some (NoneBehind n)) (sym is))
log_told i (EmptyCheckpoint checkpoint) (at, none) =
    inr (inl (ap (λ (c : Option ℕ). checkpoint_remark c i.files.items) at ∙ ap (λ (b : Bool). if b then None else Some (EmptyCheckpoint checkpoint)) none))
log_told i (PassedOver segments) (is, some) =
    inr (inr (inl (ap passed_remark (sym is) ∙ ap (λ (b : Bool). if b then None else Some (PassedOver segments)) (ne_eqb segments 0 (λ none. omega (arith, some, none))))))
log_told i (UnboundReferences references first all_read) (is, at, read, own) =
    inr (inr (inr (ap (λ (elsewhere : Bool). unbound_remark i.unbound elsewhere i.files.items) own ∙ ap (λ found. option_map (λ f. UnboundReferences i.unbound.references f (are_read i.files.items)) found) at ∙ ap (λ (n : ℕ). Some (UnboundReferences n first (are_read i.files.items))) (sym is) ∙ ap (λ (b : Bool). Some (UnboundReferences references first b)) (sym read))))
log_told i other h = absurd h
