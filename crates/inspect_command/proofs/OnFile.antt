-- Which remarks hold of a file, by the remark on each.
use Rattle.std.proofs.Common.{◌≡◌, ℕ, ◌+◌, ◌-◌, ◌<◌, Bool, true, false, List, [], Option, Some, None, arith, inl, inr, length, refl, sym, ap, subst, ◌∙◌}
use Rattle.std.specs.Option.{option_map}
use Rattle.std.specs.Prelude.{◌⊎◌, ◌≢◌, ◌==◌, ◌&&◌, if◌then◌else◌, nat_lt, not, slice_get}
use Rattle.std.proofs.lemmas.Bool.{eq-eqb, eqb-true, ltb-true, lt-ltb, ne_eqb}
use Rattle.std.proofs.lemmas.List.{nil_from_length}
use Rattle.wal_page.specs.declared.fault.FaultKind.TheVariants as kind
use Rattle.wal_unpack.specs.declared.fault.UnpackDamage.{UnpackDamage}
use Rattle.wal_unpack.specs.declared.fault.UnpackFault.{UnpackFault}
use Rattle.wal_unpack.specs.declared.fault.UnpackFault.TheVariants.{InFile}
use Rattle.wal_survey.specs.declared.records.Readable.{Readable}
use Rattle.inspect_files.specs.declared.files.FileSurvey.{FileSurvey}
use Rattle.store.specs.declared.store.Unread.{Unread as UnreadPart}
use Rattle.inspect_command.specs.declared.remarks.FileDamage.{FileDamage}
use Rattle.inspect_command.specs.declared.remarks.NumberedFile.{NumberedFile}
use Rattle.inspect_command.specs.declared.remarks.Remark.{Remark}
use Rattle.inspect_command.specs.declared.remarks.Remark.TheVariants.{Damaged, Empty, EmptyCheckpoint, Gap, NoLog, NoneBehind, PassedOver, SameNumber, SegmentsMissing, TornEnd, UnboundReferences, Unread, Zeros}
use Rattle.inspect_command.specs.Remarks.{HoldsAndIs, HoldsOfFile, IsDamageOf, IsOnContents, IsOnNumber, IsOnUnread, file_of, has_checkpoint_file, is_torn, next_number}
use Rattle.inspect_command.specs.Remarking.{behind_remark, blank_remark, damage_of, damage_remark, empty_remark, found_remark, gap_remark, number_remark, remark_by, unread_remark}

-- the remark in an option
pub same_remark : (a b : Remark) → Some a ≡ Some b → a ≡ b
same_remark a b is = cc

-- whether there are files
none_later : {A : Type 0} (later : List A) → (length later == 0) ≡ true → later ≡ []
none_later later e = nil_from_length later (eqb-true (length later) 0 e)

some_later : {A : Type 0} (later : List A) → (length later == 0) ≡ false → later ≢ []
some_later {A} later e none = (let k : (length later == 0) ≡ true = ap (λ (l : List A). length l == 0) none in cc)

test_none : {A : Type 0} (later : List A) → later ≡ [] → (length later == 0) ≡ true
test_none {A} later none = ap (λ (l : List A). length l == 0) none

test_some : {A : Type 0} (later : List A) → later ≢ [] → (length later == 0) ≡ false
test_some later some = ne_eqb (length later) 0 (λ none. some (nil_from_length later none))

-- ---- what cannot be read

-- the remark on what cannot be read holds of the file
pub unread_holds : (f : FileSurvey) (later : List FileSurvey) (r : Remark) → unread_remark f ≡ Some r → HoldsAndIs IsOnUnread f later r
unread_holds f later r is = by (slice_get f.unread.items 0) refl is where
  by : (found : Option UnreadPart) → slice_get f.unread.items 0 ≡ found → option_map (λ unread. Unread (file_of f) unread) found ≡ Some r → HoldsAndIs IsOnUnread f later r
  by None at e = absurd (let k : None ≡ Some r = e in cc)
  by (Some unread) at e = subst (HoldsAndIs IsOnUnread f later) (same_remark (Unread (file_of f) unread) r e) ((refl, at), tt)

-- ---- what is found

torn : (fault : UnpackFault) → is_torn fault ≡ true → fault ≡ InFile kind.Torn
torn (InFile kind.Torn) e = refl
torn other e = absurd (let k : false ≡ true = e in cc)

torn_ends : (last : Bool) (fault : UnpackFault) → (last && is_torn fault) ≡ true → (last ≡ true) × (fault ≡ InFile kind.Torn)
torn_ends true fault e = (refl, torn fault e)
torn_ends false fault e = absurd (let k : false ≡ true = e in cc)

torn_before : (last : Bool) (fault : UnpackFault) → (last && is_torn fault) ≡ false → fault ≡ InFile kind.Torn → last ≡ false
torn_before true fault e is = absurd (let k : true ≡ false = sym (ap is_torn is) ∙ e in cc)
torn_before false fault e is = refl

of_damage : (f : FileSurvey) (later : List FileSurvey) (damage : UnpackDamage) (b : Bool) (r : Remark) → f.survey.damage ≡ Some damage → ((length later == 0) && is_torn damage.fault) ≡ b
    → (if b then TornEnd (damage_of f damage) else Damaged (damage_of f damage)) ≡ r → HoldsAndIs IsOnContents f later r
of_damage f later damage true r at test is =
    let ends = torn_ends (length later == 0) damage.fault test in
    subst (HoldsAndIs IsOnContents f later) is ((record { file = refl; damage = at; readable = refl }, ends.1, none_later later ends.0), tt)
of_damage f later damage false r at test is =
    subst (HoldsAndIs IsOnContents f later) is ((record { file = refl; damage = at; readable = refl }, λ t. some_later later (torn_before (length later == 0) damage.fault test t)), tt)

of_empty : (f : FileSurvey) (later : List FileSurvey) (inside behind : Bool) (r : Remark) → f.unread.items ≡ [] → f.survey.damage ≡ None → f.bytes ≡ 0 → f.in_checkpoint ≡ inside → has_checkpoint_file later ≡ behind
    → (if inside && behind then Some (Empty (file_of f)) else None) ≡ Some r → HoldsAndIs IsOnContents f later r
of_empty f later true true r whole at empty i b is = subst (HoldsAndIs IsOnContents f later) (same_remark (Empty (file_of f)) r is) ((refl, whole, at, empty, i, b), tt)
of_empty f later true false r whole at empty i b is = absurd (let k : None ≡ Some r = is in cc)
of_empty f later false behind r whole at empty i b is = absurd (let k : None ≡ Some r = is in cc)

of_blank : (f : FileSurvey) (later : List FileSurvey) (empty zeros last : Bool) (r : Remark) → f.unread.items ≡ [] → f.survey.damage ≡ None → (f.bytes == 0) ≡ empty → f.is_zeros ≡ zeros → (length later == 0) ≡ last
    → (if empty then empty_remark f later else if zeros && not last then Some (Zeros (file_of f)) else None) ≡ Some r → HoldsAndIs IsOnContents f later r
of_blank f later true zeros last r whole at e z l is = of_empty f later f.in_checkpoint (has_checkpoint_file later) r whole at (eqb-true f.bytes 0 e) refl refl is
of_blank f later false true false r whole at e z l is =
    subst (HoldsAndIs IsOnContents f later) (same_remark (Zeros (file_of f)) r is) ((refl, whole, at, (λ n. (let k : true ≡ false = sym (eq-eqb f.bytes 0 n) ∙ e in cc)), z, some_later later l), tt)
of_blank f later false true true r whole at e z l is = absurd (let k : None ≡ Some r = is in cc)
of_blank f later false false last r whole at e z l is = absurd (let k : None ≡ Some r = is in cc)

of_whole : (f : FileSurvey) (later : List FileSurvey) (whole : Bool) (r : Remark) → f.survey.damage ≡ None → (length f.unread.items == 0) ≡ whole → (if whole then blank_remark f later else None) ≡ Some r → HoldsAndIs IsOnContents f later r
of_whole f later true r at w is = of_blank f later (f.bytes == 0) f.is_zeros (length later == 0) r (none_later f.unread.items w) at refl refl refl is
of_whole f later false r at w is = absurd (let k : None ≡ Some r = is in cc)

of_either : (damage : Option UnpackDamage) (f : FileSurvey) (later : List FileSurvey) (r : Remark) → f.survey.damage ≡ damage → remark_by damage f later ≡ Some r → HoldsAndIs IsOnContents f later r
of_either (Some damage) f later r at is = of_damage f later damage ((length later == 0) && is_torn damage.fault) r at refl (same_remark (damage_remark f damage (length later == 0)) r is)
of_either None f later r at is = of_whole f later (length f.unread.items == 0) r at refl is

-- the remark on what is found in a file holds of it
pub found_holds : (f : FileSurvey) (later : List FileSurvey) (r : Remark) → found_remark f later ≡ Some r → HoldsAndIs IsOnContents f later r
found_holds f later r is = of_either f.survey.damage f later r refl is

-- ---- the number of the next file

of_gap : (f : FileSurvey) (later : List FileSurvey) (next : ℕ) (b : Bool) (r : Remark) → next_number f.in_checkpoint later ≡ Some next → nat_lt (f.number + 1) next ≡ b
    → (if b then Some (Gap (f.number + 1) (next - 1) f.in_checkpoint) else None) ≡ Some r → HoldsAndIs IsOnNumber f later r
of_gap f later next true r at test is =
    let below : f.number + 1 < next = ltb-true (f.number + 1) next test in
    let end : next ≡ (next - 1) + 1 = omega arith in
    subst (HoldsAndIs IsOnNumber f later) (same_remark (Gap (f.number + 1) (next - 1) f.in_checkpoint) r is) ((at ∙ ap (λ (n : ℕ). Some n) end, refl, omega arith, refl), tt)
of_gap f later next false r at test is = absurd (let k : None ≡ Some r = is in cc)

of_next : (f : FileSurvey) (later : List FileSurvey) (next : ℕ) (b : Bool) (r : Remark) → next_number f.in_checkpoint later ≡ Some next → (f.number == next) ≡ b
    → (if b then Some (SameNumber (file_of f)) else gap_remark f.in_checkpoint f.number next) ≡ Some r → HoldsAndIs IsOnNumber f later r
of_next f later next true r at test is =
    subst (HoldsAndIs IsOnNumber f later) (same_remark (SameNumber (file_of f)) r is) ((refl, at ∙ ap (λ (n : ℕ). Some n) (sym (eqb-true f.number next test))), tt)
of_next f later next false r at test is = of_gap f later next (nat_lt (f.number + 1) next) r at refl is

-- the remark on the number of the next file holds of the file
pub number_holds : (f : FileSurvey) (later : List FileSurvey) (r : Remark) → number_remark f later ≡ Some r → HoldsAndIs IsOnNumber f later r
number_holds f later r is = by (next_number f.in_checkpoint later) refl is where
  by : (next : Option ℕ) → next_number f.in_checkpoint later ≡ next → behind_remark f next ≡ Some r → HoldsAndIs IsOnNumber f later r
  by None at e = absurd (let k : None ≡ Some r = e in cc)
  by (Some next) at e = of_next f later next (f.number == next) r at refl e

-- ---- what holds is reported

-- a remark that holds of a file is that on what cannot be read, on what is found, or on the number of the next file
abbrev pub IsToldOfFile : FileSurvey → List FileSurvey → Remark → Type 0
IsToldOfFile f later r = (unread_remark f ≡ Some r) ⊎ ((found_remark f later ≡ Some r) ⊎ (number_remark f later ≡ Some r))

same_damage : (f : FileSurvey) (d : FileDamage) → IsDamageOf f d → damage_of f d.damage ≡ d
same_damage f d h = ap (λ (file : NumberedFile). record { file = file; damage = d.damage; readable = f.survey.readable }) (sym h.file) ∙ ap (λ (readable : Readable). record { file = d.file; damage = d.damage; readable = readable }) (sym h.readable)

torn_told : (last : Bool) (f : FileSurvey) (damage : UnpackDamage) → last ≡ true → damage.fault ≡ InFile kind.Torn → damage_remark f damage last ≡ TornEnd (damage_of f damage)
torn_told last f damage end is = rw (end, is) refl

other_told : (last b : Bool) (f : FileSurvey) (damage : UnpackDamage) → (last && is_torn damage.fault) ≡ b → (damage.fault ≡ InFile kind.Torn → last ≡ false) → (if b then TornEnd (damage_of f damage) else Damaged (damage_of f damage)) ≡ Damaged (damage_of f damage)
other_told last true f damage test before =
    let ends = torn_ends last damage.fault test in
    absurd (let k : true ≡ false = sym ends.0 ∙ before ends.1 in cc)
other_told last false f damage test before = refl

by_damage : (f : FileSurvey) (later : List FileSurvey) (d : FileDamage) → IsDamageOf f d → found_remark f later ≡ Some (damage_remark f d.damage (length later == 0))
by_damage f later d h = ap (λ (o : Option UnpackDamage). remark_by o f later) h.damage

pub file_told : (f : FileSurvey) (later : List FileSurvey) (r : Remark) → HoldsOfFile f later r → IsToldOfFile f later r
file_told f later (Unread file unread) (is, at) = inl (ap (λ (o : Option UnreadPart). option_map (λ u. Unread (file_of f) u) o) at ∙ ap (λ (n : NumberedFile). Some (Unread n unread)) (sym is))
file_told f later (Empty file) (is, whole, at, empty, inside, behind) =
    let both : (f.in_checkpoint && has_checkpoint_file later) ≡ true = rw (inside, behind) refl in
    inr (inl (rw (at, test_none f.unread.items whole, eq-eqb f.bytes 0 empty) (ap (λ (b : Bool). if b then Some (Empty (file_of f)) else None) both ∙ ap (λ (n : NumberedFile). Some (Empty n)) (sym is))))
file_told f later (Zeros file) (is, whole, at, bytes, zeros, behind) = inr (inl (rw (at, test_none f.unread.items whole, ne_eqb f.bytes 0 bytes, zeros, test_some later behind, is) refl))
file_told f later (TornEnd d) (h, is, end) =
    inr (inl (by_damage f later d h ∙ ap Some (torn_told (length later == 0) f d.damage (test_none later end) is) ∙ ap (λ (x : FileDamage). Some (TornEnd x)) (same_damage f d h)))
file_told f later (Damaged d) (h, before) =
    inr (inl (by_damage f later d h ∙ ap Some (other_told (length later == 0) ((length later == 0) && is_torn d.damage.fault) f d.damage refl (λ t. test_some later (before t))) ∙ ap (λ (x : FileDamage). Some (Damaged x)) (same_damage f d h)))
file_told f later (Gap from to in_checkpoint) (at, is, least, inside) =
    let below : f.number + 1 < to + 1 = omega (arith, is, least) in
    let first : (f.number == to + 1) ≡ false = ne_eqb f.number (to + 1) (λ e. omega (arith, below, e)) in
    let end : (to + 1) - 1 ≡ to = omega arith in
    inr (inr (ap (behind_remark f) at
    ∙ ap (λ (b : Bool). if b then Some (SameNumber (file_of f)) else gap_remark f.in_checkpoint f.number (to + 1)) first
    ∙ ap (λ (b : Bool). if b then Some (Gap (f.number + 1) ((to + 1) - 1) f.in_checkpoint) else None) (lt-ltb (f.number + 1) (to + 1) below)
    ∙ ap (λ (n : ℕ). Some (Gap n ((to + 1) - 1) f.in_checkpoint)) (sym is)
    ∙ ap (λ (n : ℕ). Some (Gap from n f.in_checkpoint)) end
    ∙ ap (λ (b : Bool). Some (Gap from to b)) (sym inside)))
file_told f later (SameNumber file) (is, at) =
    inr (inr (ap (behind_remark f) at ∙ ap (λ (b : Bool). if b then Some (SameNumber (file_of f)) else gap_remark f.in_checkpoint f.number f.number) (eq-eqb f.number f.number refl) ∙ ap (λ (n : NumberedFile). Some (SameNumber n)) (sym is)))
file_told f later (NoLog has_wal) h = absurd h
file_told f later (SegmentsMissing from first) h = absurd h
file_told f later (NoneBehind next) h = absurd h
file_told f later (EmptyCheckpoint checkpoint) h = absurd h
file_told f later (PassedOver segments) h = absurd h
file_told f later (UnboundReferences references first all_read) h = absurd h
