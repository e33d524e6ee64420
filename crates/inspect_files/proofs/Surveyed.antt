-- Surveys of files, one after another.
use Rattle.std.proofs.Common.{◌≡◌, ℕ, ℤ, ◌+◌, ◌<◌, ◌++◌, ◌∷◌, [], List, length, map, take, get_or, refl, sym, ap, subst, ◌∙◌}
use Rattle.std.specs.Prelude.{◌||◌, Bool, cond, false, None, Option, Some, string_bytes}
use Rattle.std.specs.List.{AllZip, count_by, fold, list_any}
use Rattle.std.specs.Option.{option_map}
use Rattle.std.proofs.Common.{Global, String}
use Rattle.std.proofs.lemmas.List.{append-nil, append_assoc, map-append, take_more}
use Rattle.wal_log.specs.declared.reading.Placed.{Placed}
use Rattle.wal_log.specs.declared.plan.Named.{Named}
use Rattle.log_directory.specs.declared.listing.Listing.{Listing}
use Rattle.log_directory.specs.Listings.{IsListing}
use Rattle.wal_log.specs.Plan.{NumberedName, named as name_of}
use Rattle.store.specs.Views.{View}
use Rattle.inspect_files.specs.declared.inspection.Inspection.{Inspection}
use Rattle.std.proofs.lemmas.List.Concat.{flat_map-append}
use Rattle.hw_bytes.proofs.Lists.{flat_map-push}
use Rattle.wal_survey.specs.Unbound.{AreReferencesOf, IsUnboundIn, ReferencesValue}
use Rattle.inspect_files.specs.declared.files.FileSurvey.{FileSurvey}
use Rattle.inspect_files.specs.Files.{HasSurveyed, HaveSurveyed, Surveyed, records_of}
use Rattle.inspect_files.specs.Inspections.{AreCheckpointSurveys, AreListedSurveys, AreSurveysIn, IsInspectionIn, IsSurveyIn, is_passed_over, is_wal, is_wbl}

-- two lists with one more item each
AllZip_more : {A B : Type 0} (R : A → B → Type 0) (xs : List A) (ys : List B) (x : A) (y : B) → AllZip R xs ys → R x y → AllZip R (xs ++ x ∷ []) (ys ++ y ∷ [])
AllZip_more R [] [] x y each last = (last, tt)
AllZip_more R [] (b ∷ ys) x y each last = absurd each
AllZip_more R (a ∷ xs) [] x y each last = absurd each
AllZip_more R (a ∷ xs) (b ∷ ys) x y each last = (each.0, AllZip_more R xs ys x y each.1 last)

-- the surveys with that of the next name
pub surveys_more : {B : Type 0} (R : NumberedName → B → Type 0) (names : List Named) (i : ℕ) (d : Named) (files all : List B) (f : B) → i < length names → all ≡ files ++ f ∷ []
    → AllZip R (map name_of (take i names)) files → R (name_of (get_or names i d)) f → AllZip R (map name_of (take (i + 1) names)) all
surveys_more R names i d files all f within are each last =
    let front : map name_of (take (i + 1) names) ≡ map name_of (take i names) ++ name_of (get_or names i d) ∷ [] =
    ap (map name_of) (take_more names i d within) ∙ map-append name_of (take i names) (get_or names i d ∷ []) in
    subst (λ all. AllZip R (map name_of (take (i + 1) names)) all) (sym are) (subst (λ ns. AllZip R ns (files ++ f ∷ [])) (sym front) (AllZip_more R (map name_of (take i names)) files (name_of (get_or names i d)) f each last))

module _ (view : View) (dir : List ℕ) where
  -- no files
  pub none_surveyed : (in_checkpoint : Bool) (figures : List FileSurvey) (old : ReferencesValue) → figures ≡ [] → HaveSurveyed (AreSurveysIn view dir in_checkpoint []) figures old old
  none_surveyed in_checkpoint figures old none = record { surveyed = []; are = tt; each = none; taken = λ m before h. subst (λ (rs : List Placed). AreReferencesOf m rs old) (sym (append-nil before)) h }

  -- the next file
  pub more_surveyed : (in_checkpoint : Bool) (names : List Named) (i : ℕ) (d : Named) (figures all : List FileSurvey) (f : FileSurvey) (old mid new : ReferencesValue) → i < length names → all ≡ figures ++ f ∷ []
      → HaveSurveyed (AreSurveysIn view dir in_checkpoint (map name_of (take i names))) figures old mid → HasSurveyed (IsSurveyIn view dir in_checkpoint (name_of (get_or names i d))) f mid new
      → HaveSurveyed (AreSurveysIn view dir in_checkpoint (map name_of (take (i + 1) names))) all old new
  more_surveyed in_checkpoint names i d figures all f old mid new within is before last =
      let s : Surveyed = record { placed = last.placed; figures = f } in
      record {
        surveyed = before.surveyed ++ s ∷ [];
        are = surveys_more (IsSurveyIn view dir in_checkpoint) names i d before.surveyed (before.surveyed ++ s ∷ []) s within refl before.are last.surveyed;
        each = is ∙ ap (λ (fs : List FileSurvey). fs ++ f ∷ []) before.each ∙ sym (map-append (λ (t : Surveyed). t.figures) before.surveyed (s ∷ []));
        taken = λ m records h.
            subst (λ (rs : List Placed). AreReferencesOf m rs new)
            (append_assoc records (records_of before.surveyed) last.placed ∙ ap (λ (rs : List Placed). records ++ rs) (sym (flat_map-push (λ (t : Surveyed). t.placed) before.surveyed s)))
            (last.taken m (records ++ records_of before.surveyed) (before.taken m records h));
      }

  -- the files of the checkpoint and the segments
  pub both_surveyed : (newest : Option NumberedName) (plan : List NumberedName) (first later all : List FileSurvey) (old mid new : ReferencesValue) → all ≡ first ++ later → HaveSurveyed (AreCheckpointSurveys view dir newest) first old mid
      → HaveSurveyed (AreSurveysIn view dir false plan) later mid new → HaveSurveyed (AreListedSurveys view dir newest plan) all old new
  both_surveyed newest plan first later all old mid new is a b = record {
    surveyed = a.surveyed ++ b.surveyed;
    are = record { first = a.surveyed; later = b.surveyed; all = refl; checkpoint_files = a.are; segment_files = b.are };
    each = is ∙ ap (λ (fs : List FileSurvey). fs ++ later) a.each ∙ ap (λ (fs : List FileSurvey). map (λ (t : Surveyed). t.figures) a.surveyed ++ fs) b.each ∙ sym (map-append (λ (t : Surveyed). t.figures) a.surveyed b.surveyed);
    taken = λ m records h.
        subst (λ (rs : List Placed). AreReferencesOf m rs new)
        (append_assoc records (records_of a.surveyed) (records_of b.surveyed) ∙ ap (λ (rs : List Placed). records ++ rs) (sym (flat_map-append (λ (t : Surveyed). t.placed) a.surveyed b.surveyed)))
        (b.taken m (records ++ records_of a.surveyed) (a.taken m records h));
  }

-- a test of the names of texts
any_mapped : {A B : Type 0} (p : B → Bool) (h : A → B) (xs : List A) → list_any p (map h xs) ≡ list_any (λ x. p (h x)) xs
any_mapped p h [] = refl
any_mapped p h (x ∷ xs) = ap (λ (b : Bool). p (h x) || b) (any_mapped p h xs)

-- how many names of texts pass a test
count_mapped : {A B : Type 0} (p : B → Bool) (h : A → B) (xs : List A) → count_by p (map h xs) ≡ count_by (λ x. p (h x)) xs
count_mapped {A} p h xs = from 0 xs where
  from : (n : ℕ) (xs : List A) → fold (λ a y. a + cond (p y) 1 0) n (map h xs) ≡ fold (λ a x. a + cond (p (h x)) 1 0) n xs
  from n [] = refl
  from n (x ∷ xs) = from (n + cond (p (h x)) 1 0) xs

-- the number of a name
numbers : (named : Option Named) → option_map (λ (n : Named). n.number) named ≡ option_map (λ c. c.number) (option_map name_of named)
numbers None = refl
numbers (Some named) = refl

-- what was surveyed by the listing of a directory is the inspection of its log
pub inspected : (view : View) (dir : List ℕ) (m : ℤ) (names : List (String Global)) (listing : Listing) (i : Inspection) (none kept : ReferencesValue) → view.names dir (map string_bytes names)
    → IsListing (map string_bytes names) (option_map name_of listing.checkpoint) (map name_of listing.segments.items) → i.checkpoint ≡ option_map (λ (n : Named). n.number) listing.checkpoint
    → HaveSurveyed (AreListedSurveys view dir (option_map name_of listing.checkpoint) (map name_of listing.segments.items)) i.files.items none kept → AreReferencesOf m [] none
    → ((k : ℤ) (placed : List Placed) → AreReferencesOf k placed kept → IsUnboundIn k placed i.unbound) → i.passed_over ≡ count_by (λ name. is_passed_over i.checkpoint (string_bytes name)) names → i.has_wal ≡ list_any (λ name. is_wal (string_bytes name)) names → i.is_wbl ≡ is_wbl dir → IsInspectionIn view dir m i
inspected view dir m names listing i none kept listed are checkpoint files empty unbound passed wal wbl = record {
  names = map string_bytes names;
  listed = listed;
  newest = option_map name_of listing.checkpoint;
  segments = map name_of listing.segments.items;
  listing = are;
  checkpoint = checkpoint ∙ numbers listing.checkpoint;
  surveyed = files.surveyed;
  read = files.are;
  files = files.each;
  unbound = unbound m (records_of files.surveyed) (files.taken m [] empty);
  passed = passed ∙ sym (count_mapped (is_passed_over i.checkpoint) string_bytes names);
  wal = wal ∙ sym (any_mapped is_wal string_bytes names);
  wbl = wbl;
}
