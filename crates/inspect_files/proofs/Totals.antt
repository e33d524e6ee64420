-- The figures of files and of one more file.
use Rattle.std.proofs.Common.{◌≡◌, ℕ, ℤ, ◌+◌, ◌++◌, ◌∷◌, [], List, Option, sym, ap, subst, ◌∙◌}
use Rattle.std.specs.List.{flat_map, sum_by}
use Rattle.std.proofs.lemmas.List.{append-nil, length-append}
use Rattle.std.proofs.lemmas.List.Sums.{sum_by_push}
use Rattle.std.proofs.lemmas.Grind.{flat_map-append}
use Rattle.wal_survey.specs.declared.counts.KindCount.{KindCount}
use Rattle.wal_survey.specs.Surveys.{AreEnds}
use Rattle.inspect_files.specs.declared.files.FileSurvey.{FileSurvey}
use Rattle.inspect_files.specs.declared.sums.Sums.{Sums}
use Rattle.inspect_files.specs.Sums.{AreSumsOf, IsTotal, both_of, ends_of, records_in}

-- a figure of one file more
figure_more : (figure : FileSurvey → ℕ) (files : List FileSurvey) (f : FileSurvey) (old new : ℕ) → old ≡ sum_by figure files → new ≡ old + figure f → new ≡ sum_by figure (files ++ f ∷ [])
figure_more figure files f old new so_far is = is ∙ ap (λ (n : ℕ). n + figure f) so_far ∙ sym (sum_by_push figure files f)

-- a count of one file more
total_more : (kind : FileSurvey → KindCount) (files : List FileSurvey) (f : FileSurvey) (old new : KindCount) → IsTotal kind files old → new ≡ both_of old (kind f) → IsTotal kind (files ++ f ∷ []) new
total_more kind files f old new so_far is = record {
  records = figure_more (λ f. (kind f).records) files f old.records new.records so_far.records (ap (λ (c : KindCount). c.records) is);
  entries = figure_more (λ f. (kind f).entries) files f old.entries new.entries so_far.entries (ap (λ (c : KindCount). c.entries) is);
}

-- the ends of the times of one file more
ends_more : (files : List FileSurvey) (f : FileSurvey) (ends : Option (ℤ × ℤ)) → AreEnds (flat_map (λ (f : FileSurvey). ends_of f.survey.times) files ++ ends_of f.survey.times) ends → AreEnds (flat_map (λ (f : FileSurvey). ends_of f.survey.times) (files ++ f ∷ [])) ends
ends_more files f ends h =
    let e : FileSurvey → List ℤ = λ f. ends_of f.survey.times in
    subst (λ (times : List ℤ). AreEnds times ends) (ap (λ (t : List ℤ). flat_map e files ++ t) (sym (append-nil (e f))) ∙ sym (flat_map-append e files (f ∷ []))) h

-- the sums with one file more
pub sums_more : (files : List FileSurvey) (f : FileSurvey) (old new : Sums) (skipped : ℕ) → AreSumsOf files old → new.files ≡ old.files + 1 → new.bytes ≡ old.bytes + f.bytes → new.pages ≡ old.pages + f.pages
    → new.series ≡ both_of old.series f.survey.series → new.samples ≡ both_of old.samples f.survey.samples → new.stones ≡ both_of old.stones f.survey.stones
    → skipped ≡ records_in f.survey.skipped.items → new.skipped ≡ old.skipped + skipped
    → AreEnds (flat_map (λ (f : FileSurvey). ends_of f.survey.times) files ++ ends_of f.survey.times) new.times → AreSumsOf (files ++ f ∷ []) new
sums_more files f old new skipped so_far count bytes pages series samples stones others are times = record {
  count = count ∙ ap (λ (n : ℕ). n + 1) so_far.count ∙ sym (length-append files (f ∷ []));
  bytes = figure_more (λ f. f.bytes) files f old.bytes new.bytes so_far.bytes bytes;
  pages = figure_more (λ f. f.pages) files f old.pages new.pages so_far.pages pages;
  series = total_more (λ f. f.survey.series) files f old.series new.series so_far.series series;
  samples = total_more (λ f. f.survey.samples) files f old.samples new.samples so_far.samples samples;
  stones = total_more (λ f. f.survey.stones) files f old.stones new.stones so_far.stones stones;
  skipped = figure_more (λ f. records_in f.survey.skipped.items) files f old.skipped new.skipped so_far.skipped (are ∙ ap (λ (n : ℕ). old.skipped + n) others);
  times = ends_more files f new.times times;
}
