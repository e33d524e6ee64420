-- A worked head: two series, `{__name__="a", x="1"}` with three samples and `{__name__="a", x="2"}` with one.
use Rattle.std.proofs.Common.{◌≡◌, ℤ, pos, List, [], ◌∷◌, length, refl}
use Rattle.std.specs.Prelude.{codes, count_by, zip}
use Rattle.hw_bytes.specs.Lists.{distinct}
use Rattle.wal_record.specs.declared.labels.Label.{Label}
use Rattle.wal_record.specs.Labels.{Labels, label, same_label, same_text}
use Rattle.head_column.specs.Histories.{History}
use Rattle.head_column.specs.Samples.{Sample}
use Rattle.head_ranks.specs.Counts.{all_labels, has_label, metric_name, samples_of, values_of, with_label}

abbrev sample : ℤ → Sample
sample time = record { time = time; value = pos 0 }

abbrev metric : Label
metric = label metric_name (codes "a")

abbrev one : Label
one = label (codes "x") (codes "1")

abbrev two : Label
two = label (codes "x") (codes "2")

abbrev sets : List Labels
sets = (metric ∷ one ∷ []) ∷ (metric ∷ two ∷ []) ∷ []

abbrev histories : List History
histories = record { samples = sample (pos 1) ∷ sample (pos 2) ∷ sample (pos 3) ∷ []; hidden = [] } ∷ record { samples = sample (pos 2) ∷ []; hidden = [] } ∷ []

-- three labels, each once
once : distinct same_label (all_labels sets) ≡ metric ∷ one ∷ two ∷ []
once = refl

-- the metric has both series and all samples
metric_series : count_by (has_label metric) sets ≡ 2
metric_series = refl

metric_samples : samples_of (with_label metric (zip sets histories)) ≡ 4
metric_samples = refl

one_series : count_by (has_label one) sets ≡ 1
one_series = refl

one_samples : samples_of (with_label one (zip sets histories)) ≡ 3
one_samples = refl

two_samples : samples_of (with_label two (zip sets histories)) ≡ 1
two_samples = refl

-- the name `x` has two values, and `__name__` one
x_values : length (distinct same_text (values_of (codes "x") (all_labels sets))) ≡ 2
x_values = refl

name_values : length (distinct same_text (values_of metric_name (all_labels sets))) ≡ 1
name_values = refl
