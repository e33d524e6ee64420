-- Counts of labels and of their names.
use Rattle.std.specs.Prelude.{◌≡◌, ℕ, Bool, List, All, codes, count_by, filter, length, map, sum_by}
use Rattle.std.specs.List.{flat_map, list_any}
use Rattle.hw_bytes.specs.Lists.{distinct}
use Rattle.wal_record.specs.declared.labels.Label.{Label}
use Rattle.wal_record.specs.Labels.{Labels, Text, label, same_label, same_text}
use Rattle.head_column.specs.Histories.{History}
use Rattle.head_ranks.specs.declared.counts.LabelCount.{LabelCount}
use Rattle.head_ranks.specs.declared.counts.NameCount.{NameCount}

-- the label of a count
abbrev pub label_of : LabelCount → Label
label_of count = label count.name.now count.value.now

-- whether a label set has the label
abbrev pub has_label : Label → Labels → Bool
has_label l labels = list_any (same_label l) labels

-- all labels of label sets, set after set
abbrev pub all_labels : List Labels → List Label
all_labels sets = flat_map (λ labels. labels) sets

-- of series, each a label set with its history, those with the label
abbrev pub with_label : Label → List (Labels × History) → List (Labels × History)
with_label l series = filter (λ s. has_label l s.0) series

-- the number of the accepted samples of these series
abbrev pub samples_of : List (Labels × History) → ℕ
samples_of series = sum_by (λ s. length s.1.samples) series

-- the values of the labels with this name, in their order
abbrev pub values_of : Text → List Label → List Text
values_of name labels = map (λ l. l.value) (filter (λ l. same_text name l.name) labels)

-- the name of a label's count
abbrev pub name_of : LabelCount → Text
name_of count = count.name.now

-- Each name of the labels once, in the order of first sight, each with the number of the labels that have it.
pub record AreNameCounts (labels : List LabelCount) (names : List NameCount) : Type 0 where
  pub once : map (λ n. n.name.now) names ≡ distinct same_text (map name_of labels)
  pub values : All (λ n. n.values ≡ count_by (λ l. same_text n.name.now (name_of l)) labels) names

-- the name of the label whose value is the name of a series' metric
abbrev pub metric_name : Text
metric_name = codes "__name__"
