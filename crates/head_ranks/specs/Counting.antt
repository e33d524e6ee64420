-- What was counted so far: words of private functions, which no public contract cites.
use Rattle.std.specs.Prelude.{◌≡◌, ℕ, List, count_by, map, zip}
use Rattle.std.specs.List.{flat_map}
use Rattle.hw_bytes.specs.Lists.{distinct}
use Rattle.wal_record.specs.declared.labels.Label.{Label}
use Rattle.wal_record.specs.Labels.{Labels, Text, label, same_label, same_text}
use Rattle.head_column.specs.Histories.{History}
use Rattle.head_core.specs.Content.{Content}
use Rattle.head_ranks.specs.declared.counts.LabelCount.{LabelCount}
use Rattle.head_ranks.specs.declared.counts.NameCount.{NameCount}
use Rattle.head_ranks.specs.declared.counting.Counter.{Counter}
use Rattle.head_ranks.specs.declared.counting.LabelKey.{LabelKey}
use Rattle.head_ranks.specs.declared.naming.Namer.{Namer}
use Rattle.head_ranks.specs.Counts.{has_label, label_of, name_of, samples_of, with_label}

-- the series of a head, each as its label set and its history
abbrev pub series_of : Content → List (Labels × History)
series_of c = zip c.table.series c.histories

-- the labels of all these series, series after series
abbrev pub labels_of : List (Labels × History) → List Label
labels_of series = flat_map (λ s. s.0) series

-- what a count says
abbrev pub said : LabelCount → Label × ℕ × ℕ
said count = (label_of count, count.series, count.samples)

-- what the count of a label is to say
abbrev pub tally_of : List (Labels × History) → Label → Label × ℕ × ℕ
tally_of series l = (l, count_by (λ s. has_label l s.0) series, samples_of (with_label l series))

-- the label of a key
abbrev pub key_label : LabelKey → Label
key_label key = label key.name.now key.value.now

-- the counts are those of these series
pub record IsCountOf (series : List (Labels × History)) (c : Counter) : Type 0 where
  pub seen : map key_label c.seen.keys ≡ distinct same_label (labels_of series)
  pub counts : map said c.counts.items ≡ map (tally_of series) (distinct same_label (labels_of series))

-- what a name's count says
abbrev pub name_said : NameCount → Text × ℕ
name_said count = (count.name.now, count.values)

-- what the count of a name is to say
abbrev pub name_tally : List LabelCount → Text → Text × ℕ
name_tally labels name = (name, count_by (λ l. same_text name (name_of l)) labels)

-- the counts are those of the names of these labels
pub record AreNamed (labels : List LabelCount) (n : Namer) : Type 0 where
  pub seen : map (λ key. key.now) n.seen.keys ≡ distinct same_text (map name_of labels)
  pub counts : map name_said n.counts.items ≡ map (name_tally labels) (distinct same_text (map name_of labels))
