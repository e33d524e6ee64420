-- What has how much of a head.
use Rattle.std.specs.Prelude.{◌≡◌, List, All, count_by, length, map, zip}
use Rattle.hw_bytes.specs.Lists.{distinct}
use Rattle.wal_record.specs.Labels.{same_label, same_text}
use Rattle.head_core.specs.Content.{Content}
use Rattle.head_ranks.specs.declared.counts.LabelCount.{LabelCount}
use Rattle.head_ranks.specs.declared.counts.NameCount.{NameCount}
use Rattle.head_ranks.specs.Counts.{all_labels, has_label, label_of, samples_of, values_of, with_label}

-- Each label of the content's series once, in the order of first sight, each with the number of the label sets that have it, and the number
-- of the accepted samples of the series with these label sets. (A head has one history for each label set: clause `one_each` of
-- `Head::series`.)
pub record AreLabelCounts (c : Content) (counts : List LabelCount) : Type 0 where
  pub once : map label_of counts ≡ distinct same_label (all_labels c.table.series)
  pub series : All (λ k. k.series ≡ count_by (has_label (label_of k)) c.table.series) counts
  pub samples : All (λ k. k.samples ≡ samples_of (with_label (label_of k) (zip c.table.series c.histories))) counts

-- each name has the number of the distinct values that it has in the content's series
abbrev pub AreValueCounts : Content → List NameCount → Type 0
AreValueCounts c names = All (λ n. n.values ≡ length (distinct same_text (values_of n.name.now (all_labels c.table.series)))) names
