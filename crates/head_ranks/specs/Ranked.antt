-- The orders of ranks: the greatest number first, and equal numbers by name and value.
use Rattle.std.specs.Cmp.Lexicographic.{slice_cmp}
use Rattle.std.specs.Ordering.{nat_cmp, ordering_then}
use Rattle.std.specs.declared.cmp.Ordering.{Ordering}
use Rattle.wal_record.specs.Labels.{compare_label}
use Rattle.head_ranks.specs.declared.counts.LabelCount.{LabelCount}
use Rattle.head_ranks.specs.declared.counts.NameCount.{NameCount}
use Rattle.head_ranks.specs.Counts.{label_of}

-- by name, and for equal names by value, both byte by byte
abbrev pub compare_text : LabelCount → LabelCount → Ordering
compare_text a b = compare_label (label_of a) (label_of b)

-- the label with more series comes first; with as many, by name and value
abbrev pub compare_series : LabelCount → LabelCount → Ordering
compare_series a b = ordering_then (nat_cmp b.series a.series) (compare_text a b)

-- the label with more samples comes first; with as many, by name and value
abbrev pub compare_samples : LabelCount → LabelCount → Ordering
compare_samples a b = ordering_then (nat_cmp b.samples a.samples) (compare_text a b)

-- the name with more values comes first; with as many, by name
abbrev pub compare_values : NameCount → NameCount → Ordering
compare_values a b = ordering_then (nat_cmp b.values a.values) (slice_cmp nat_cmp a.name.now b.name.now)
