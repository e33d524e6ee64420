-- The invariant of a table: words of proofs, which no public contract cites.
use Rattle.std.specs.Prelude.{◌≡◌, ℕ, ◌≤◌, List, All, map, length, nat_eq}
use Rattle.std.specs.Map.{lookup}
use Rattle.hash_seed.specs.declared.seed.HashSeed.{HashSeed}
use Rattle.wal_record.specs.Labels.{same_labels, IsLabelSet}
use Rattle.head_series.specs.Texts.{TextTable}
use Rattle.head_series.specs.Rows.{labels_in, AreAllWithin, AreDistinct, labels_hash, IsChained, or_zero}

pub record IsSound (seed : HashSeed) (texts : TextTable) (most : ℕ) (numbers : List (List (ℕ × ℕ))) (befores : List ℕ) (last_by_hash : List (ℕ × ℕ)) (series : ℕ) : Type 0 where
  pub few : length numbers ≤ most
  pub limit : texts.most ≡ most
  pub within : AreAllWithin (length texts.texts) numbers
  pub distinct : AreDistinct same_labels (map (labels_in texts.texts) numbers)
  pub ordered : All IsLabelSet (map (labels_in texts.texts) numbers)
  pub befored : length befores ≡ length numbers
  pub counted : series ≡ length numbers
  pub chained : IsChained (map (labels_hash seed) (map (labels_in texts.texts) numbers)) (λ h. or_zero (lookup (nat_eq h) last_by_hash)) befores
