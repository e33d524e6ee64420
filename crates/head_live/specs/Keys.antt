-- Words of private functions and of proofs: label sets as the keys of a map.
use Rattle.std.specs.Prelude.{◌≡◌, ℕ, List, map}
use Rattle.std.specs.Bool.{IsTrue}
use Rattle.std.specs.List.{flat_map}
use Rattle.wal_record.specs.Hashes.{label_input}
use Rattle.wal_record.specs.Labels.{Labels, same_labels}
use Rattle.wal_record.proofs.Equality.{labels_same}
use Rattle.std.proofs.Common.{ap}
use Rattle.head_live.specs.declared.set_key.SetKey.{SetKey}

-- what is written of a label set to be hashed: the name and the value of each label
abbrev pub key_input : SetKey → List (List ℕ)
key_input k = flat_map label_input k.labels.value

-- equal label sets are written alike
pub same_input : (x y : SetKey) → IsTrue (same_labels x.labels.value y.labels.value) → key_input x ≡ key_input y
same_input x y h = ap (flat_map label_input) (labels_same.exact x.labels.value y.labels.value h)

-- the label sets of keys
abbrev pub labels_of_keys : List SetKey → List Labels
labels_of_keys keys = map (λ (k : SetKey). k.labels.value) keys
