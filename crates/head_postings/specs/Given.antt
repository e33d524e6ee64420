-- What one label gets when a slot is added to each label of a list. Words of proofs: no public contract cites them.
use Rattle.std.specs.Prelude.{ℕ, List, [], ◌∷◌, if◌then◌else◌}
use Rattle.std.specs.List.{flat_map}
use Rattle.wal_record.specs.Labels.{same_label}
use Rattle.head_postings.specs.Postings.{Text, Labels, label}

-- the slot s, as often as the label is in the list
abbrev pub given : ℕ → Labels → Text → Text → List ℕ
given s labels name value = flat_map (λ l. if same_label (label name value) l then s ∷ [] else []) labels
