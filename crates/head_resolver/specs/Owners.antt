-- The owner of a reference: the label set that it names after some entries of a log.
use Rattle.std.specs.Prelude.{ℕ, List, [], ◌∷◌, Option}
use Rattle.std.specs.List.{flat_map}
use Rattle.wal_record.specs.Entries.{Entry, series, sample, stone}
use Rattle.head_series.specs.Table.{Labels}
use Rattle.head_series.specs.Bindings.{Binding, owner as owner_of}

-- what a series entry binds
abbrev pub binding : Entry → List Binding
binding (series e) = record { reference = e.reference; labels = e.labels } ∷ []
binding (sample s) = []
binding (stone d) = []

-- what the entries bind, in order
abbrev pub bindings : List Entry → List Binding
bindings es = flat_map binding es

-- The owner of a reference after these entries: the labels of the last series entry for it, or none.
abbrev pub owner : List Entry → ℕ → Option Labels
owner es r = owner_of (bindings es) r
