-- What a least valid time leaves of the bindings of a log.
use Rattle.std.proofs.Common.{◌≡◌, Bool, true, false, List, [], ◌∷◌, refl}
use Rattle.std.specs.Prelude.{ℤ, map, int_le, if◌then◌else◌}
use Rattle.std.specs.List.{flat_map}
use Rattle.wal_record.specs.Entries.{Entry, series, sample, stone}
use Rattle.wal_record.specs.Validity.{raised, valid_entry}
use Rattle.wal_record.proofs.Validity.{flat_map-twice}
use Rattle.head_resolver.specs.Owners.{binding, bindings}

-- what m leaves of some entries
abbrev pub valid_of : ℤ → List Entry → List Entry
valid_of m es = flat_map (valid_entry m) es

binding_valid : (m : ℤ) (e : Entry) → flat_map binding (valid_entry m e) ≡ binding e
binding_valid m (series e) = refl
binding_valid m (sample s) = by (int_le m s.time) where
  by : (b : Bool) → flat_map binding (map sample (if b then s ∷ [] else [])) ≡ []
  by true = refl
  by false = refl
binding_valid m (stone d) = by (int_le m d.max_time) where
  by : (b : Bool) → flat_map binding (map stone (if b then raised m d ∷ [] else [])) ≡ []
  by true = refl
  by false = refl

pub bindings_valid : (m : ℤ) (es : List Entry) → bindings (valid_of m es) ≡ bindings es
bindings_valid m es = flat_map-twice binding (valid_entry m) binding (binding_valid m) es
