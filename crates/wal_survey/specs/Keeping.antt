-- How references are noted: words of private functions, which no public contract cites.
use Rattle.std.specs.Prelude.{ℕ, Bool, List, [], ◌∷◌, ◌++◌, map, not, fold, if◌then◌else◌}
use Rattle.std.specs.List.{list_any}
use Rattle.wal_log.specs.declared.reading.Place.{Place}
use Rattle.wal_survey.specs.ReferenceSets.{ReferenceSetValue, has}
use Rattle.wal_survey.specs.declared.references.UnboundReference.{UnboundReference}
use Rattle.wal_survey.specs.Unbound.{at_place, same_reference}

-- a reference that is noted, with its place
abbrev pub note_of : ℕ × Place → UnboundReference
note_of entry = record { reference = entry.0; place = entry.1 }

abbrev pub notes_of : List (ℕ × Place) → List UnboundReference
notes_of entries = map note_of entries

-- the reference is not bound
abbrev pub is_missing : ReferenceSetValue → UnboundReference → Bool
is_missing bound u = not (has bound u.reference)

-- one more, unless it is noted
abbrev pub noted_with : List UnboundReference → UnboundReference → List UnboundReference
noted_with noted u = if list_any (same_reference u) noted then noted else noted ++ u ∷ []

-- one more, unless it is bound or noted
abbrev pub noted_if : ReferenceSetValue → List UnboundReference → UnboundReference → List UnboundReference
noted_if bound noted u = if is_missing bound u then noted_with noted u else noted

-- references that are named at a place
abbrev pub noted_with_all : ReferenceSetValue → List UnboundReference → Place → List ℕ → List UnboundReference
noted_with_all bound noted place references = fold (noted_if bound) noted (at_place place references)
