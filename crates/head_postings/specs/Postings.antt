-- Postings: the slots of each label.
use Rattle.std.specs.Prelude.{◌≡◌, ℕ, Bool, true, List, [], ◌∷◌, map, filter, nat_eq, if◌then◌else◌}
use Rattle.std.specs.List.{list_any}
pub use Rattle.wal_record.specs.Labels.{Text, Labels, label}
use Rattle.wal_record.specs.Labels.{same_text, same_label}
use Rattle.head_postings.specs.Slots.{AreOfBoth, IsAscending, IsUnion}

-- whether a label set has the label of this name and this value
abbrev pub holds : Labels → Text → Text → Bool
holds labels name value = list_any (same_label (label name value)) labels

-- the list beside the first text that equals t; empty if there is none
abbrev pub listed : {A : Type 0} → List (Text × List A) → Text → List A
listed [] t = []
listed (e ∷ es) t = if same_text t e.0 then e.1 else listed es t

-- the slots beside a name and a value: lists of slots are beside values, and these beside names
abbrev pub slots_of : List (Text × List (Text × List ℕ)) → Text → Text → List ℕ
slots_of names name value = listed (listed names name) value

-- How many more slots the lists take without allocating: for the list of all slots a number, for that of each label a list of as many
-- places. No look-up depends on it.
pub record Rooms : Type 0 where
  pub all : ℕ
  pub names : List (Text × List (Text × List (Unit {0})))

-- What contracts see of postings: all slots, and the maps from which `selected` finds those of a label. Nothing depends on the order of
-- the texts, nor on a text without slots.
pub record Lists : Type 0 where
  pub all : List ℕ
  pub names : List (Text × List (Text × List ℕ))
  pub rooms : Rooms

-- the slots of the label of this name and this value
abbrev pub selected : Lists → Text → Text → List ℕ
selected p name value = slots_of p.names name value

-- of slots with their label sets, the slots
abbrev pub slots : List (ℕ × Labels) → List ℕ
slots sets = map (λ s. s.0) sets

-- of slots with their label sets, those whose label set has the label
abbrev pub with_label : Text → Text → List (ℕ × Labels) → List (ℕ × Labels)
with_label name value sets = filter (λ s. holds s.1 name value) sets

-- The postings of these slots with their label sets: all the slots, and for each label those whose label set has it, both in this order.
pub record IsPostingsOf (sets : List (ℕ × Labels)) (p : Lists) : Type 0 where
  pub every : p.all ≡ slots sets
  pub each : (name value : Text) → selected p name value ≡ slots (with_label name value sets)

-- the two have equal lists, so that no call tells them apart
pub record AreAlike (p q : Lists) : Type 0 where
  pub every : q.all ≡ p.all
  pub each : (name value : Text) → selected q name value ≡ selected p name value

-- All lists ascend, the slots of a label are among all slots, and no slot has a label with an empty name.
pub record IsSound (p : Lists) : Type 0 where
  pub ascending : IsAscending p.all
  pub each : (name value : Text) → IsAscending (selected p name value)
  pub among : (name value : Text) (s : ℕ) → list_any (nat_eq s) (selected p name value) ≡ true → list_any (nat_eq s) p.all ≡ true
  pub named : (value : Text) → selected p [] value ≡ []

-- r is the union of p and q, list by list
pub record AreMerged (p q r : Lists) : Type 0 where
  pub every : IsUnion p.all q.all r.all
  pub each : (name value : Text) → IsUnion (selected p name value) (selected q name value) (selected r name value)

-- zs has the slots of both, with their label sets, ascending
pub record IsMergeOf (xs ys zs : List (ℕ × Labels)) : Type 0 where
  pub ascending : IsAscending (slots zs)
  pub of_both : AreOfBoth xs ys zs
