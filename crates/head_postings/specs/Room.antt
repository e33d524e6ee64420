-- Room for the series that a batch adds: how many more slots each list takes without allocating.
use Rattle.std.specs.Prelude.{◌≡◌, ℕ, ◌+◌, ◌≤◌, List, [], ◌∷◌, length, if◌then◌else◌}
use Rattle.head_postings.specs.Postings.{Text, Labels, Lists, holds, listed, slots_of}

-- how many of these label sets have the label
abbrev pub occurrences : List Labels → Text → Text → ℕ
occurrences [] name value = 0
occurrences (labels ∷ sets) name value = (if holds labels name value then 1 else 0) + occurrences sets name value

-- how many more slots the list of a name and a value takes: lists of places are beside values, and these beside names
abbrev pub room_of : List (Text × List (Text × List (Unit {0}))) → Text → Text → ℕ
room_of names name value = length (listed (listed names name) value)

-- There is room for a new slot with each of these label sets: in the list of all slots a place for each, and in the list of each label a
-- place for each set that has it.
pub record HasRoom (p : Lists) (sets : List Labels) : Type 0 where
  pub every : length sets ≤ p.rooms.all
  pub each : (name value : Text) → occurrences sets name value ≤ room_of p.rooms.names name value

-- What contracts see of a batch: the number of its label sets, and beside each label a list as long as the number of sets that have it.
pub record Counted : Type 0 where
  pub many : ℕ
  pub names : List (Text × List (Text × List ℕ))

-- the batch counts these label sets
pub record IsCountOf (sets : List Labels) (batch : Counted) : Type 0 where
  pub every : batch.many ≡ length sets
  pub each : (name value : Text) → length (slots_of batch.names name value) ≡ occurrences sets name value

-- the batch counts these label sets, and there is room for them
pub record IsReserved (p : Lists) (sets : List Labels) (batch : Counted) : Type 0 where
  pub room : HasRoom p sets
  pub count : IsCountOf sets batch
