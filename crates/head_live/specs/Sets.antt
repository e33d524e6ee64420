-- Words of private functions and of proofs: rows whose label sets are kept apart, each once.
use Rattle.std.specs.Prelude.{◌≡◌, ℕ, suc, ◌<◌, ◌≤◌, List, [], ◌∷◌, All, Some, length, map, slice_get, unwrap_or}
use Rattle.wal_record.specs.Labels.{Labels, same_labels}
use Rattle.head_series.specs.Texts.{place}
use Rattle.head_live.specs.declared.prepared.PreparedRow.{PreparedRow}
use Rattle.head_live.specs.declared.rows.AgainRow.{AgainRow}
use Rattle.head_live.specs.declared.rows.RawRow.{RawRow}
use Rattle.head_live.specs.InUse.{NumbersInUse}
use Rattle.head_live.specs.Rows.{Row}

-- the label set with this number
abbrev pub set_in : List Labels → ℕ → Labels
set_in sets n = unwrap_or (slice_get sets n) []

-- the label sets with these numbers
abbrev pub sets_in : List Labels → List ℕ → List Labels
sets_in sets ns = map (set_in sets) ns

-- the row with its label set from these
abbrev pub with_set : List Labels → PreparedRow → Row
with_set sets p = record { labels = set_in sets p.set; time = p.time; value = p.value }

-- the index of each row is the first one of its label set
abbrev pub ArePlaced : List Labels → List PreparedRow → Type 0
ArePlaced sets rows = All (λ p. place (same_labels (with_set sets p).labels) sets ≡ Some p.set) rows

-- each is the first index of its label set
abbrev pub AreNumbers : List Labels → List ℕ → Type 0
AreNumbers sets ns = All (λ n. place (same_labels (set_in sets n)) sets ≡ Some n) ns

-- the row has the time and the value of that one, and its label set by number
pub record IsReady (places numbers : List ℕ) (r : AgainRow) (p : PreparedRow) : Type 0 where
  pub number : ℕ
  pub here : slice_get places r.place ≡ Some number
  pub there : slice_get numbers p.set ≡ Some number
  pub time : p.time ≡ r.time
  pub value : p.value ≡ r.value

-- what holds of checked rows, and of those that are ready
pub record AreReady (sets : List Labels) (places : List ℕ) (in_use : NumbersInUse) (rows : List PreparedRow) (room : ℕ) : Type 0 where
  pub placed : ArePlaced (sets_in sets in_use.numbers) rows
  pub checked : AreNumbers sets places
  pub used : AreNumbers sets in_use.numbers
  pub here : All (λ n. n < in_use.places) places
  pub rows_fit : length places ≤ room
  pub numbers_fit : length places ≤ in_use.room

-- the rows in order, each in the place of its index, of which the first is n
abbrev pub again_from : ℕ → List RawRow → List AgainRow
again_from n [] = []
again_from n (raw ∷ raws) = record { place = n; time = raw.time; value = raw.value } ∷ again_from (suc n) raws
