-- What a block's meta.json says.
use Rattle.std.specs.Prelude.{◌≡◌, ◌↔◌, ℕ, [], Bool, List, None, Option, Some, All, Any, IsSome, IsTrue, IsUtf8, MatchOption, codes, option_and_then}
use Rattle.serde_json.specs.Data.{Data, array, string}
use Rattle.serde_json.specs.Find.{as_i64, as_number, as_object, as_str, get}
use Rattle.serde_json.specs.Read.{read}
use Rattle.serde_json.specs.View.{items_of}
use Rattle.log_directory.specs.declared.meta.BlockTimes.{BlockTimes}

-- the hint of a block whose samples came late
abbrev pub late_hint : Data
late_hint = string (codes "from-out-of-order")

-- the hints in the member `hints`, a list of texts; none where there is no such member
abbrev pub AreHints : Option Data → List Data → Type 0
AreHints None hints = hints ≡ []
AreHints (Some d) hints = (d ≡ array (items_of hints)) × All (λ hint. IsSome (as_str hint)) hints

-- the hints in the member `compaction`, an object; none where there is no such member
abbrev pub AreHintsIn : Option Data → List Data → Type 0
AreHintsIn None hints = hints ≡ []
AreHintsIn (Some d) hints = IsSome (as_object d) × AreHints (get (codes "hints") d) hints

-- There are such hints, and `late` says whether one of them is that of samples that came late.
pub record SaysLate (are : List Data → Type 0) (late : Bool) : Type 0 where
  pub hints : List Data
  pub listed : are hints
  pub says : IsTrue late ↔ Any (λ hint. hint ≡ late_hint) hints

-- what such hints say, or `None` where there are none such
abbrev pub FindsLate : (List Data → Type 0) → Option Bool → Type 0
FindsLate are None = (hints : List Data) → are hints → ⊥
FindsLate are (Some late) = SaysLate are late

-- A block's meta.json, by its members `maxTime` and `compaction`. Others say nothing of its times.
pub record IsMeta (d : Data) (times : BlockTimes) : Type 0 where
  pub time : option_and_then as_i64 (option_and_then as_number (get (codes "maxTime") d)) ≡ Some times.max_time
  pub late : SaysLate (AreHintsIn (get (codes "compaction") d)) times.out_of_order

-- The bytes are the text of a block's meta.json.
pub record IsMetaText (bytes : List ℕ) (times : BlockTimes) : Type 0 where
  pub utf8 : IsUtf8 bytes
  pub meta : Data
  pub is : read bytes ≡ Some meta
  pub says : IsMeta meta times
