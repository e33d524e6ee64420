-- What the commands about blocks print.
use Rattle.std.specs.Prelude.{◌≡◌, ◌↔◌, ◌+ℤ◌, pos, ℕ, ℤ, Contains, List, [], ◌∷◌, ◌++◌, Option}
use Rattle.std.specs.Fmt.{signed_decimal}
use Rattle.std.specs.List.{flat_map}
use Rattle.head_column.specs.Hours.{hour_start}
use Rattle.head_core.specs.Content.{Content}
use Rattle.block_cut.specs.Ranges.{Ascends, IsRange}
use Rattle.answers.specs.Faults.{TellsNoDamage}
use Rattle.store.specs.Views.{View}
use Rattle.answers.specs.declared.damage.Flaw.{Flaw}
use Rattle.answers.specs.declared.requests.LogForm.{LogForm}
use Rattle.answers.specs.declared.fault.Fault.{Fault}
use Rattle.answers.specs.declared.requests.BlockRequest.{BlockRequest}
use Rattle.answers.specs.declared.requests.BlockRequest.TheVariants as asked
use Rattle.answers.specs.declared.answer.Answer.{Answer}
use Rattle.answers.specs.Answers.{TellsUpTo}
use Rattle.log_directory.specs.Replays.{IsReplayIn}

-- an hour: its number, its first millisecond and the first one after it
abbrev pub range_line : ℤ → List ℕ
range_line k = signed_decimal k ++ (32 ∷ (signed_decimal (hour_start k) ++ (32 ∷ (signed_decimal (hour_start (k +ℤ pos 1)) ++ 10 ∷ []))))

-- the text has a line for each hour of the log in a directory, in this form, that can be cut, ascending
pub record IsRangesText (form : LogForm) (view : View) (dir : List ℕ) (min_valid : ℤ) (told : Option Flaw) (text : List ℕ) : Type 0 where
  pub content : Content
  pub replayed : IsReplayIn form view dir min_valid told content
  pub hours : List ℤ
  pub ascend : Ascends hours
  pub exact : (k : ℤ) → Contains hours k ↔ IsRange k content
  pub is : text ≡ flat_map range_line hours

-- the answer of a request for the hours that can be cut
abbrev pub Prints : View → BlockRequest → Answer → Type 0
Prints view (asked.Ranges dir form options) answer = TellsUpTo (IsRangesText form view dir.now options.min_valid) answer
Prints view (asked.Cut request) answer = Unit {0}
Prints view (asked.Block path) answer = Unit {0}

-- the fault of such a request is no damage
abbrev pub Refuses : BlockRequest → Fault → Type 0
Refuses (asked.Ranges dir form options) fault = TellsNoDamage fault
Refuses (asked.Cut request) fault = Unit {0}
Refuses (asked.Block path) fault = Unit {0}
