-- What is dumped of the log in a directory.
use Rattle.std.specs.Prelude.{ℕ, ℤ, Bool, List, Option}
use Rattle.head_core.specs.Content.{Content}
use Rattle.store.specs.Views.{View}
use Rattle.answers.specs.declared.damage.Flaw.{Flaw}
use Rattle.answers.specs.declared.requests.LogForm.{LogForm}
use Rattle.log_directory.specs.Replays.{IsReplayIn, slots_of}
use Rattle.answers.specs.Spellings.{SpellsPair}
use Rattle.query_commands.specs.declared.selection.Selection.{Selection}
use Rattle.query_commands.specs.Dumps.{IsDump}

-- the text has a line for each sample that the selection shows of the log in a directory, in this form, of the series that have the label that the word
-- spells, and nothing else
pub record IsDumpIn (form : LogForm) (view : View) (dir : List ℕ) (word : Option (List ℕ)) (min_valid : ℤ) (selection : Selection) (floats : Bool) (told : Option Flaw) (text : List ℕ) : Type 0 where
  pub content : Content
  pub replayed : IsReplayIn form view dir min_valid told content
  pub pair : Option (List ℕ × List ℕ)
  pub spelled : SpellsPair word pair
  pub dump : IsDump floats selection content (slots_of content pair) text
