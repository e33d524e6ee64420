-- The answer of a dump.
use Rattle.std.proofs.Common.{◌≡◌, ℕ, ℤ, Bool, List, [], Option, Result, subst}
use Rattle.std.specs.Prelude.{MatchResult}
use Rattle.head_column.specs.Samples.{Sample}
use Rattle.head_core.specs.Content.{Content}
use Rattle.store.specs.Views.{View}
use Rattle.answers.specs.declared.damage.Flaw.{Flaw}
use Rattle.answers.specs.declared.fault.Fault.{Fault}
use Rattle.answers.specs.declared.requests.LogForm.{LogForm}
use Rattle.query_commands.specs.declared.selection.Selection.{Selection}
use Rattle.query_commands.specs.Dumps.{AppendsLines, IsDump}
use Rattle.answers.specs.declared.answer.Answer.{Answer}
use Rattle.answers.specs.Answers.{TellsUpTo}
use Rattle.answers.specs.Outputs.{MakesText}
use Rattle.log_directory.specs.Replays.{IsReplayAtIn, IsReplayIn, slots_of}
use Rattle.answers.specs.Spellings.{SpellsPair}
use Rattle.answers.proofs.Answered.{up_to_more}
use Rattle.query_commands.specs.Requests.{IsDumpIn}
use Rattle.query_commands.specs.Selections.{times_of}
use Rattle.query_commands.proofs.SeenDump.{dumped_seen}

module _ {O : Type 0} (printed : O → List ℕ → O → Type 0) (old new : O) where
  -- the text of what was replayed is the dump of the log in the directory
  pub dumped_in : (result : Result Answer Fault) (Q : Fault → Type 0) (form : LogForm) (view : View) (dir : List ℕ) (word : Option (List ℕ)) (m : ℤ) (used selection : Selection) (floats : Bool) (flaw : Option Flaw) (c : Content) (pair : Option (List ℕ × List ℕ))
      → used ≡ selection → SpellsPair word pair → IsReplayAtIn (times_of used) form view dir m flaw c
      → MatchResult result (TellsUpTo (λ d rest. (flaw ≡ d) × MakesText printed old new rest (IsDump floats used c (slots_of c pair)))) Q
      → MatchResult result (TellsUpTo (λ d rest. MakesText printed old new rest (IsDumpIn form view dir word m selection floats d))) Q
  dumped_in result Q form view dir word m used selection floats flaw c pair same spelled at = up_to_more _ _ (λ d rest (told, (text, is, made)). (
    text,
    record {
      content = at.whole;
      replayed = subst (λ (x : Option Flaw). IsReplayIn form view dir m x at.whole) told at.replayed;
      pair = pair;
      spelled = spelled;
      dump = subst (λ (x : Selection). IsDump floats x at.whole (slots_of at.whole pair) text) same
          (subst (λ (samples : List (List ℕ × Sample)). AppendsLines floats samples [] text) (dumped_seen used at.whole (slots_of at.whole pair))
          (subst (λ (d : Content). IsDump floats used d (slots_of d pair) text) at.seen is));
    },
    made,
  )) Q result
