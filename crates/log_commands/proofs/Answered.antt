-- What answers of commands on a log say.
use Rattle.answers.proofs.Answered.{log_more, up_to_more}
use Rattle.std.specs.Prelude.{◌≡◌, ℕ, ℤ, List, ◌++◌, Option, MatchResult, Result, true, false}
use Rattle.std.specs.List.{flat_map}
use Rattle.std.proofs.Common.{ap, subst, ◌∙◌}
use Rattle.head_core.specs.Content.{Content}
use Rattle.head_resolver.specs.declared.counts.Counts.{Counts}
use Rattle.store.specs.Views.{View}
use Rattle.answers.specs.declared.damage.Flaw.{Flaw}
use Rattle.answers.specs.declared.fault.Fault.{Fault}
use Rattle.answers.specs.declared.fault.Status.TheVariants.{Damaged, Done}
use Rattle.answers.specs.declared.requests.LogForm.{LogForm}
use Rattle.answers.specs.declared.requests.Request.{Request}
use Rattle.answers.specs.declared.requests.Request.TheVariants as asked
use Rattle.answers.specs.declared.answer.Answer.{Answer}
use Rattle.answers.specs.Answers.{TellsLog, TellsUpTo}
use Rattle.log_commands.specs.Printed.{IsCountsText, IsSeriesText, Prints, counts_text, damage_line, series_line}
use Rattle.log_directory.specs.Replays.{IsReplayIn, IsTallyIn, slots_of}
use Rattle.answers.specs.Spellings.{SpellsPair}

module _ {O : Type 0} (printed : O → List ℕ → O → Type 0) where
  pub refused_prints : (old new : O) (view : View) (request : Request) (answer : Answer) → (answer.status ≡ Done → ⊥) → (answer.status ≡ Damaged → ⊥) → Prints printed old new view request answer
  refused_prints old new view (asked.Replay dir form options) answer fails undamaged = record { done = λ went. absurd (fails went); damaged = λ bad. absurd (undamaged bad) }
  refused_prints old new view (asked.Records dir form) answer fails undamaged = record { done = λ went. absurd (fails went); damaged = λ bad. absurd (undamaged bad) }
  refused_prints old new view (asked.Series dir form pair options) answer fails undamaged = record { done = λ went. absurd (fails went); damaged = λ bad. absurd (undamaged bad) }

-- ---- of the log in a directory

module _ (form : LogForm) (view : View) (dir : List ℕ) (flaw : Option Flaw) (Q : Fault → Type 0) (result : Result Answer Fault) where
  pub counts_told : (m : ℤ) (counts : Counts) (series : ℕ) → IsTallyIn form view dir m flaw counts series
      → MatchResult result (TellsLog (λ d text. (flaw ≡ d) × (text ≡ counts_text counts series ++ damage_line flaw))) Q → MatchResult result (TellsLog (IsCountsText form view dir m)) Q
  counts_told m counts series tallied = log_more _ _ (λ d text is. record {
    counts = counts;
    series = series;
    tallied = subst (λ (x : Option Flaw). IsTallyIn form view dir m x counts series) is.0 tallied;
    is = is.1 ∙ ap (λ (x : Option Flaw). counts_text counts series ++ damage_line x) is.0;
  }) Q result

  pub series_told : (word : Option (List ℕ)) (m : ℤ) (content : Content) (pair : Option (List ℕ × List ℕ)) → IsReplayIn form view dir m flaw content → SpellsPair word pair
      → MatchResult result (TellsUpTo (λ d text. (flaw ≡ d) × (text ≡ flat_map (series_line content) (slots_of content pair)))) Q → MatchResult result (TellsUpTo (IsSeriesText form view dir word m)) Q
  series_told word m content pair replayed spelled = up_to_more _ _ (λ d text is. record {
    content = content;
    replayed = subst (λ (x : Option Flaw). IsReplayIn form view dir m x content) is.0 replayed;
    pair = pair;
    spelled = spelled;
    is = is.1;
  }) Q result
