-- The lines of records, one after another.
use Rattle.std.proofs.Common.{◌≡◌, ◌∙◌, ◌++◌, ◌∷◌, [], List, ap, append_assoc, refl, subst, sym, ℕ}
use Rattle.std.specs.Prelude.{MatchResult, Option, Result, string_bytes}
use Rattle.std.specs.List.{flat_map}
use Rattle.std.proofs.lemmas.List.{append-nil, flat_map_more}
use Rattle.wal_log.specs.declared.reading.Placed.{Placed}
use Rattle.store.specs.Views.{View}
use Rattle.answers.specs.Answers.{TellsLog}
use Rattle.answers.specs.Outputs.{IsMade, MakesText}
use Rattle.answers.specs.declared.answer.Answer.{Answer}
use Rattle.answers.specs.declared.damage.Flaw.{Flaw}
use Rattle.answers.specs.declared.fault.Fault.{Fault}
use Rattle.answers.specs.declared.requests.LogForm.{LogForm}
use Rattle.answers.proofs.Answered.{log_more}
use Rattle.log_directory.specs.Replays.{IsReadingIn}
use Rattle.log_commands.specs.Printed.{IsRecordsText, damage_line, record_line}
use Rattle.log_commands.specs.RecordLines.{HasMade}
use Rattle.log_commands.specs.declared.record_lines.RecordLines.{RecordLines}

module _ {O : Type 0} (printed : O → List ℕ → O → Type 0) where
  pub nothing_made : (lines : RecordLines O) → HasMade printed lines [] lines
  nothing_made lines = λ begun all h. subst (IsMade printed begun lines.out (string_bytes lines.text)) (sym (append-nil all)) h

  -- the line of a record is appended to what waits, and then some of it may be printed
  pub line_made : (first old new : RecordLines O) (before : List Placed) (p : Placed) (longer : List ℕ) → HasMade printed first before old → longer ≡ string_bytes old.text ++ record_line p
      → ((begun : O) (all : List ℕ) → IsMade printed begun old.out longer all → IsMade printed begun new.out (string_bytes new.text) all) → HasMade printed first (before ++ p ∷ []) new
  line_made first old new before p longer so_far is on = λ begun all h.
      let (were, was, are) = so_far begun all h in
      let lines = flat_map record_line before in
      subst (IsMade printed begun new.out (string_bytes new.text)) (append_assoc all lines (record_line p) ∙ ap (λ (t : List ℕ). all ++ t) (flat_map_more record_line [] before p))
      (on begun ((all ++ lines) ++ record_line p)
      (were, was, ap (λ (t : List ℕ). t ++ record_line p) are ∙ append_assoc were (string_bytes old.text) (record_line p) ∙ ap (λ (t : List ℕ). were ++ t) (sym is)))

  -- the text of all records, and then a line, which waits
  pub all_made : (first last : RecordLines O) (old : O) (placed : List Placed) (line rest : List ℕ) (IsText : List ℕ → Type 0) → HasMade printed first placed last → first.out ≡ old → string_bytes first.text ≡ []
      → rest ≡ string_bytes last.text ++ line → IsText (flat_map record_line placed ++ line) → MakesText printed old last.out rest IsText
  all_made first last old placed line rest IsText made begins none is text = (
    flat_map record_line placed ++ line,
    text,
    λ begun before was.
        (let here : IsMade printed begun first.out (string_bytes first.text) before = (before, subst (printed begun before) (sym begins) was, sym (append-nil before) ∙ ap (λ (t : List ℕ). before ++ t) (sym none)) in
        let (were, so, are) = made begun before here in
        (were, so, sym (append_assoc before (flat_map record_line placed) line) ∙ ap (λ (t : List ℕ). t ++ line) are ∙ append_assoc were (string_bytes last.text) line ∙ ap (λ (t : List ℕ). were ++ t) (sym is))),
  )

  -- the lines that wait, and the line on what is wrong with the log, are the rest of the text
  pub records_told : (result : Result Answer Fault) (Q : Fault → Type 0) (form : LogForm) (view : View) (dir : List ℕ) (first last : RecordLines O) (old : O) (flaw : Option Flaw) (placed : List Placed) → IsReadingIn form view dir flaw placed
      → HasMade printed first placed last → first.out ≡ old → string_bytes first.text ≡ [] → MatchResult result (TellsLog (λ told rest. (flaw ≡ told) × (rest ≡ string_bytes last.text ++ damage_line flaw))) Q
      → MatchResult result (TellsLog (λ told rest. MakesText printed old last.out rest (IsRecordsText form view dir told))) Q
  records_told result Q form view dir first last old flaw placed reading made begins none = log_more _ _ (λ told rest (same, is).
      subst (λ (x : Option Flaw). MakesText printed old last.out rest (IsRecordsText form view dir x)) same
      (all_made first last old placed (damage_line flaw) rest (IsRecordsText form view dir flaw) made begins none is (record { placed = placed; reading = reading; is = refl }))) Q result
