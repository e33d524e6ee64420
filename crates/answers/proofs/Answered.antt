-- What answers of commands say.
use Rattle.std.specs.Prelude.{◌≡◌, ℕ, List, Option, None, Some, IsSome, MatchResult, Result, string_bytes, true, false}
use Rattle.std.proofs.lemmas.Bool.{false≢true}
use Rattle.std.proofs.lemmas.Result.{MatchResult-weaker}
use Rattle.answers.specs.Answers.{TellsLog, TellsUpTo, fault_of}
use Rattle.answers.specs.declared.answer.Answer.{Answer}
use Rattle.answers.specs.declared.damage.Flaw.{Flaw}
use Rattle.answers.specs.declared.fault.Fault.{Fault}
use Rattle.answers.specs.declared.fault.Status.TheVariants.{Damaged, Done}

-- ---- an answer that is made

pub tells_log : (IsText : Option Flaw → List ℕ → Type 0) (answer : Answer) (flaw : Option Flaw) → (answer.status ≡ Done → flaw ≡ None) → (answer.status ≡ Damaged → IsSome flaw) → answer.fault ≡ None → IsText flaw (string_bytes answer.printed) → TellsLog IsText answer
tells_log IsText answer None done damaged fault is = record { done = λ went. is; damaged = λ bad. absurd (false≢true (damaged bad)) }
tells_log IsText answer (Some d) done damaged fault is = record { done = λ went. let none = done went in cc; damaged = λ bad. (d, fault, is) }

pub tells_up_to : (IsText : Option Flaw → List ℕ → Type 0) (answer : Answer) (flaw : Option Flaw) → (answer.status ≡ Done → flaw ≡ None) → (answer.status ≡ Damaged → IsSome flaw) → answer.fault ≡ fault_of flaw → IsText flaw (string_bytes answer.printed) → TellsUpTo IsText answer
tells_up_to IsText answer None done damaged fault is = record { done = λ went. is; damaged = λ bad. absurd (false≢true (damaged bad)) }
tells_up_to IsText answer (Some d) done damaged fault is = record { done = λ went. let none = done went in cc; damaged = λ bad. (d, fault, is) }

-- an answer that neither went well nor tells that anything is wrong with a log
pub nothing_told : (IsText : Option Flaw → List ℕ → Type 0) (answer : Answer) → (answer.status ≡ Done → ⊥) → (answer.status ≡ Damaged → ⊥) → TellsUpTo IsText answer
nothing_told IsText answer fails undamaged = record { done = λ went. absurd (fails went); damaged = λ bad. absurd (undamaged bad) }

-- ---- what follows from the text

module _ (P R : Option Flaw → List ℕ → Type 0) (more : (flaw : Option Flaw) (text : List ℕ) → P flaw text → R flaw text) (Q : Fault → Type 0) (result : Result Answer Fault) where
  pub log_more : MatchResult result (TellsLog P) Q → MatchResult result (TellsLog R) Q
  log_more has = MatchResult-weaker result has (λ answer told. record {
    done = λ went. more None (string_bytes answer.printed) (told.done went);
    damaged = λ bad. let is = told.damaged bad in (is.0, is.1, more (Some is.0) (string_bytes answer.printed) is.2);
  }) (λ fault is. is)

  pub up_to_more : MatchResult result (TellsUpTo P) Q → MatchResult result (TellsUpTo R) Q
  up_to_more has = MatchResult-weaker result has (λ answer told. record {
    done = λ went. more None (string_bytes answer.printed) (told.done went);
    damaged = λ bad. let is = told.damaged bad in (is.0, is.1, more (Some is.0) (string_bytes answer.printed) is.2);
  }) (λ fault is. is)
