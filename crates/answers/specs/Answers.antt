-- What the answer of a command on a log says.
use Rattle.std.specs.Prelude.{◌≡◌, ℕ, List, Option, None, Some, string_bytes, ⊤}
use Rattle.answers.specs.declared.damage.Flaw.{Flaw}
use Rattle.answers.specs.declared.damage.Flaw.TheVariants as flaw
use Rattle.answers.specs.declared.fault.Fault.{Fault}
use Rattle.answers.specs.declared.fault.Fault.TheVariants.{Damage, Lost}
use Rattle.answers.specs.declared.fault.Status.TheVariants.{Damaged, Done}
use Rattle.answers.specs.declared.answer.Answer.{Answer}

-- the fault that reports what is wrong with a log, if anything is
abbrev pub fault_of : Option Flaw → Option Fault
fault_of None = None
fault_of (Some (flaw.Damage damage)) = Some (Damage (record { 0 = damage }))
fault_of (Some (flaw.Lost parts)) = Some (Lost parts)

-- nothing is wrong with the log but that parts of it are lost
abbrev pub IsNoDamage : Option Flaw → Type 0
IsNoDamage None = ⊤
IsNoDamage (Some (flaw.Damage damage)) = ⊥
IsNoDamage (Some (flaw.Lost parts)) = ⊤

-- The answer prints the text of a log, which tells what is wrong with it too.
pub record TellsLog (IsText : Option Flaw → List ℕ → Type 0) (answer : Answer) : Type 0 where
  pub done : answer.status ≡ Done → IsText None (string_bytes answer.printed)
  pub damaged : answer.status ≡ Damaged → (found : Flaw) × (answer.fault ≡ None) × IsText (Some found) (string_bytes answer.printed)

-- The answer prints the text of a log, and what is wrong with the log is reported as the fault.
pub record TellsUpTo (IsText : Option Flaw → List ℕ → Type 0) (answer : Answer) : Type 0 where
  pub done : answer.status ≡ Done → IsText None (string_bytes answer.printed)
  pub damaged : answer.status ≡ Damaged → (found : Flaw) × (answer.fault ≡ fault_of (Some found)) × IsText (Some found) (string_bytes answer.printed)
