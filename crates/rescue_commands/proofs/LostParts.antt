-- How much is lost.
use Rattle.std.proofs.Common.{ℕ, Option, subst, sym}
use Rattle.std.specs.Prelude.{List, [], ◌∷◌}
use Rattle.wal_log.specs.Inputs.{Files}
use Rattle.store.specs.Views.{View}
use Rattle.log_directory.specs.Sources.{IsSourceIn, flaw_of_lost}
use Rattle.log_directory.specs.declared.lost.Lost.{Lost}
use Rattle.answers.specs.Answers.{IsNoDamage}
use Rattle.answers.specs.declared.damage.Flaw.{Flaw}
use Rattle.answers.specs.declared.requests.LogForm.TheVariants.{PastDamage}

-- parts that are lost are no damage up to which a log is read
lost_unhurt : (lost : List Lost) → IsNoDamage (flaw_of_lost lost)
lost_unhurt [] = tt
lost_unhurt (lost ∷ more) = tt

pub rescued_unhurt : (view : View) (dir : List ℕ) (log : Files) (own : Option Flaw) → IsSourceIn PastDamage view dir log own → IsNoDamage own
rescued_unhurt view dir log own (lost, is, own_is) = subst IsNoDamage (sym own_is) (lost_unhurt lost)
