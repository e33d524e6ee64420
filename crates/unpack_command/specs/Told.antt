-- What is reported of a log that was unpacked.
use Rattle.std.specs.Prelude.{◌≡◌, ℕ, List, ◌∷◌, [], ◌++◌, Option, None, Some, codes, string_bytes}
use Rattle.std.specs.Fmt.{decimal}
use Rattle.answers.specs.Damages.{file_number, kind_of_file}
use Rattle.answers.specs.declared.fault.Status.TheVariants.{Damaged, Done}
use Rattle.answers.specs.declared.answer.Answer.{Answer}
use Rattle.log_directory.specs.declared.unpacking.FileDamage.{FileDamage}

-- the line that tells damage, up to why: the file, and the offset in it in bytes
abbrev pub damage_front : FileDamage → List ℕ
damage_front found = codes "damage " ++ (kind_of_file found.in_checkpoint ++ (32 ∷ (file_number found.number ++ (codes " offset " ++ (decimal found.damage.offset ++ 32 ∷ [])))))

-- the text ends with the line that tells this damage
pub record EndsWith (found : FileDamage) (text : List ℕ) : Type 0 where
  pub front : List ℕ
  pub why : List ℕ
  pub is : text ≡ front ++ (damage_front found ++ (why ++ 10 ∷ []))

-- The answer of a log that was unpacked up to this damage: if there is none, the status is Done; if there is, it is Damaged, and the text tells
-- the damage.
pub record TellsUnpacked (damage : Option FileDamage) (answer : Answer) : Type 0 where
  pub done : answer.status ≡ Done → damage ≡ None
  pub damaged : answer.status ≡ Damaged → (bad : FileDamage) × (damage ≡ Some bad) × EndsWith bad (string_bytes answer.printed)
