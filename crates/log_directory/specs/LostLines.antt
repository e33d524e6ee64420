-- The lines that report what is lost of a log.
use Rattle.std.specs.Prelude.{◌≡◌, ℕ, List, [], ◌∷◌, ◌++◌, codes}
use Rattle.std.specs.Fmt.{decimal}
use Rattle.answers.specs.Damages.{file_number, kind_of_file}
use Rattle.log_directory.specs.declared.lost.Lost.{Lost}
use Rattle.log_directory.specs.declared.lost.LostPart.{LostPart}
use Rattle.log_directory.specs.declared.lost.LostPart.TheVariants.{Missing, PassedOver, CannotRead}

-- what became of a part that is lost
abbrev pub part_word : LostPart → List ℕ
part_word Missing = codes "missing "
part_word (CannotRead unread) = codes "unread "
part_word (PassedOver passed) = codes "passed "

-- an offset in a file, and a number of bytes from there on
abbrev pub bytes_at : ℕ → ℕ → List ℕ
bytes_at offset bytes = codes " offset " ++ (decimal offset ++ (codes " bytes " ++ (decimal bytes ++ 32 ∷ [])))

-- where the part is in the file
abbrev pub part_place : LostPart → List ℕ
part_place Missing = []
part_place (CannotRead unread) = bytes_at unread.offset unread.bytes
part_place (PassedOver passed) = bytes_at passed.damage.offset passed.bytes

-- the line that reports what is lost, up to why: what became of it, the file, where, and how many bytes
abbrev pub lost_front : Lost → List ℕ
lost_front lost = part_word lost.part ++ (kind_of_file lost.in_checkpoint ++ (32 ∷ (file_number lost.number ++ part_place lost.part)))

-- the lines that report what is lost, one after another, each with a reason
abbrev pub AreLines : List Lost → List ℕ → Type 0
AreLines [] text = text ≡ []
AreLines (lost ∷ more) text = (why : List ℕ) × (rest : List ℕ) × (text ≡ lost_front lost ++ (why ++ (10 ∷ rest))) × AreLines more rest
