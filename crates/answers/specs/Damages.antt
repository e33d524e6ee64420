-- Damage, as it is printed.
use Rattle.std.specs.Prelude.{ℕ, ◌-◌, ◌==◌, ◌++◌, Bool, List, [], ◌∷◌, if◌then◌else◌, codes, length, replicate}
use Rattle.std.specs.Fmt.{decimal}
use Rattle.std.specs.List.{concat}
use Rattle.wal_log.specs.declared.reading.Damage.{Damage}
use Rattle.wal_page.specs.Kinds.{name_of, number_of}

-- what kind of file it is
abbrev pub kind_of_file : Bool → List ℕ
kind_of_file in_checkpoint = if in_checkpoint then codes "checkpoint" else codes "segment"

-- the number of a file in decimal, with zeros before it up to eight digits
abbrev pub file_number : ℕ → List ℕ
file_number number = replicate (8 - length (decimal number)) 48 ++ decimal number

-- the line that tells damage, without its end: the file, the offset in it in bytes, and the kind by its number and its name
abbrev pub damage_text : Damage → List ℕ
damage_text d = concat (
    codes "damage " ∷ kind_of_file d.place.in_checkpoint ∷ codes " " ∷ file_number d.place.file ∷ codes " offset " ∷ decimal d.place.offset
    ∷ codes " kind " ∷ decimal (number_of d.kind) ∷ codes " " ∷ name_of d.kind ∷ [])

-- what is reported of two files of which the later does not have the number after the earlier
abbrev pub gap_text : Bool → ℕ → ℕ → List ℕ
gap_text of_checkpoints number next =
    if number == next then kind_of_file of_checkpoints ++ (codes " " ++ (file_number number ++ codes " is there twice"))
    else codes "behind " ++ (kind_of_file of_checkpoints ++ (codes " " ++ (file_number number ++ (codes " comes " ++ file_number next))))
