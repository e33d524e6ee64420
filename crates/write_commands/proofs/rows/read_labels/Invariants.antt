use Rattle.std.proofs.Common.{◌≡◌, ◌++◌, ◌∷◌}
use Rattle.std.specs.List.{flat_map}
use Rattle.std.specs.Str.Iter.{split_pattern}
use Rattle.write_commands.specs.RowParts.{labels_of}
use Rattle.write_commands.specs.RowTexts.{label_word}
use Rattle.write_commands.proofs.RowLaws.{left_of}
use Rattle.write_commands.proofs.rows.read_labels.Given as goal

-- the labels so far are read, and the words are still cut at spaces
abbrev pub invariant-loop-word : goal.invariant-loop-word
invariant-loop-word l = record {
  read : 32 ∷ l.text ≡ flat_map label_word (labels_of l.pairs.items) ++ left_of l.word-iterator;
  space : split_pattern l.word-iterator ≡ 32;
}
