use Rattle.std.proofs.Common.{◌≡◌, ◌++◌, ◌∷◌, string_bytes, take}
use Rattle.std.specs.List.{flat_map}
use Rattle.head_series.specs.Table.{labels_at}
use Rattle.answers.specs.Spellings.{pair_text}
use Rattle.log_commands.proofs.report.push_labels.Given as goal

-- the labels so far
abbrev pub invariant-loop-i : goal.invariant-loop-i
invariant-loop-i l = string_bytes l.text ≡ string_bytes l.initial.text ++ flat_map (λ m. 32 ∷ pair_text m.name m.value) (take l.i (labels_at l.head.content.table l.slot))
