use Rattle.std.proofs.Common.{◌≡◌, string_bytes, take}
use Rattle.head_series.specs.Table.{labels_at}
use Rattle.query_commands.specs.Dumps.{labels_text}
use Rattle.query_commands.proofs.lines.labels_of.Given as goal

-- the labels so far
abbrev pub invariant-loop-i : goal.invariant-loop-i
invariant-loop-i l = string_bytes l.text ≡ labels_text (take l.i (labels_at l.head.content.table l.slot))
