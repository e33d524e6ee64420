use Rattle.std.proofs.Common.{◌≡◌, string_bytes, take}
use Rattle.std.specs.List.{flat_map}
use Rattle.log_commands.specs.Printed.{series_line}
use Rattle.log_commands.proofs.report.series_text.Given as goal

-- the lines of the series so far
abbrev pub invariant-loop-slot : goal.invariant-loop-slot
invariant-loop-slot l = string_bytes l.text ≡ flat_map (series_line l.head.content) (take l.slot-index l.slots)
