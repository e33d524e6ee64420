use Rattle.std.proofs.Common.{◌≡◌, string_bytes, take}
use Rattle.std.specs.List.{flat_map}
use Rattle.block_commands.specs.Printed.{range_line}
use Rattle.block_commands.proofs.report.ranges_text.Given as goal

-- the lines of the hours so far
abbrev pub invariant-loop-hour : goal.invariant-loop-hour
invariant-loop-hour l = string_bytes l.text ≡ flat_map range_line (take l.hour-index l.hours)
