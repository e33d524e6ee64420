use Rattle.std.proofs.Common.{◌≡◌, ◌++◌, ℕ, List, take, string_bytes}
use Rattle.log_directory.specs.Rescued.{lost_of}
use Rattle.log_directory.specs.LostLines.{AreLines}
use Rattle.log_directory.proofs.lost_lines.push_lost.Given as goal

-- the lines of the parts so far are appended
abbrev pub invariant-loop-part : goal.invariant-loop-part
invariant-loop-part l = (text : List ℕ) × AreLines (lost_of l.in_checkpoint l.number (take l.part-index l.parts)) text × (string_bytes l.lines ≡ string_bytes l.initial.lines ++ text)
