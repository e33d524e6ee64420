use Rattle.std.proofs.Common.{◌≡◌, ◌++◌, string_bytes, take}
use Rattle.std.specs.List.{flat_map}
use Rattle.answers.specs.Lines.{number_line}
use Rattle.answers.proofs.number_lines.push_numbers.Given as goal

-- the lines of the numbers so far
abbrev pub invariant-loop-number : goal.invariant-loop-number
invariant-loop-number l = string_bytes l.text ≡ string_bytes l.initial.text ++ flat_map (λ p. number_line (p.0.now, p.1)) (take l.number-index l.numbers)
