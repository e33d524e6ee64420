use Rattle.std.proofs.Common.{◌≡◌, ◌++◌, string_bytes, take}
use Rattle.answers.proofs.spelling.push_spelled.Given as goal
use Rattle.answers.specs.Spellings.{spelled}

-- the bytes so far are spelled
abbrev pub invariant-loop-byte : goal.invariant-loop-byte
invariant-loop-byte l = string_bytes l.text ≡ string_bytes l.initial.text ++ spelled (take l.byte-index l.label)
