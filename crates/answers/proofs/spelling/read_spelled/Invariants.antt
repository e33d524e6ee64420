use Rattle.std.proofs.Common.{◌≡◌, ◌++◌, length}
use Rattle.answers.specs.Spellings.{spelled}
use Rattle.answers.proofs.spelling.read_spelled.Given as goal

-- what was read and what is left of the word are the word
abbrev pub invariant-loop-rest : goal.invariant-loop-rest
invariant-loop-rest l = l.word ≡ spelled l.label.items ++ l.rest

-- what is left of the word grows shorter
abbrev pub decreases-loop-rest : goal.decreases-loop-rest
decreases-loop-rest l = length l.rest
