use Rattle.std.proofs.Common.{◌≡◌, map, take}
use Rattle.head_live.specs.Keys.{labels_of_keys}
use Rattle.head_live.specs.Sets.{sets_in, with_set}
use Rattle.head_live.specs.Told.{row_told}
use Rattle.head_live.proofs.telling.waiting.Given as goal

abbrev pub invariant-loop-row : goal.invariant-loop-row
invariant-loop-row l = map row_told l.waiting.items ≡ map (with_set (sets_in (labels_of_keys l.sets) l.numbers)) (take l.row-index l.row-items)
