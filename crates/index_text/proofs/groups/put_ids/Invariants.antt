use Rattle.std.proofs.Common.{◌≡◌, ◌++◌, length, take}
use Rattle.std.specs.List.{flat_map}
use Rattle.hw_bytes.specs.Writing.{big_bytes}
use Rattle.index_text.proofs.groups.put_ids.Given as goal

abbrev pub invariant-loop-id : goal.invariant-loop-id
invariant-loop-id l = l.body.items ≡ big_bytes 4 (length l.ids) ++ flat_map (big_bytes 4) (take l.id-index l.ids)
