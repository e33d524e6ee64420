use Rattle.std.proofs.Common.{◌≡◌, take}
use Rattle.std.specs.List.{flat_map, fold}
use Rattle.wal_record.specs.Hashes.{label_input}
use Rattle.head_live.proofs.set_key.SetKeyHash.hash.Given as goal

abbrev pub invariant-loop-i : goal.invariant-loop-i
invariant-loop-i g l = l.state ≡ fold g.H.Hasher.write l.fn.state (flat_map label_input (take l.i l.self.labels.value))
