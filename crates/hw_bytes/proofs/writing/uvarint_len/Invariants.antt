use Rattle.std.proofs.Common.{length}
use Rattle.hw_bytes.specs.Writing.{uvarint}
use Rattle.hw_bytes.proofs.Shortest.{GroupsCounted}
use Rattle.hw_bytes.proofs.writing.uvarint_len.Given as goal

abbrev pub invariant-loop-rest : goal.invariant-loop-rest
invariant-loop-rest l = GroupsCounted l.len l.rest (length (uvarint l.number))

abbrev pub decreases-loop-rest : goal.decreases-loop-rest
decreases-loop-rest l = l.rest
