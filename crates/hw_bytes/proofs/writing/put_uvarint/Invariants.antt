use Rattle.hw_bytes.specs.Writing.{uvarint}
use Rattle.hw_bytes.proofs.Shortest.{GroupsPut}
use Rattle.hw_bytes.proofs.writing.put_uvarint.Given as goal

abbrev pub invariant-loop-rest : goal.invariant-loop-rest
invariant-loop-rest l = GroupsPut l.len l.rest l.spelled (uvarint l.number)

abbrev pub decreases-loop-rest : goal.decreases-loop-rest
decreases-loop-rest l = l.rest
