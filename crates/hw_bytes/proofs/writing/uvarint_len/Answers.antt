use Rattle.hw_bytes.specs.Writing.{uvarint}
use Rattle.std.proofs.Common.{length}
use Rattle.hw_bytes.proofs.Shortest.{counted-none, counted-more, counted-last}
use Rattle.hw_bytes.proofs.writing.uvarint_len.Goals as goal

pub loop-rest-init : goal.loop-rest-init
loop-rest-init c = counted-none c.args.number c.ranges.number.fits

pub loop-rest-preserved : goal.loop-rest-preserved
loop-rest-preserved c = counted-more c.loop-rest.len c.loop-rest.rest (length (uvarint c.args.number)) c.loop-rest.invariant c.loop-rest-test.true

pub returns-clause-value : goal.returns-clause-value
returns-clause-value c = counted-last c.loop-rest.len c.loop-rest.rest (length (uvarint c.args.number)) c.loop-rest.invariant c.loop-rest-test.false
