use Rattle.std.proofs.Common.{refl}
use Rattle.hw_bytes.specs.Writing.{uvarint}
use Rattle.hw_bytes.proofs.Shortest.{begun-none, begun-more, begun-last, put_whole}
use Rattle.hw_bytes.proofs.writing.put_uvarint.Goals as goal

pub loop-rest-init : goal.loop-rest-init
loop-rest-init c = begun-none c.args.number _ c.ranges.number.fits refl

pub loop-rest-preserved : goal.loop-rest-preserved
loop-rest-preserved c = begun-more c.loop-rest.len c.loop-rest.rest c.loop-rest.spelled _ (uvarint c.args.number) c.loop-rest.invariant c.loop-rest-test.true refl

pub returns-clause-put : goal.returns-clause-put
returns-clause-put c =
    put_whole c.extend_from_slice.result c.extend_from_slice.new.self.items c.args.bytes.now.items _ (uvarint c.args.number) c.extend_from_slice.ensures.items
    (begun-last c.loop-rest.len c.loop-rest.rest c.loop-rest.spelled _ (uvarint c.args.number) c.loop-rest.invariant c.loop-rest-test.false refl)
