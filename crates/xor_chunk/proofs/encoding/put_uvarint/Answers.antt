use Rattle.std.proofs.Common.{refl, ◌∙◌}
use Rattle.xor_chunk.proofs.Steps.{groups_none, groups_more, groups_last}
use Rattle.xor_chunk.proofs.encoding.put_uvarint.Goals as goal

pub loop-rest-init : goal.loop-rest-init
loop-rest-init c = record { put = groups_none c.args.bits.now.bits c.args.number c.args.bits.now.room c.ranges.number.fits; front = refl }

pub loop-rest-preserved : goal.loop-rest-preserved
loop-rest-preserved c = record {
  put = groups_more c.loop-rest.bits.bits c.push.new.self.bits _ c.loop-rest.rest c.loop-rest.bits.room c.push.new.self.room c.args.bits.now.room c.loop-rest-test.true c.loop-rest.invariant.put c.push.ensures.bits c.push.ensures.room;
  front = c.push.ensures.front ∙ c.loop-rest.invariant.front;
}

pub returns-clause-bits : goal.returns-clause-bits
returns-clause-bits c = groups_last c.loop-rest.bits.bits c.push-2.new.self.bits _ c.loop-rest.rest c.loop-rest.bits.room c.args.bits.now.room c.loop-rest-test.false c.loop-rest.invariant.put c.push-2.ensures.bits
