use Rattle.std.proofs.Common.{rules, ◌≡◌, ◌<◌, length}
use Rattle.block_files.proofs.TombstoneLaws.{left_more, more_fit, left_none, left_bad}
use Rattle.block_files.proofs.tombstones.read_entries.Goals as goal

pub returns-in_default-clause-bad : goal.returns-in_default-clause-bad
returns-in_default-clause-bad c = λ _ all fit e.
    let some : 0 < length c.loop-rest.rest.now = search rules in
    left_bad c.loop-rest.rest.now all c.loop-rest.tombstones.items some c.in_default.ensures.again (c.loop-rest.invariant.1 all fit e)

pub loop-rest-preserved : goal.loop-rest-preserved
loop-rest-preserved c = (
  more_fit c.loop-rest.tombstones.items c.push.new.self.items c.in-Some.tombstone c.loop-rest.invariant.0 c.in-Some.ensures.fit c.in_ok-push.ensures.items,
  λ all fit e.
      let some : 0 < length c.loop-rest.rest.now = search rules in
      left_more c.loop-rest.rest.now c.in-Some.others.now all c.loop-rest.tombstones.items c.push.new.self.items c.in-Some.tombstone some c.in_ok-push.ensures.items c.in-Some.ensures.again (c.loop-rest.invariant.1 all fit e),
)

pub returns-clause-found : goal.returns-clause-found
returns-clause-found c = λ all fit e.
    let none : length c.loop-rest.rest.now ≡ 0 = search rules in
    left_none c.loop-rest.rest.now all c.loop-rest.tombstones.items none (c.loop-rest.invariant.1 all fit e)
