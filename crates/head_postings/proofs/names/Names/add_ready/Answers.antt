use Rattle.std.proofs.Common.{arith}
use Rattle.head_postings.specs.Room.{room_of}
use Rattle.head_postings.specs.Postings.{label, slots_of}
use Rattle.head_postings.proofs.GivenLemmas.{given_next, given_all, named-set}
use Rattle.head_postings.proofs.RoomLemmas.{place_left, used_next, used_all}
use Rattle.head_postings.proofs.names.Names.add_ready.Goals as goal

pub push_ready-requires : goal.push_ready-requires
push_ready-requires c =
    let n = c.pair.result.0.now in
    let v = c.pair.result.1.now in
    place_left c.args.labels.now c.loop-i.i n v (room_of c.args.self.now.rooms n v) (room_of c.loop-i.self.rooms n v)
    c.len-i-end.ensures.ordered c.pair.ensures (c.requires n v) (c.loop-i.invariant.1 n v)

pub loop-i-preserved : goal.loop-i-preserved
loop-i-preserved c =
    let l = label c.pair.result.0.now c.pair.result.1.now in (
      λ n v. given_next c.args.slot c.args.labels.now c.loop-i.i l n v (slots_of c.args.self.now.slots n v) (slots_of c.loop-i.self.slots n v) (slots_of c.push_ready.new.self.slots n v)
          c.pair.ensures (c.loop-i.invariant.0 n v) (c.push_ready.ensures.slots n v),
      λ n v. used_next c.args.labels.now c.loop-i.i l n v (room_of c.args.self.now.rooms n v) (room_of c.loop-i.self.rooms n v) (room_of c.push_ready.new.self.rooms n v)
          c.pair.ensures (c.loop-i.invariant.1 n v) (c.push_ready.ensures.left n v),
    )

pub returns-clause-slots : goal.returns-clause-slots
returns-clause-slots c n v =
    given_all c.args.slot c.args.labels.now c.loop-i.i n v (slots_of c.args.self.now.slots n v) (slots_of c.loop-i.self.slots n v)
    c.len-i-end.ensures.ordered (omega (arith, c.loop-i-test.false, c.len-i-end.ensures.count)) (c.loop-i.invariant.0 n v)

pub returns-clause-left : goal.returns-clause-left
returns-clause-left c n v =
    used_all c.args.labels.now c.loop-i.i n v (room_of c.args.self.now.rooms n v) (room_of c.loop-i.self.rooms n v)
    c.len-i-end.ensures.ordered (omega (arith, c.loop-i-test.false, c.len-i-end.ensures.count)) (c.loop-i.invariant.1 n v)

pub returns-clause-named : goal.returns-clause-named
returns-clause-named c v = named-set c.args.labels.now v c.len-i-end.ensures.ordered
