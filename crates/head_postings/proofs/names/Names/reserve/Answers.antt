use Rattle.std.proofs.Common.{◌∙◌, arith, length, subst, ◌≤◌}
use Rattle.head_postings.specs.Postings.{label, slots_of}
use Rattle.head_postings.specs.Room.{room_of}
use Rattle.head_postings.proofs.RoomLemmas.{room_next}
use Rattle.head_postings.proofs.names.Names.reserve.Goals as goal

pub loop-i-preserved : goal.loop-i-preserved
loop-i-preserved c =
    let these = c.args.these.now.slots in
    let old = c.loop-i.self.rooms in
    let new = c.make_room.new.self.rooms in
    let name = c.pair.result.0.now in
    let value = c.pair.result.1.now in (
      λ n v. c.make_room.ensures.same n v ∙ c.loop-i.invariant.0 n v,
      λ n v h. room_next c.args.labels.now c.loop-i.i (label name value) n v (λ n v. length (slots_of these n v)) (room_of old) (room_of new)
          c.pair.ensures (c.loop-i.invariant.1 n v) (c.make_room.ensures.kept n v) (subst (λ z. length z ≤ room_of new name value) c.find.ensures c.in_ok-make_room.ensures.room) h,
      λ n v. let was = c.loop-i.invariant.2 n v in let is = c.make_room.ensures.kept n v in omega (arith, was, is),
    )
