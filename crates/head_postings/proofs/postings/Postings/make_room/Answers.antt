use Rattle.std.proofs.Common.{◌≤◌, sym, subst, arith, length}
use Rattle.head_postings.specs.Postings.{slots_of}
use Rattle.head_postings.specs.Room.{IsReserved, room_of}
use Rattle.head_postings.proofs.Kept.{shown}
use Rattle.head_postings.proofs.RoomLemmas.{reserved_push}
use Rattle.head_postings.proofs.postings.Postings.make_room.Goals as goal

pub returns-clause-room : goal.returns-clause-room
returns-clause-room c sets h =
    let p = shown c.self.inside.names c.self.inside.all in
    let q = shown c.reserve-2.new.self c.reserve.new.self in
    let batch = c.add.new.self in
    reserved_push p q sets c.args.labels.now c.args.batch.now batch (subst (λ z. IsReserved z sets c.args.batch.now) (sym c.self.view_is) h) (c.in_ok-add.ensures sets h.count)
    (omega (arith, c.len.ensures, c.in_ok-reserve.ensures.ok))
    c.in_ok-reserve-2.ensures.kept
    (λ n v e. subst (λ z. length (slots_of z n v) ≤ room_of q.rooms.names n v) c.names.ensures (c.in_ok-reserve-2.ensures.room n v e))
