use Rattle.std.proofs.Common.{◌∷◌, []}
use Rattle.head_tests.proofs.postings.make_room_for_both.Goals as goal

pub returns : goal.returns
returns c = (c.in_ok-make_room-2.ensures.room (c.args.first.now ∷ []) (c.in_ok-make_room.ensures.room [] c.requires)).room
