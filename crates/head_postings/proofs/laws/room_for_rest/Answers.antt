use Rattle.head_postings.proofs.RoomLemmas.{room_rest}
use Rattle.head_postings.proofs.laws.room_for_rest.Goals as goal

pub returns : goal.returns
returns c = room_rest
