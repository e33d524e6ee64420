use Rattle.head_postings.proofs.RoomLemmas.{room_first}
use Rattle.head_postings.proofs.laws.room_for_first.Goals as goal

pub returns : goal.returns
returns c = room_first
