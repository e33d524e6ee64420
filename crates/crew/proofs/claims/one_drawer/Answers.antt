use Rattle.crew.proofs.TicketRule.{stands_in_one, stands_in_none}
use Rattle.crew.proofs.claims.one_drawer.Goals as goal

pub returns : goal.returns
returns c = record { drawn = stands_in_one; left = stands_in_none }
