use Rattle.std.proofs.Common.{rules}
use Rattle.crew.proofs.TicketRule.{splits}
use Rattle.crew.proofs.claims.Claims.split.Goals as goal

pub split_seat-other-requires : goal.split_seat-other-requires
split_seat-other-requires c = (search rules, search rules, splits _ _ _)
