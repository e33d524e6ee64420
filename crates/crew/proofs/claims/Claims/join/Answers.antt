use Rattle.std.proofs.Common.{rules, ap}
use Rattle.crew.proofs.TicketRule.{joins, looks}
use Rattle.crew.proofs.claims.Claims.join.Goals as goal

pub join_seat-requires : goal.join_seat-requires
join_seat-requires c =
    let mine = ap (λ m. m.0.is_spent) c.pass.invariant.0 in
    let theirs = ap (λ m. m.0.is_spent) c.other.invariant.0 in
    (search rules, search rules, search rules, search rules, joins _ _ _ _ _ mine theirs)

pub load-requires : goal.load-requires
load-requires c = (search rules, search rules, looks _ _ _ _)

pub returns-clause-once : goal.returns-clause-once
returns-clause-once c = c.load.ensures.2.1
