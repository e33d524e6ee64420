use Rattle.std.proofs.Common.{ap, arith}
use Rattle.head_deal.proofs.Lists.{spread_new, spread_is, spread_view}
use Rattle.head_deal.proofs.spreads.Spread.in_room.Goals as goal

pub invariant_of-result : goal.invariant_of-result
invariant_of-result g c =
    let each = c.in_ok-lists.ensures.each in
    let workers = c.seats.inside.workers in
    let h = spread_new workers.number c.in_ok-lists.lists.items workers.some workers.most each (λ k v low. c.in_ok-lists.ensures.empty k v (omega arith)) in
    (spread_view _ 0 _ h, omega arith)

pub returns : goal.returns
returns g c =
    let each = c.in_ok-lists.ensures.each in
    let workers = c.seats.inside.workers in
    let h = spread_new workers.number c.in_ok-lists.lists.items workers.some workers.most each (λ k v low. c.in_ok-lists.ensures.empty k v (omega arith)) in
    rw (← c.seats.view_is) (ap (λ x. record { workers = workers.number; items = x }) (spread_is _ 0 _ h))
