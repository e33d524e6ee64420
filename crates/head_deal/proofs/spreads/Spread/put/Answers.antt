use Rattle.std.proofs.Common.{◌≡◌, ◌<◌, map, length, get_or, arith, ap, refl}
use Rattle.head_deal.specs.declared.seats.Seat.{Seat}
use Rattle.head_deal.specs.Spreads.{SpreadValue, spread_items}
use Rattle.head_deal.proofs.Lists.{spread_is, spread_view, put-in, lists-kept}
use Rattle.head_deal.proofs.spreads.Spread.put.Goals as goal

pub invariant_of-self : goal.invariant_of-self
invariant_of-self g c =
    let s = c.self.inside in
    let seats = c.seats.inside in
    let none : Seat = record { worker = 0; element = 0 } in
    let old : SpreadValue _ = record { workers = s.workers; items = spread_items s.workers s.count (map (λ l. l.items) s.lists.items) } in
    let same : seats.workers.number ≡ s.workers = rw (← c.seats.view_is, ← c.self.view_is) at c.requires.alike in
    let low : c.args.slot < length seats.seats.now = rw (← c.seats.view_is) at c.requires.exists in
    let put = put-in old s.count c.args.slot c.args.item seats.workers.number seats.seats.now none s.lists.items c.index_mut-list.result.now c.push.new.self same c.seats.invariant low c.index_mut-list.ensures.value c.in-Ok.ensures.items c.self.invariant.0 in
    let room = c.if-self-ge-MOST_ITEMS.false in
    (spread_view _ _ _ put, omega arith)

pub invariant_of-self-in-Err : goal.invariant_of-self-in-Err
invariant_of-self-in-Err g c =
    let s = c.self.inside in
    let e = lists-kept s.lists.items (get_or c.seats.inside.seats.now c.args.slot (record { worker = 0; element = 0 })).worker c.index_mut-list.result.now c.push.new.self c.index_mut-list.ensures.value c.in-Err.ensures.items in
    rw e c.self.invariant

pub returns-in-Ok-clause-put : goal.returns-in-Ok-clause-put
returns-in-Ok-clause-put g c =
    let s = c.self.inside in
    let seats = c.seats.inside in
    let none : Seat = record { worker = 0; element = 0 } in
    let old : SpreadValue _ = record { workers = s.workers; items = spread_items s.workers s.count (map (λ l. l.items) s.lists.items) } in
    let same : seats.workers.number ≡ s.workers = rw (← c.seats.view_is, ← c.self.view_is) at c.requires.alike in
    let low : c.args.slot < length seats.seats.now = rw (← c.seats.view_is) at c.requires.exists in
    let put = put-in old s.count c.args.slot c.args.item seats.workers.number seats.seats.now none s.lists.items c.index_mut-list.result.now c.push.new.self same c.seats.invariant low c.index_mut-list.ensures.value c.in-Ok.ensures.items c.self.invariant.0 in
    rw (← c.self.view_is) (ap (λ x. record { workers = s.workers; items = x }) (spread_is _ _ _ put))

pub returns-in-Err-clause-refused : goal.returns-in-Err-clause-refused
returns-in-Err-clause-refused g c =
    let s = c.self.inside in
    let e = lists-kept s.lists.items (get_or c.seats.inside.seats.now c.args.slot (record { worker = 0; element = 0 })).worker c.index_mut-list.result.now c.push.new.self c.index_mut-list.ensures.value c.in-Err.ensures.items in
    rw (← c.self.view_is, e) refl
