use Rattle.std.proofs.Common.{◌<◌, length, sym, arith, ◌∙◌}
use Rattle.head_deal.specs.Holding.{held}
use Rattle.head_deal.proofs.AtOnce.{deal_applied}
use Rattle.head_deal.proofs.Holding.{element_within}
use Rattle.head_deal.proofs.Seating.{seat_there}
use Rattle.head_deal.proofs.dealing.Deal.apply.Goals as goal

pub index-seat-requires : goal.index-seat-requires
index-seat-requires g c =
    let s = c.self.inside in
    let d = held s.tag s.workers.number s.slots s.count s.parts.items in
    let low : c.args.slot < length d.builders = rw (← c.self.view_is) at c.requires.exists in
    rw s.seats.ok.0 (seat_there c.args.slot s.slots (length d.builders) (length s.seats.items) (omega arith) low c.self.invariant.0.slots c.self.invariant.2)

pub apply-requires : goal.apply-requires
apply-requires g c =
    let s = c.self.inside in
    let d = held s.tag s.workers.number s.slots s.count s.parts.items in
    let low : c.args.slot < length d.builders = rw (← c.self.view_is) at c.requires.exists in
    let seat = rw (sym c.index-seat.ensures) at (c.self.invariant.1 c.args.slot c.index-seat.result.now (seat_there c.args.slot s.slots (length d.builders) (length s.seats.items) (omega arith) low c.self.invariant.0.slots c.self.invariant.2)) in
    element_within d s.slots s.count s.parts.items c.args.slot c.index-seat.result.now.worker c.index-seat.result.now.element c.index_mut.result.now c.self.invariant.0 low seat.0 seat.1 c.index_mut.ensures.value

pub invariant_of-self : goal.invariant_of-self
invariant_of-self g c =
    let b = g.B.Builder in
    let s = c.self.inside in
    let d = held s.tag s.workers.number s.slots s.count s.parts.items in
    let low : c.args.slot < length d.builders = rw (← c.self.view_is) at c.requires.exists in
    let seat = rw (sym c.index-seat.ensures) at (c.self.invariant.1 c.args.slot c.index-seat.result.now (seat_there c.args.slot s.slots (length d.builders) (length s.seats.items) (omega arith) low c.self.invariant.0.slots c.self.invariant.2)) in
    let a = deal_applied b.value b.after b.outcome d s.slots s.count s.parts.items c.args.slot c.index-seat.result.now.worker c.index-seat.result.now.element c.args.item.now c.index_mut.result.now c.apply.new.self c.apply.result c.self.invariant.0 low seat.0 seat.1 c.index_mut.ensures.value c.apply.ensures in
    (a.holds, c.self.invariant.1, c.self.invariant.2)

pub returns-clause-slots : goal.returns-clause-slots
returns-clause-slots g c =
    let b = g.B.Builder in
    let s = c.self.inside in
    let d = held s.tag s.workers.number s.slots s.count s.parts.items in
    let low : c.args.slot < length d.builders = rw (← c.self.view_is) at c.requires.exists in
    let seat = rw (sym c.index-seat.ensures) at (c.self.invariant.1 c.args.slot c.index-seat.result.now (seat_there c.args.slot s.slots (length d.builders) (length s.seats.items) (omega arith) low c.self.invariant.0.slots c.self.invariant.2)) in
    let a = deal_applied b.value b.after b.outcome d s.slots s.count s.parts.items c.args.slot c.index-seat.result.now.worker c.index-seat.result.now.element c.args.item.now c.index_mut.result.now c.apply.new.self c.apply.result c.self.invariant.0 low seat.0 seat.1 c.index_mut.ensures.value c.apply.ensures in
    rw (← c.self.view_is) a.slots_are

pub returns-clause-told : goal.returns-clause-told
returns-clause-told g c =
    let b = g.B.Builder in
    let s = c.self.inside in
    let d = held s.tag s.workers.number s.slots s.count s.parts.items in
    let low : c.args.slot < length d.builders = rw (← c.self.view_is) at c.requires.exists in
    let seat = rw (sym c.index-seat.ensures) at (c.self.invariant.1 c.args.slot c.index-seat.result.now (seat_there c.args.slot s.slots (length d.builders) (length s.seats.items) (omega arith) low c.self.invariant.0.slots c.self.invariant.2)) in
    let a = deal_applied b.value b.after b.outcome d s.slots s.count s.parts.items c.args.slot c.index-seat.result.now.worker c.index-seat.result.now.element c.args.item.now c.index_mut.result.now c.apply.new.self c.apply.result c.self.invariant.0 low seat.0 seat.1 c.index_mut.ensures.value c.apply.ensures in
    rw (← c.self.view_is) a.told

pub returns-clause-refused : goal.returns-clause-refused
returns-clause-refused g c =
    let b = g.B.Builder in
    let s = c.self.inside in
    let d = held s.tag s.workers.number s.slots s.count s.parts.items in
    let low : c.args.slot < length d.builders = rw (← c.self.view_is) at c.requires.exists in
    let seat = rw (sym c.index-seat.ensures) at (c.self.invariant.1 c.args.slot c.index-seat.result.now (seat_there c.args.slot s.slots (length d.builders) (length s.seats.items) (omega arith) low c.self.invariant.0.slots c.self.invariant.2)) in
    let a = deal_applied b.value b.after b.outcome d s.slots s.count s.parts.items c.args.slot c.index-seat.result.now.worker c.index-seat.result.now.element c.args.item.now c.index_mut.result.now c.apply.new.self c.apply.result c.self.invariant.0 low seat.0 seat.1 c.index_mut.ensures.value c.apply.ensures in
    rw (← c.self.view_is) a.refused

pub returns-clause-none : goal.returns-clause-none
returns-clause-none g c =
    let b = g.B.Builder in
    let s = c.self.inside in
    let d = held s.tag s.workers.number s.slots s.count s.parts.items in
    let low : c.args.slot < length d.builders = rw (← c.self.view_is) at c.requires.exists in
    let seat = rw (sym c.index-seat.ensures) at (c.self.invariant.1 c.args.slot c.index-seat.result.now (seat_there c.args.slot s.slots (length d.builders) (length s.seats.items) (omega arith) low c.self.invariant.0.slots c.self.invariant.2)) in
    let a = deal_applied b.value b.after b.outcome d s.slots s.count s.parts.items c.args.slot c.index-seat.result.now.worker c.index-seat.result.now.element c.args.item.now c.index_mut.result.now c.apply.new.self c.apply.result c.self.invariant.0 low seat.0 seat.1 c.index_mut.ensures.value c.apply.ensures in
    a.jobs ∙ rw (← c.self.view_is) at c.requires.none

pub returns-clause-builders : goal.returns-clause-builders
returns-clause-builders g c =
    let b = g.B.Builder in
    let s = c.self.inside in
    let d = held s.tag s.workers.number s.slots s.count s.parts.items in
    let low : c.args.slot < length d.builders = rw (← c.self.view_is) at c.requires.exists in
    let seat = rw (sym c.index-seat.ensures) at (c.self.invariant.1 c.args.slot c.index-seat.result.now (seat_there c.args.slot s.slots (length d.builders) (length s.seats.items) (omega arith) low c.self.invariant.0.slots c.self.invariant.2)) in
    let a = deal_applied b.value b.after b.outcome d s.slots s.count s.parts.items c.args.slot c.index-seat.result.now.worker c.index-seat.result.now.element c.args.item.now c.index_mut.result.now c.apply.new.self c.apply.result c.self.invariant.0 low seat.0 seat.1 c.index_mut.ensures.value c.apply.ensures in
    rw (← c.self.view_is) a.builders
