use Rattle.std.proofs.Common.{◌≡◌, ◌<◌, ◌+◌, All, map, length, sym, ◌∙◌}
use Rattle.head_deal.specs.Holding.{held}
use Rattle.head_deal.specs.Spreads.{IsSpread}
use Rattle.head_deal.proofs.Holding.{holds_is, holds_view}
use Rattle.head_deal.proofs.Lists.{lists_fit, holds_dealt, dealt_all-is}
use Rattle.head_deal.proofs.dealing.Deal.deal_all.Goals as goal

pub queue_all-requires-clause-fit : goal.queue_all-requires-clause-fit
queue_all-requires-clause-fit g c =
    let s = c.self.inside in
    let t = c.spread.inside in
    let d = held s.tag s.workers.number s.slots s.count s.parts.items in
    let within : All (λ p. p.0 < length d.builders) c.args.spread.items = rw (← c.self.view_is) at c.requires.exist in
    let same : c.args.spread.workers ≡ s.workers.number = rw (← c.self.view_is) at c.requires.workers in
    let spread : IsSpread c.args.spread t.count (map (λ l. l.items) t.lists.items) = rw c.spread.view_is at c.spread.invariant.0 in
    lists_fit d s.slots s.count t.count s.parts.items c.args.spread t.lists.items c.self.invariant.0 same within spread

pub invariant_of-result : goal.invariant_of-result
invariant_of-result g c =
    let s = c.self.inside in
    let t = c.spread.inside in
    let d = held s.tag s.workers.number s.slots s.count s.parts.items in
    let within : All (λ p. p.0 < length d.builders) c.args.spread.items = rw (← c.self.view_is) at c.requires.exist in
    let same : c.args.spread.workers ≡ s.workers.number = rw (← c.self.view_is) at c.requires.workers in
    let spread : IsSpread c.args.spread t.count (map (λ l. l.items) t.lists.items) = rw c.spread.view_is at c.spread.invariant.0 in
    let h = holds_dealt d s.slots s.count t.count s.parts.items c.queue_all.new.parts.items c.args.spread t.lists.items c.self.invariant.0 same within spread c.queue_all.ensures.each c.in_ok-queue_all.ensures.queued in
    (holds_view _ s.slots (s.count + t.count) _ h, c.self.invariant.1, c.self.invariant.2)

pub returns : goal.returns
returns g c =
    let s = c.self.inside in
    let t = c.spread.inside in
    let d = held s.tag s.workers.number s.slots s.count s.parts.items in
    let within : All (λ p. p.0 < length d.builders) c.args.spread.items = rw (← c.self.view_is) at c.requires.exist in
    let same : c.args.spread.workers ≡ s.workers.number = rw (← c.self.view_is) at c.requires.workers in
    let spread : IsSpread c.args.spread t.count (map (λ l. l.items) t.lists.items) = rw c.spread.view_is at c.spread.invariant.0 in
    let h = holds_dealt d s.slots s.count t.count s.parts.items c.queue_all.new.parts.items c.args.spread t.lists.items c.self.invariant.0 same within spread c.queue_all.ensures.each c.in_ok-queue_all.ensures.queued in
    record { dealt = rw (← c.self.view_is) (holds_is _ s.slots (s.count + t.count) _ h ∙ sym (dealt_all-is d c.args.spread.items)) }
