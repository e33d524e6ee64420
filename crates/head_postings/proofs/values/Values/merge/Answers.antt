use Rattle.std.proofs.Common.{subst}
use Rattle.wal_record.specs.Labels.{same_text}
use Rattle.head_postings.specs.Postings.{listed}
use Rattle.head_postings.specs.Slots.{IsAscending}
use Rattle.head_postings.proofs.Listed.{seen}
use Rattle.head_postings.proofs.Unions.{union_step}
use Rattle.head_postings.proofs.Kept.{bytes, put_popped, popped_had, gone}
use Rattle.head_postings.proofs.values.Values.merge.Goals as goal

pub absorb-requires-clause-those : goal.absorb-requires-clause-those
absorb-requires-clause-those c =
    let k = c.in-Some.value in
    let o = c.in-Some.slots in
    let old = c.loop-value.lists.entries in
    let new = c.pop.new.self.entries in
    subst IsAscending (popped_had k.items o.items (seen bytes bytes old) (seen bytes bytes new) (put_popped bytes k o old new c.in-Some.ensures.entries c.in-Some.ensures.updates.1)) (c.loop-value.invariant k.items).coming

pub loop-value-preserved : goal.loop-value-preserved
loop-value-preserved c v =
    let k = c.in-Some.value in
    let o = c.in-Some.slots in
    let old = c.loop-value.lists.entries in
    let new = c.pop.new.self.entries in
    union_step (same_text v k.items) (listed c.args.self.now.slots v) (listed c.args.other.slots v) (listed c.loop-value.self.slots v) (listed (seen bytes bytes old) v) o.items (listed c.absorb.new.self.slots v) (listed (seen bytes bytes new) v)
    (c.loop-value.invariant v)
    (put_popped bytes k o old new c.in-Some.ensures.entries c.in-Some.ensures.updates.1 v)
    (gone bytes k.items new c.in-Some.ensures.updates.1 v)
    (c.in_ok-absorb.ensures v)
