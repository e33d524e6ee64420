use Rattle.std.proofs.Common.{subst, ap, ◌∙◌}
use Rattle.wal_record.specs.Labels.{same_text}
use Rattle.head_postings.specs.Postings.{listed, slots_of}
use Rattle.head_postings.specs.Slots.{IsAscending}
use Rattle.head_postings.proofs.Listed.{seen}
use Rattle.head_postings.proofs.Unions.{union_step}
use Rattle.head_postings.proofs.Kept.{bytes, slots_in, put_popped, popped_had, gone, listed-if}
use Rattle.head_postings.proofs.names.Names.merge.Goals as goal

pub absorb-requires-clause-those : goal.absorb-requires-clause-those
absorb-requires-clause-those c v =
    let k = c.in-Some.name in
    let o = c.in-Some.more in
    let old = c.loop-name.values.entries in
    let new = c.pop.new.self.entries in
    subst (λ z. IsAscending (listed z v)) (popped_had k.items o.slots (seen bytes slots_in old) (seen bytes slots_in new) (put_popped slots_in k o old new c.in-Some.ensures.entries c.in-Some.ensures.updates.1)) (c.loop-name.invariant k.items v).coming

pub loop-name-preserved : goal.loop-name-preserved
loop-name-preserved c n v =
    let k = c.in-Some.name in
    let o = c.in-Some.more in
    let old = c.loop-name.values.entries in
    let new = c.pop.new.self.entries in
    union_step (same_text n k.items) (slots_of c.args.self.now.slots n v) (slots_of c.args.other.slots n v) (slots_of c.loop-name.self.slots n v) (slots_of (seen bytes slots_in old) n v) (listed o.slots v) (slots_of c.absorb.new.self.slots n v) (slots_of (seen bytes slots_in new) n v)
    (c.loop-name.invariant n v)
    (ap (λ z. listed z v) (put_popped slots_in k o old new c.in-Some.ensures.entries c.in-Some.ensures.updates.1 n) ∙ listed-if (same_text n k.items) o.slots (listed (seen bytes slots_in new) n) v)
    (λ e. ap (λ z. listed z v) (gone slots_in k.items new c.in-Some.ensures.updates.1 n e))
    (c.in_ok-absorb.ensures n v)
