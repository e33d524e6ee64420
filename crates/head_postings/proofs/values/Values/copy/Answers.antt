use Rattle.std.proofs.Common.{◌+◌, take, ap, sym, ◌∙◌}
use Rattle.head_postings.proofs.Listed.{copied_more}
use Rattle.head_postings.proofs.Kept.{bytes, slots_in}
use Rattle.head_postings.proofs.values.Values.copy.Goals as goal

pub loop-i-preserved : goal.loop-i-preserved
loop-i-preserved c =
    let es = c.self.inside.lists.entries in
    let i = c.loop-i.i in
    copied_more bytes bytes es c.loop-i.lists.entries c.insert.new.self.entries i c.in-Some.value.now c.in_ok-value-in-Some.value c.in-Some.slots.now c.in_ok-slots-in-Some.slots
    c.len.ensures.unique (sym c.in-Some.ensures.entry) (c.in_ok-value-in-Some.ensures.items ∙ c.deref.ensures.value) (c.in_ok-slots-in-Some.ensures.items ∙ c.deref-in-Some.ensures.value)
    (c.loop-i.invariant ∙ ap (take i) (sym (ap slots_in c.self.view_is))) c.in_ok-insert-in-Some.ensures.entries
    ∙ ap (take (i + 1)) (ap slots_in c.self.view_is)
