use Rattle.std.proofs.Common.{◌+◌, take, ap, sym, ◌∙◌}
use Rattle.head_postings.proofs.Listed.{copied_more}
use Rattle.head_postings.proofs.Kept.{bytes, slots_in, named_slots}
use Rattle.head_postings.proofs.names.Names.copy.Goals as goal

pub loop-i-preserved : goal.loop-i-preserved
loop-i-preserved c =
    let es = c.self.inside.values.entries in
    let i = c.loop-i.i in
    copied_more bytes slots_in es c.loop-i.values.entries c.insert.new.self.entries i c.in-Some.name.now c.in_ok-name-in-Some.name c.in-Some.old.now c.in_ok-copy-in-Some.field-0
    c.len.ensures.unique (sym c.in-Some.ensures.entry) (c.in_ok-name-in-Some.ensures.items ∙ c.deref.ensures.value) c.in_ok-copy-in-Some.ensures
    (c.loop-i.invariant ∙ ap (take i) (sym (ap named_slots c.self.view_is))) c.in_ok-insert-in-Some.ensures.entries
    ∙ ap (take (i + 1)) (ap named_slots c.self.view_is)
