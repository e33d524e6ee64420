use Rattle.std.proofs.Common.{ap, sym, ◌∙◌}
use Rattle.head_postings.specs.Postings.{listed}
use Rattle.head_postings.proofs.Listed.{listed-found, listed-none}
use Rattle.head_postings.proofs.Kept.{bytes, slots_in}
use Rattle.head_postings.proofs.values.Values.find.Goals as goal

pub returns-in-Some : goal.returns-in-Some
returns-in-Some c =
    let t = c.args.value.now in
    c.as_slice.ensures.value ∙ sym (listed-found bytes bytes t c.self.inside.lists.entries c.in-Some.slots.now (sym c.in-Some.ensures.value)) ∙ ap (λ e. listed e t) (ap slots_in c.self.view_is)

pub returns-in-None : goal.returns-in-None
returns-in-None c =
    let t = c.args.value.now in
    sym (listed-none bytes bytes t c.self.inside.lists.entries (sym c.in-None.ensures.value)) ∙ ap (λ e. listed e t) (ap slots_in c.self.view_is)
