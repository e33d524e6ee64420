use Rattle.std.proofs.Common.{ap, sym, ◌∙◌}
use Rattle.head_postings.specs.Postings.{listed, slots_of}
use Rattle.head_postings.proofs.Listed.{listed-found, listed-none}
use Rattle.head_postings.proofs.Kept.{bytes, slots_in, named_slots}
use Rattle.head_postings.proofs.names.Names.find.Goals as goal

pub returns-in-Some : goal.returns-in-Some
returns-in-Some c =
    let t = c.args.name.now in
    let v = c.args.value.now in
    c.find.ensures ∙ ap (λ e. listed e v) (sym (listed-found bytes slots_in t c.self.inside.values.entries c.in-Some.values.now (sym c.in-Some.ensures.value))) ∙ ap (λ e. slots_of e t v) (ap named_slots c.self.view_is)

pub returns-in-None : goal.returns-in-None
returns-in-None c =
    let t = c.args.name.now in
    let v = c.args.value.now in
    ap (λ e. listed e v) (sym (listed-none bytes slots_in t c.self.inside.values.entries (sym c.in-None.ensures.value))) ∙ ap (λ e. slots_of e t v) (ap named_slots c.self.view_is)
