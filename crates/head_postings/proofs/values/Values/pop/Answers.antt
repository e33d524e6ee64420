use Rattle.std.proofs.Common.{◌-◌, ◌∙◌, ap, refl, length, take}
use Rattle.indexmap.specs.IndexMap.{set_value_at}
use Rattle.head_postings.proofs.Listed.{seen, changed, kept_none}
use Rattle.head_postings.proofs.Kept.{bytes, put_at, was_at, was_none, slots_in}
use Rattle.head_postings.proofs.values.Values.pop.Goals as goal

pub returns-in-Some : goal.returns-in-Some
returns-in-Some c v =
    let t = c.args.value.now in
    let es = c.self.inside.lists.entries in
    let now = c.args.self.now.slots in
    let i = c.in-Some.index in
    let o = c.index_mut.result.now in
    let w = c.pop-last.new.self in
    changed (λ xs. take (length xs - 1) xs) t o.items w.items now (seen bytes bytes (set_value_at es i w))
    (put_at bytes t es now (ap slots_in c.self.view_is) i w c.in-Some.ensures.index)
    (was_at bytes t es now (ap slots_in c.self.view_is) i o c.in-Some.ensures.value c.index_mut.ensures.value)
    (c.pop-last.ensures.rest ∙ ap (λ n. take (n - 1) o.items) o.ok.0) v

pub returns-in-None : goal.returns-in-None
returns-in-None c v =
    kept_none (λ xs. take (length xs - 1) xs) c.args.value.now c.args.self.now.slots (was_none bytes c.args.value.now c.self.inside.lists.entries c.args.self.now.slots (ap slots_in c.self.view_is) c.in-None.ensures.found) refl v
