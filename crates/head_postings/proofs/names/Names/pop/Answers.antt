use Rattle.std.proofs.Common.{◌≡◌, ◌-◌, ◌∙◌, ap, refl, length, take}
use Rattle.std.specs.Prelude.{◌&&◌, if◌then◌else◌}
use Rattle.indexmap.specs.IndexMap.{set_value_at}
use Rattle.wal_record.specs.Labels.{same_text}
use Rattle.wal_record.proofs.SameText.{same_text_exact}
use Rattle.head_postings.specs.Postings.{listed, slots_of}
use Rattle.head_postings.proofs.Listed.{seen, changed_under}
use Rattle.head_postings.proofs.Kept.{bytes, slots_in, put_at, was_at, was_none, kept_both, named_slots}
use Rattle.head_postings.proofs.names.Names.pop.Goals as goal

pub returns-in-Some : goal.returns-in-Some
returns-in-Some c =
    let t = c.args.name.now in
    let es = c.self.inside.values.entries in
    let now = c.args.self.now.slots in
    let i = c.in-Some.index in
    let o = c.index_mut.result.now in
    let w = c.pop.new.self in
    changed_under (λ b v xs ys. ys ≡ (if b && same_text v c.args.value.now then take (length xs - 1) xs else xs)) t o.slots w.slots now (seen bytes slots_in (set_value_at es i w))
    (put_at slots_in t es now (ap named_slots c.self.view_is) i w c.in-Some.ensures.index)
    (was_at slots_in t es now (ap named_slots c.self.view_is) i o c.in-Some.ensures.value c.index_mut.ensures.value)
    c.pop.ensures (λ n v. refl)

pub returns-in-None : goal.returns-in-None
returns-in-None c n v =
    let t = c.args.name.now in
    let now = c.args.self.now.slots in
    kept_both (same_text n t) (same_text v c.args.value.now) (slots_of now n v) (λ xs. take (length xs - 1) xs)
    (λ e. ap (λ z. slots_of now z v) (same_text_exact n t e) ∙ ap (λ z. listed z v) (was_none slots_in t c.self.inside.values.entries now (ap named_slots c.self.view_is) c.in-None.ensures.found)) refl
