use Rattle.std.proofs.Common.{◌≡◌, ◌++◌, ◌∷◌, [], ◌∙◌, ap, sym, refl}
use Rattle.std.specs.Prelude.{◌&&◌, if◌then◌else◌}
use Rattle.indexmap.specs.IndexMap.{set_value_at}
use Rattle.wal_record.specs.Labels.{same_text}
use Rattle.hw_bytes.proofs.Lists.{append_none}
use Rattle.head_postings.specs.Postings.{listed, slots_of}
use Rattle.head_postings.proofs.Listed.{seen, changed_under, on_err_always}
use Rattle.head_postings.proofs.Kept.{bytes, slots_in, put_at, was_at, put_new, was_none, named_slots}
use Rattle.head_postings.proofs.names.Names.push.Goals as goal

pub returns-in_err-push-in-Some-clause-err : goal.returns-in_err-push-in-Some-clause-err
returns-in_err-push-in-Some-clause-err c =
    let t = c.args.name.now in
    let es = c.self.inside.values.entries in
    let now = c.args.self.now.slots in
    let i = c.in-Some.index in
    let o = c.index_mut.result.now in
    let w = c.push.new.self in
    on_err_always c.from_residual.result (
    changed_under (λ b v xs ys. ys ≡ xs) t o.slots w.slots now (seen bytes slots_in (set_value_at es i w))
    (put_at slots_in t es now (ap named_slots c.self.view_is) i w c.in-Some.ensures.index)
    (was_at slots_in t es now (ap named_slots c.self.view_is) i o c.in-Some.ensures.value c.index_mut.ensures.value)
    c.in_err-push-in-Some.ensures.err (λ n v. refl))

pub returns-in_err-insert-in-None-clause-err : goal.returns-in_err-insert-in-None-clause-err
returns-in_err-insert-in-None-clause-err c =
    on_err_always c.from_residual-in_err-insert-in-None.result (λ n v. ap (λ z. slots_of (seen bytes slots_in z) n v) c.in_err-insert-in-None.ensures.err ∙ ap (λ z. slots_of z n v) (ap named_slots c.self.view_is))

pub returns-in_ok-push-in-Some-clause-ok : goal.returns-in_ok-push-in-Some-clause-ok
returns-in_ok-push-in-Some-clause-ok c =
    let t = c.args.name.now in
    let s = c.args.slot in
    let es = c.self.inside.values.entries in
    let now = c.args.self.now.slots in
    let i = c.in-Some.index in
    let o = c.index_mut.result.now in
    let w = c.push.new.self in
    changed_under (λ b v xs ys. ys ≡ xs ++ (if b && same_text v c.args.value.now then s ∷ [] else [])) t o.slots w.slots now (seen bytes slots_in (set_value_at es i w))
    (put_at slots_in t es now (ap named_slots c.self.view_is) i w c.in-Some.ensures.index)
    (was_at slots_in t es now (ap named_slots c.self.view_is) i o c.in-Some.ensures.value c.index_mut.ensures.value)
    c.in_ok-push-in-Some.ensures.ok (λ n v. sym (append_none (slots_of now n v)))

pub returns-in_ok-insert-in-None-clause-ok : goal.returns-in_ok-insert-in-None-clause-ok
returns-in_ok-insert-in-None-clause-ok c =
    let t = c.args.name.now in
    let s = c.args.slot in
    let es = c.self.inside.values.entries in
    let now = c.args.self.now.slots in
    let w = c.trim.new.self in
    changed_under (λ b v xs ys. ys ≡ xs ++ (if b && same_text v c.args.value.now then s ∷ [] else [])) t [] w.slots now (seen bytes slots_in c.insert.new.self.entries)
    (put_new slots_in t es now (ap named_slots c.self.view_is) c.in_ok-key-in-None.key w c.insert.new.self.entries c.in_ok-key-in-None.ensures.items c.in-None.ensures.found c.in_ok-insert-in-None.ensures.entries)
    (was_none slots_in t es now (ap named_slots c.self.view_is) c.in-None.ensures.found)
    (λ v. ap (λ z. listed z.slots v) c.trim.ensures ∙ c.in_ok-push-in-None.ensures.ok v ∙ ap (λ z. listed z v ++ (if same_text v c.args.value.now then s ∷ [] else [])) c.new-values.ensures) (λ n v. sym (append_none (slots_of now n v)))
