use Rattle.std.proofs.Common.{◌++◌, ◌∷◌, [], ◌∙◌, ap}
use Rattle.indexmap.specs.IndexMap.{set_value_at}
use Rattle.wal_record.specs.Labels.{same_text}
use Rattle.head_postings.specs.Postings.{listed}
use Rattle.head_postings.proofs.Listed.{seen, changed, append_if, same_if, on_err_always}
use Rattle.head_postings.proofs.Kept.{bytes, put_at, was_at, put_new, was_none, slots_in}
use Rattle.head_postings.proofs.values.Values.push.Goals as goal

pub returns-in_err-push-in-Some-clause-err : goal.returns-in_err-push-in-Some-clause-err
returns-in_err-push-in-Some-clause-err c =
    let t = c.args.value.now in
    let es = c.self.inside.lists.entries in
    let now = c.args.self.now.slots in
    let i = c.in-Some.index in
    let o = c.index_mut.result.now in
    let w = c.push.new.self in
    on_err_always c.from_residual.result (λ v.
    changed (λ xs. xs) t o.items w.items now (seen bytes bytes (set_value_at es i w))
    (put_at bytes t es now (ap slots_in c.self.view_is) i w c.in-Some.ensures.index)
    (was_at bytes t es now (ap slots_in c.self.view_is) i o c.in-Some.ensures.value c.index_mut.ensures.value)
    c.in_err-push-in-Some.ensures.items v ∙ same_if (same_text v t) (listed now v))

pub returns-in_ok-push-in-Some-clause-ok : goal.returns-in_ok-push-in-Some-clause-ok
returns-in_ok-push-in-Some-clause-ok c v =
    let t = c.args.value.now in
    let s = c.args.slot in
    let es = c.self.inside.lists.entries in
    let now = c.args.self.now.slots in
    let i = c.in-Some.index in
    let o = c.index_mut.result.now in
    let w = c.push.new.self in
    changed (λ xs. xs ++ s ∷ []) t o.items w.items now (seen bytes bytes (set_value_at es i w))
    (put_at bytes t es now (ap slots_in c.self.view_is) i w c.in-Some.ensures.index)
    (was_at bytes t es now (ap slots_in c.self.view_is) i o c.in-Some.ensures.value c.index_mut.ensures.value)
    c.in_ok-push-in-Some.ensures.items v ∙ append_if (same_text v t) (listed now v) (s ∷ [])

pub returns-in_ok-insert-in-None-clause-ok : goal.returns-in_ok-insert-in-None-clause-ok
returns-in_ok-insert-in-None-clause-ok c v =
    let t = c.args.value.now in
    let s = c.args.slot in
    let es = c.self.inside.lists.entries in
    let now = c.args.self.now.slots in
    let k = c.in_ok-key-in-None.key in
    let w = c.push-in-None.new.self in
    changed (λ xs. xs ++ s ∷ []) t [] w.items now (seen bytes bytes c.insert.new.self.entries)
    (put_new bytes t es now (ap slots_in c.self.view_is) k w c.insert.new.self.entries c.in_ok-key-in-None.ensures.items c.in-None.ensures.found c.in_ok-insert-in-None.ensures.entries)
    (was_none bytes t es now (ap slots_in c.self.view_is) c.in-None.ensures.found)
    (c.in_ok-push-in-None.ensures.items ∙ ap (λ xs. xs ++ s ∷ []) c.new-slots.ensures.items) v ∙ append_if (same_text v t) (listed now v) (s ∷ [])
