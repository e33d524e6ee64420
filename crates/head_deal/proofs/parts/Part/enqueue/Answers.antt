use Rattle.std.proofs.Common.{◌≡◌, ◌<◌, ◌≤◌, ◌+◌, ◌++◌, ◌∷◌, [], length, arith, ap, refl, ◌∙◌}
use Rattle.std.proofs.lemmas.List.{length-append}
use Rattle.head_deal.specs.Dealing.{strided}
use Rattle.head_deal.specs.Batches.{flat}
use Rattle.head_deal.specs.Entries.{entries}
use Rattle.head_deal.specs.declared.parts.Due.{Due}
use Rattle.head_deal.specs.declared.batches.ItemBatch.{ItemBatch}
use Rattle.head_deal.proofs.Entries.{entries-more, all-push, length-strided}
use Rattle.head_deal.proofs.Flat.{flat-taken, flat-kept}
use Rattle.head_deal.proofs.parts.Part.enqueue.Goals as goal

pub invariant_of-self-in-Ok-push : goal.invariant_of-self-in-Ok-push
invariant_of-self-in-Ok-push g c =
    let s = c.self.inside in
    let i = c.self.invariant in
    let b = c.index_mut-batch.result.now in
    let b' : ItemBatch _ = record { base = b.base; dues = c.push.new.self } in
    let due : Due _ = record { number = c.args.number; element = c.args.element; item = c.args.item } in
    let base : b.base ≤ c.args.number = rw (← c.index_mut-batch.ensures.value) at (c.in-Ok.ensures.base b) in
    let e = flat-taken s.batches.items c.open_last.new.batches.items c.in-Ok.place c.args.number c.args.element c.args.item b b' c.open_last.ensures.same c.in-Ok.ensures.last c.index_mut-batch.ensures.value base refl c.in-Ok-push.ensures.items in
    let low : c.args.element < length (strided s.worker s.workers s.builders.items) = rw (← c.self.view_is) at c.requires in
    let low' : c.args.element < length s.builders.items = omega (arith, length-strided s.worker s.workers s.builders.items) in
    let before = i.2 in
    let count = i.4 in
    let more : length (flat s.batches.items ++ due ∷ []) ≡ length (flat s.batches.items) + 1 = length-append (flat s.batches.items) (due ∷ []) in
    let plus = c.in-Some.ensures in
    rw e (i.0, all-push (λ due. due.element < length s.builders.items) (flat s.batches.items) due i.1 low', omega arith, i.3, omega arith, c.open_last.ensures.spare)

pub invariant_of-self-in-Err : goal.invariant_of-self-in-Err
invariant_of-self-in-Err g c =
    let b = c.index_mut-batch.result.now in
    let b' : ItemBatch _ = record { base = b.base; dues = c.push.new.self } in
    let e = flat-kept c.open_last.new.batches.items c.in-Ok.place b b' c.index_mut-batch.ensures.value refl c.in-Err.ensures.items ∙ c.open_last.ensures.same in
    let i = c.self.invariant in
    rw e (i.0, i.1, i.2, i.3, i.4, c.open_last.ensures.spare)

pub returns-in-Err-clause-refused : goal.returns-in-Err-clause-refused
returns-in-Err-clause-refused g c =
    let s = c.self.inside in
    let b = c.index_mut-batch.result.now in
    let b' : ItemBatch _ = record { base = b.base; dues = c.push.new.self } in
    let e = flat-kept c.open_last.new.batches.items c.in-Ok.place b b' c.index_mut-batch.ensures.value refl c.in-Err.ensures.items ∙ c.open_last.ensures.same in
    rw (← c.self.view_is) (ap (λ x. record { tag = s.tag; workers = s.workers; worker = s.worker; all_slots = s.all_slots; all_jobs = s.all_jobs; slots = strided s.worker s.workers s.builders.items; jobs = entries s.worker s.workers x s.outcomes.items }) e)

pub returns-in-Ok-push-clause-taken : goal.returns-in-Ok-push-clause-taken
returns-in-Ok-push-clause-taken g c =
    let s = c.self.inside in
    let b = c.index_mut-batch.result.now in
    let b' : ItemBatch _ = record { base = b.base; dues = c.push.new.self } in
    let base : b.base ≤ c.args.number = rw (← c.index_mut-batch.ensures.value) at (c.in-Ok.ensures.base b) in
    let e = flat-taken s.batches.items c.open_last.new.batches.items c.in-Ok.place c.args.number c.args.element c.args.item b b' c.open_last.ensures.same c.in-Ok.ensures.last c.index_mut-batch.ensures.value base refl c.in-Ok-push.ensures.items in
    rw (← c.self.view_is) (ap (λ x. record { tag = s.tag; workers = s.workers; worker = s.worker; all_slots = s.all_slots; all_jobs = s.all_jobs; slots = strided s.worker s.workers s.builders.items; jobs = x }) (ap (λ x. entries s.worker s.workers x s.outcomes.items) e ∙ entries-more s.worker s.workers (flat s.batches.items) s.outcomes.items _ c.self.invariant.2))
