use Rattle.std.proofs.Common.{◌≡◌, ◌<◌, ◌≤◌, length, refl, arith, sym, ◌∙◌}
use Rattle.head_deal.specs.Batches.{flat, shifted}
use Rattle.head_deal.proofs.Flat.{due-among}
use Rattle.head_deal.proofs.Stepping.{empty_done, part_done, part_stalled}
use Rattle.head_deal.proofs.parts.Part.step.Goals as goal

pub returns-then-place-self : goal.returns-then-place-self
returns-then-place-self g c =
    let s = c.self.inside in
    let n : c.len-place.result ≡ length s.outcomes.items = c.len-place.ensures ∙ s.outcomes.ok.0 in
    let m : s.due_count ≡ length (flat s.batches.items) = c.self.invariant.4 in
    let test = c.if-place-self.true in
    let high : length (flat s.batches.items) ≤ length s.outcomes.items = omega arith in
    (refl, rw (← c.self.view_is) (empty_done s.worker s.workers (flat s.batches.items) s.outcomes.items high))

pub index_mut-builder-requires : goal.index_mut-builder-requires
index_mut-builder-requires g c =
    let s = c.self.inside in
    let x = c.index.result.now in
    let due = c.index-due.result.now in
    let under : c.batch_of-batch.result.1 < length x.dues.items = rw (sym c.index.ensures) at (c.batch_of-batch.ensures.place x) in
    let among = due-among s.batches.items c.batch_of-batch.result.0 c.batch_of-batch.result.1 c.len-place.result x due c.batch_of-batch.ensures.batch c.index.ensures under c.index-due.ensures c.batch_of-batch.ensures.is in
    let within : due.element < length s.builders.items = rw (sym among.1) at (c.self.invariant.1 c.len-place.result (shifted x.base due) among.0) in
    rw s.builders.ok.0 within

pub returns-in-Err : goal.returns-in-Err
returns-in-Err g c =
    let b = g.B.Builder in
    let s = c.self.inside in
    let n : c.len-place.result ≡ length s.outcomes.items = c.len-place.ensures ∙ s.outcomes.ok.0 in
    let x = c.index.result.now in
    let due = c.index-due.result.now in
    let under : c.batch_of-batch.result.1 < length x.dues.items = rw (sym c.index.ensures) at (c.batch_of-batch.ensures.place x) in
    let among = due-among s.batches.items c.batch_of-batch.result.0 c.batch_of-batch.result.1 c.len-place.result x due c.batch_of-batch.ensures.batch c.index.ensures under c.index-due.ensures c.batch_of-batch.ensures.is in
    let low = among.0 in
    let within : due.element < length s.builders.items = rw (sym among.1) at (c.self.invariant.1 c.len-place.result (shifted x.base due) low) in
    let builder = c.index_mut-builder.result.now in
    let p = part_stalled b.value b.after b.outcome s.tag s.workers s.worker s.all_slots s.all_jobs s.builders.items (flat s.batches.items) s.outcomes.items due.element builder builder (omega arith) c.index_mut-builder.ensures.value within refl in
    rw (← c.self.view_is, c.in-Err.ensures.items) p

pub returns-in-Ok-apply : goal.returns-in-Ok-apply
returns-in-Ok-apply g c =
    let b = g.B.Builder in
    let s = c.self.inside in
    let n : c.len-place.result ≡ length s.outcomes.items = c.len-place.ensures ∙ s.outcomes.ok.0 in
    let x = c.index.result.now in
    let due = c.index-due.result.now in
    let under : c.batch_of-batch.result.1 < length x.dues.items = rw (sym c.index.ensures) at (c.batch_of-batch.ensures.place x) in
    let among = due-among s.batches.items c.batch_of-batch.result.0 c.batch_of-batch.result.1 c.len-place.result x due c.batch_of-batch.ensures.batch c.index.ensures under c.index-due.ensures c.batch_of-batch.ensures.is in
    let within : due.element < length s.builders.items = rw (sym among.1) at (c.self.invariant.1 c.len-place.result (shifted x.base due) among.0) in
    let p = part_done b.value b.after b.outcome s.tag s.workers s.worker s.all_slots s.all_jobs s.builders.items (flat s.batches.items) s.outcomes.items c.len-place.result (shifted x.base due) c.index_mut-builder.result.now c.apply.new.self c.in-Ok-apply.outcome (sym n) among.0 among.1 c.index_mut-builder.ensures.value within c.in-Ok-apply.ensures.changed c.in-Ok-apply.ensures.told in
    rw (← c.self.view_is, c.push_reserved.ensures.items, c.in-Ok.ensures.items) p

pub returns-in-Err-apply : goal.returns-in-Err-apply
returns-in-Err-apply g c =
    let b = g.B.Builder in
    let s = c.self.inside in
    let n : c.len-place.result ≡ length s.outcomes.items = c.len-place.ensures ∙ s.outcomes.ok.0 in
    let x = c.index.result.now in
    let due = c.index-due.result.now in
    let under : c.batch_of-batch.result.1 < length x.dues.items = rw (sym c.index.ensures) at (c.batch_of-batch.ensures.place x) in
    let among = due-among s.batches.items c.batch_of-batch.result.0 c.batch_of-batch.result.1 c.len-place.result x due c.batch_of-batch.ensures.batch c.index.ensures under c.index-due.ensures c.batch_of-batch.ensures.is in
    let low = among.0 in
    let within : due.element < length s.builders.items = rw (sym among.1) at (c.self.invariant.1 c.len-place.result (shifted x.base due) low) in
    let p = part_stalled b.value b.after b.outcome s.tag s.workers s.worker s.all_slots s.all_jobs s.builders.items (flat s.batches.items) s.outcomes.items due.element c.index_mut-builder.result.now c.apply.new.self (omega arith) c.index_mut-builder.ensures.value within c.in-Err-apply.ensures.refused in
    rw (← c.self.view_is, c.in-Ok.ensures.items) p
