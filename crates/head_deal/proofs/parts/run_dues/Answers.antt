use Rattle.std.proofs.lemmas.List.{length-append, length-set}
use Rattle.std.proofs.Common.{rules, ◌+◌, ◌∷◌, [], ◌<◌, ◌≤◌, ◌≡◌, length, take, arith, refl, sym, ◌∙◌, vec_len, vec_capacity}
use Rattle.std.proofs.lemmas.Result.{err_from_is_err_and}
use Rattle.head_deal.specs.Batches.{flat, shifted}
use Rattle.head_deal.specs.Entries.{entries}
use Rattle.head_deal.proofs.Flat.{due-among, flat-take, flat-take-all}
use Rattle.head_deal.proofs.Running.{all_done}
use Rattle.head_deal.proofs.Entries.{run_first, run_more, run_stopped, run_none, length-entries}
use Rattle.head_deal.proofs.parts.run_dues.Goals as goal

pub returns-in_err-reserve-clause-stopped : goal.returns-in_err-reserve-clause-stopped
returns-in_err-reserve-clause-stopped g c =
    let n : c.len-done.result ≡ length c.args.outcomes.now.items = c.len-done.ensures ∙ c.args.outcomes.now.ok.0 in
    let l : vec_len c.args.outcomes.now ≡ length c.args.outcomes.now.items = c.args.outcomes.now.ok.0 in
    let some = c.requires.some in
    let count = c.requires.count in
    let full = c.in_err-reserve.ensures.full in
    let cap : vec_len c.args.outcomes.now ≤ vec_capacity c.args.outcomes.now = c.args.outcomes.now.ok.1 in
    let low : length c.args.outcomes.now.items < length (flat c.args.batches.now.items) = omega arith in
    let p = err_from_is_err_and c.from_residual.result c.from_residual.ensures.1 in
    rw (p.1, c.in_err-reserve.ensures.items) (length c.args.outcomes.now.items, run_none c.args.workers c.args.worker (flat c.args.batches.now.items) c.args.outcomes.now.items low)

pub loop-number-init : goal.loop-number-init
loop-number-init g c =
    let b = g.B.Builder in
    let n : c.len-done.result ≡ length c.args.outcomes.now.items = c.len-done.ensures ∙ c.args.outcomes.now.ok.0 in
    let l : vec_len c.args.outcomes.now ≡ length c.args.outcomes.now.items = c.args.outcomes.now.ok.0 in
    let some = c.requires.some in
    let count = c.requires.count in
    let room = c.in_ok-reserve.ensures.ok in
    let long = c.in_ok-reserve.ensures.len in
    let first = run_first b.value b.after b.outcome c.args.workers c.args.worker c.args.builders.now.items (flat c.args.batches.now.items) c.args.outcomes.now.items c.requires.workers c.requires.fit in
    (rw c.in_ok-reserve.ensures.items first, rw c.in_ok-reserve.ensures.items (omega arith), omega arith, rw c.in_ok-reserve.ensures.items some)

pub index_mut-builder-requires : goal.index_mut-builder-requires
index_mut-builder-requires g c =
    let i = c.loop-place.invariant in
    let bs = c.args.batches.now.items in
    let os = c.loop-place.outcomes.items in
    let x = c.index.result.now in
    let d = c.index-due.result.now in
    let many : c.len-number-end.result ≡ length bs = c.len-number-end.ensures ∙ c.args.batches.now.ok.0 in
    let long : c.len.result ≡ length x.dues.items = c.len.ensures ∙ x.dues.ok.0 in
    let end : c.len-place-end.result ≡ length x.dues.items = c.len-place-end.ensures ∙ x.dues.ok.0 in
    let test = c.loop-number-test.true in
    let before = c.loop-place-test.true in
    let skip = c.min-first.ensures in
    let start = c.loop-place.auto.place in
    let sum = i.1 in
    let at : length (flat (take c.loop-number.number bs)) + c.loop-place.place ≡ length os = omega arith in
    let among = due-among bs c.loop-number.number c.loop-place.place (length os) x d (omega arith) c.index.ensures (omega arith) c.index-due.ensures at in
    let fit : d.element < length c.args.builders.now.items = rw (sym among.1) at (c.requires.fit (length os) (shifted x.base d) among.0) in
    let within : d.element < length c.loop-place.builders.items = rw i.0.builders fit in
    rw c.loop-place.builders.ok.0 within

pub push_reserved-requires : goal.push_reserved-requires
push_reserved-requires g c =
    let i = c.loop-place.invariant in
    let bs = c.args.batches.now.items in
    let os = c.loop-place.outcomes.items in
    let x = c.index.result.now in
    let d = c.index-due.result.now in
    let many : c.len-number-end.result ≡ length bs = c.len-number-end.ensures ∙ c.args.batches.now.ok.0 in
    let long : c.len.result ≡ length x.dues.items = c.len.ensures ∙ x.dues.ok.0 in
    let end : c.len-place-end.result ≡ length x.dues.items = c.len-place-end.ensures ∙ x.dues.ok.0 in
    let test = c.loop-number-test.true in
    let before = c.loop-place-test.true in
    let skip = c.min-first.ensures in
    let start = c.loop-place.auto.place in
    let sum = i.1 in
    let at : length (flat (take c.loop-number.number bs)) + c.loop-place.place ≡ length os = omega arith in
    let among = due-among bs c.loop-number.number c.loop-place.place (length os) x d (omega arith) c.index.ensures (omega arith) c.index-due.ensures at in
    let here = among.0 in
    let l : vec_len c.loop-place.outcomes ≡ length os = c.loop-place.outcomes.ok.0 in
    let room = i.2 in
    omega arith

pub loop-place-preserved : goal.loop-place-preserved
loop-place-preserved g c =
    let b = g.B.Builder in
    let i = c.loop-place.invariant in
    let bs = c.args.batches.now.items in
    let os = c.loop-place.outcomes.items in
    let x = c.index.result.now in
    let d = c.index-due.result.now in
    let many : c.len-number-end.result ≡ length bs = c.len-number-end.ensures ∙ c.args.batches.now.ok.0 in
    let long : c.len.result ≡ length x.dues.items = c.len.ensures ∙ x.dues.ok.0 in
    let end : c.len-place-end.result ≡ length x.dues.items = c.len-place-end.ensures ∙ x.dues.ok.0 in
    let test = c.loop-number-test.true in
    let before = c.loop-place-test.true in
    let skip = c.min-first.ensures in
    let start = c.loop-place.auto.place in
    let sum = i.1 in
    let at : length (flat (take c.loop-number.number bs)) + c.loop-place.place ≡ length os = omega arith in
    let among = due-among bs c.loop-number.number c.loop-place.place (length os) x d (omega arith) c.index.ensures (omega arith) c.index-due.ensures at in
    let here = among.0 in
    let n = length-append os (c.in-Ok.outcome ∷ []) in
    let more = run_more b.value b.after b.outcome c.args.workers c.args.worker c.args.builders.now.items (entries c.args.worker c.args.workers (flat bs) c.args.outcomes.now.items) c.loop-place.builders.items (flat bs) os (length os) (shifted x.base d) c.index_mut-builder.result.now c.apply.new.self c.in-Ok.outcome c.requires.workers refl here among.1 c.index_mut-builder.ensures.value c.in-Ok.ensures.changed c.in-Ok.ensures.told i.0 in
    (rw (c.push_reserved.ensures.items, n) more, rw c.push_reserved.ensures.items (omega arith), rw c.push_reserved.ensures.capacity i.2, rw c.push_reserved.ensures.items (omega arith))

pub returns-in-Err : goal.returns-in-Err
returns-in-Err g c =
    let b = g.B.Builder in
    let i = c.loop-place.invariant in
    let bs = c.args.batches.now.items in
    let os = c.loop-place.outcomes.items in
    let x = c.index.result.now in
    let d = c.index-due.result.now in
    let many : c.len-number-end.result ≡ length bs = c.len-number-end.ensures ∙ c.args.batches.now.ok.0 in
    let long : c.len.result ≡ length x.dues.items = c.len.ensures ∙ x.dues.ok.0 in
    let end : c.len-place-end.result ≡ length x.dues.items = c.len-place-end.ensures ∙ x.dues.ok.0 in
    let test = c.loop-number-test.true in
    let before = c.loop-place-test.true in
    let skip = c.min-first.ensures in
    let start = c.loop-place.auto.place in
    let sum = i.1 in
    let at : length (flat (take c.loop-number.number bs)) + c.loop-place.place ≡ length os = omega arith in
    let among = due-among bs c.loop-number.number c.loop-place.place (length os) x d (omega arith) c.index.ensures (omega arith) c.index-due.ensures at in
    let fit : d.element < length c.args.builders.now.items = rw (sym among.1) at (c.requires.fit (length os) (shifted x.base d) among.0) in
    let within : d.element < length c.loop-place.builders.items = rw i.0.builders fit in
    let all = run_stopped b.value b.after b.outcome c.args.workers c.args.worker c.args.builders.now.items (entries c.args.worker c.args.workers (flat bs) c.args.outcomes.now.items) c.loop-place.builders.items (flat bs) os (length os) (shifted x.base d) c.index_mut-builder.result.now c.apply.new.self c.requires.workers refl among.0 among.1 c.index_mut-builder.ensures.value within c.in-Err.ensures.refused i.0 in
    record { endings = all.0; steps = all.2; done = search rules; stopped = (length os, all.1); builders = length-set c.loop-place.builders.items d.element c.apply.new.self ∙ i.0.builders; outcomes = i.3 }

pub loop-number-preserved : goal.loop-number-preserved
loop-number-preserved g c =
    let i = c.loop-place.invariant in
    let bs = c.args.batches.now.items in
    let x = c.index.result.now in
    let many : c.len-number-end.result ≡ length bs = c.len-number-end.ensures ∙ c.args.batches.now.ok.0 in
    let long : c.len.result ≡ length x.dues.items = c.len.ensures ∙ x.dues.ok.0 in
    let end : c.len-place-end.result ≡ length x.dues.items = c.len-place-end.ensures ∙ x.dues.ok.0 in
    let test = c.loop-number-test.true in
    let after = c.loop-place-test.false in
    let low : c.loop-number.number < length bs = omega arith in
    let t = flat-take bs c.loop-number.number x low in
    let t' : length (flat (take (c.loop-number.number + 1) bs)) ≡ length (flat (take c.loop-number.number bs)) + length x.dues.items = rw (← c.index.ensures) at t in
    let skip = c.min-first.ensures in
    let outer = c.loop-number.invariant.1 in
    let start = c.loop-place.auto.place in
    let stop = c.loop-place.auto.place-end in
    let sum = i.1 in
    let last = stop (omega arith) in
    (i.0, omega arith, i.2, i.3)

pub returns-clause-done : goal.returns-clause-done
returns-clause-done g c =
    let bs = c.args.batches.now.items in
    let os = c.loop-number.outcomes.items in
    let many : c.len-number-end.result ≡ length bs = c.len-number-end.ensures ∙ c.args.batches.now.ok.0 in
    let n = length-entries c.args.worker c.args.workers (flat bs) os in
    let test = c.loop-number-test.false in
    let sum = c.loop-number.invariant.1 in
    let all = flat-take-all bs c.loop-number.number (omega arith) in
    all_done (entries c.args.worker c.args.workers (flat bs) os) (length os) (omega arith) c.loop-number.invariant.0.before

pub returns-in_err-reserve-clause-steps : goal.returns-in_err-reserve-clause-steps
returns-in_err-reserve-clause-steps g c = rw c.in_err-reserve.ensures.items (0, refl)

pub returns-clause-steps : goal.returns-clause-steps
returns-clause-steps g c = c.loop-number.invariant.0.steps
