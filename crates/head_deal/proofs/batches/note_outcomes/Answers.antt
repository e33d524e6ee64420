use Rattle.std.proofs.Common.{◌≡◌, ◌<◌, ◌+◌, length, drop, get_or, arith, sym, ap, ◌∙◌}
use Rattle.std.proofs.lemmas.List.{get_or-map}
use Rattle.head_deal.specs.Batches.{dues_in, flat, shifted}
use Rattle.head_deal.specs.Joining.{written}
use Rattle.head_deal.proofs.Flat.{length-dues}
use Rattle.head_deal.proofs.Noting.{note-one, note-next}
use Rattle.head_deal.proofs.batches.note_outcomes.Goals as goal

pub loop-place-preserved : goal.loop-place-preserved
loop-place-preserved g c =
    let bs = c.args.batches.now.items in
    let os = c.args.outcomes.now.items in
    let x = c.index-batch.result.now in
    let d = c.index.result.now in
    let o = c.index-in-loop-place.result.now in
    let k = c.loop-number.number in
    let skip = c.min-many.ensures in
    let ptest = c.loop-place-test.true in
    let many : c.len.result ≡ length os = c.len.ensures ∙ c.args.outcomes.now.ok.0 in
    let few : c.len-in-loop-number.result ≡ length x.dues.items = c.len-in-loop-number.ensures ∙ x.dues.ok.0 in
    let l = length-dues x in
    let low : c.loop-place.place < length x.dues.items = omega arith in
    let low' : c.loop-place.place < length (dues_in x) = omega arith in
    let under : c.loop-number.done + c.loop-place.place < length os = omega arith in
    let at : shifted x.base d ≡ get_or (dues_in x) c.loop-place.place (shifted x.base d) =
    ap (shifted x.base) c.index.ensures ∙ sym (get_or-map (shifted x.base) x.dues.items c.loop-place.place d (shifted x.base d) low) in
    let one = note-one c.args.worker c.args.workers (dues_in x) (flat (drop (c.loop-number.number + 1) bs)) os c.loop-place.all.items c.loop-place.place (c.loop-number.done + c.loop-place.place) (shifted x.base d) o low' at under c.index-in-loop-place.ensures in
    let e : c.loop-number.done + (c.loop-place.place + 1) ≡ (c.loop-number.done + c.loop-place.place) + 1 = omega arith in
    rw (c.put.ensures, e) (sym one ∙ c.loop-place.invariant)

pub loop-number-preserved : goal.loop-number-preserved
loop-number-preserved g c =
    let bs = c.args.batches.now.items in
    let os = c.args.outcomes.now.items in
    let x = c.index-batch.result.now in
    let ptest = c.loop-place-test.false in
    let stop = c.loop-place.auto.place-end in
    let skip = c.min-many.ensures in
    let many : c.len.result ≡ length os = c.len.ensures ∙ c.args.outcomes.now.ok.0 in
    let few : c.len-in-loop-number.result ≡ length x.dues.items = c.len-in-loop-number.ensures ∙ x.dues.ok.0 in
    let l = length-dues x in
    let within = c.loop-number.invariant.1 in
    let e : c.loop-place.place ≡ c.min-many.result = omega arith in
    let inv = rw e at c.loop-place.invariant in
    let next = note-next c.args.worker c.args.workers (dues_in x) (flat (drop (c.loop-number.number + 1) bs)) os c.loop-number.done c.min-many.result (omega arith) in
    (ap (λ z. written z c.loop-place.all.items) (sym next) ∙ inv, omega arith)
