use Rattle.std.proofs.Common.{rules, ◌≡◌, ◌+◌, ◌<◌, ◌∙◌, ℕ, length, ap, arith}
use Rattle.head_core.specs.Heads.{history_at}
use Rattle.head_ranks.proofs.Told.{summed}
use Rattle.head_ranks.proofs.counting.totals.Goals as goal

pub loop-number-preserved : goal.loop-number-preserved
loop-number-preserved c =
    let content = c.args.head.now.content in
    let n = c.loop-number.number in
    let count = c.series-series.ensures.count in
    let one_each = c.series-series.ensures.one_each in
    let within : n < length content.histories = omega (arith, count, one_each) in
    let next : c.in_ok-samples.samples ≡ c.loop-number.samples + c.sample_count-more.result = search rules in
    next ∙ summed content n c.loop-number.samples c.sample_count-more.result within c.loop-number.invariant (c.sample_count-more.ensures ∙ ap (λ (m : ℕ). length (history_at content m).samples) c.new.ensures)
