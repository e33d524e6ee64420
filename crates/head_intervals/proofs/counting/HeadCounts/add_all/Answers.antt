use Rattle.std.proofs.Common.{◌≡◌, ◌+◌, ◌++◌, ◌∙◌, ℕ, List, ap, get_or}
use Rattle.head_intervals.specs.Parts.{AreHeadCounts}
use Rattle.head_intervals.proofs.Counted.{on_ok}
use Rattle.head_intervals.proofs.Parted.{with_all}
use Rattle.head_intervals.proofs.counting.HeadCounts.add_all.Goals as goal

pub returns : goal.returns
returns c = λ intervals before these a b.
    let old = c.args.self.now in
    let more = c.args.more.now in
    let samples = c.add_counts.new.counts in
    let series = c.add_counts-2.new.counts in
    on_ok c.add_counts-2.result ((k : ℕ) → get_or series.items k 0 ≡ get_or old.series.items k 0 + get_or c.deref-2.result.now k 0) (AreHeadCounts intervals (before ++ these) (record { samples = samples; series = series })) c.add_counts-2.ensures.sums (λ sums.
    with_all intervals before these old more (record { samples = samples; series = series }) a b
    c.in_ok-add_counts.ensures.len (λ k. c.in_ok-add_counts.ensures.sums k ∙ ap (λ (ns : List ℕ). get_or old.samples.items k 0 + get_or ns k 0) c.deref.ensures.value)
    c.add_counts-2.ensures.len (λ k. sums k ∙ ap (λ (ns : List ℕ). get_or old.series.items k 0 + get_or ns k 0) c.deref-2.ensures.value))
