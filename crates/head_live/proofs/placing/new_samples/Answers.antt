use Rattle.std.proofs.Common.{◌≡◌, ◌∙◌, ◌+◌, ◌<◌, All, AllPairs, List, ap, arith, drop, length, subst, sym}
use Rattle.std.proofs.lemmas.Option.{unwrap_or-slice_get}
use Rattle.std.specs.Prelude.{slice_get, unwrap_or}
use Rattle.head_column.specs.Samples.{Sample}
use Rattle.head_column.proofs.Windows.{rises_drop}
use Rattle.head_core.specs.Heads.{history_at}
use Rattle.head_live.specs.declared.placed.PlacedSample.{PlacedSample}
use Rattle.head_live.specs.Placed.{IsBefore}
use Rattle.head_live.proofs.CloseLemmas.{new_rows_more, opened_at, placed_rows}
use Rattle.head_live.proofs.OrderLemmas.{before_more, below_more}
use Rattle.head_live.proofs.placing.new_samples.Goals as goal

pub loop-slot-preserved : goal.loop-slot-preserved
loop-slot-preserved c =
    let now = c.args.head.now.content in
    let n = c.loop-slot.slot in
    let old : List PlacedSample = c.loop-slot.all.items in
    let more : List Sample = drop c.unwrap_or-first.result (history_at now n).samples in
    let rises = rises_drop c.unwrap_or-first.result (history_at now n).samples c.in_ok-add_samples.ensures.rises in
    let read : c.unwrap_or-first.result ≡ unwrap_or (slice_get c.args.opened.now n) 0 = c.unwrap_or-first.ensures ∙ (ap (λ o. unwrap_or o 0) c.copied.ensures ∙ (c.get.ensures.lookup.4 (omega arith) 0 ∙ sym (unwrap_or-slice_get c.args.opened.now n 0))) in record {
      rows = λ opening e.
          let first : c.unwrap_or-first.result ≡ length (history_at opening n).samples = read ∙ (ap (λ o. unwrap_or (slice_get o n) 0) e ∙ opened_at opening.histories n) in
          new_rows_more opening now n c.unwrap_or-first.result _ _ (omega (arith, c.loop-slot-test.true, c.series-series.ensures.count, c.series-series.ensures.fits)) first (c.loop-slot.invariant.rows opening e) (placed_rows now n _ old more c.in_ok-add_samples.ensures.samples);
      order = subst (AllPairs IsBefore) (sym c.in_ok-add_samples.ensures.samples) (before_more n old more c.loop-slot.invariant.order c.loop-slot.invariant.below rises);
      below = subst (All (λ (s : PlacedSample). s.slot < n + 1)) (sym c.in_ok-add_samples.ensures.samples) (below_more n old more c.loop-slot.invariant.below);
    }
