use Rattle.std.proofs.Common.{◌≡◌, ◌-◌, suc, Some, ap, sym, ◌∙◌, arith}
use Rattle.std.specs.Prelude.{◌==◌, if◌then◌else◌}
use Rattle.series_references.proofs.EntryLemmas.{put_front}
use Rattle.series_references.proofs.maps.copied.Goals as goal

pub loop-left-preserved : goal.loop-left-preserved
loop-left-preserved c =
    let n = c.loop-left.left - 1 in
    let e : c.loop-left.left ≡ suc n = omega (arith, c.loop-left-test.true) in (
      omega (arith, c.loop-left.invariant.0),
      λ k. c.in_ok-put-in-Some.ensures k
          ∙ ap (λ o. if c.in-Some.key.now == k then Some c.in-Some.value.now else o) (c.loop-left.invariant.1 k)
          ∙ put_front c.args.map.now.entries n c.loop-left.left c.in-Some.key.now c.in-Some.value.now e (sym c.in-Some.ensures.entry) k,
    )
