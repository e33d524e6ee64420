use Rattle.std.proofs.Common.{◌∙◌, ◌+◌, ◌/◌, ◌%◌, min, ap, arith}
use Rattle.block_read.proofs.Described.{chunks_more, samples_more}
use Rattle.block_read.proofs.describing.counts_of.Goals as goal

pub loop-row-preserved : goal.loop-row-preserved
loop-row-preserved c =
    let s = samples_more c.args.samples.now c.loop-row.row-index c.row-item.result c.loop-row-test.true c.row-item.is in
    let k = chunks_more c.args.samples.now c.loop-row.row-index c.row-item.result c.loop-row-test.true c.row-item.is in
    let parts = c.div_ceil-parts.ensures ∙ ap (λ n. n / 120 + min 1 (n % 120)) c.len.ensures in
    (omega (arith, c.loop-row.invariant.0, c.saturating_add-count.ensures, s), omega (arith, c.loop-row.invariant.1, c.saturating_add-chunks.ensures, parts, k))
