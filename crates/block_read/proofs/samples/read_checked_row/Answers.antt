use Rattle.std.proofs.Common.{ap, arith, length}
use Rattle.block_read.proofs.Columns.{lent_short}
use Rattle.block_read.proofs.samples.read_checked_row.Goals as goal

pub add_row-requires : goal.add_row-requires
add_row-requires c = record { short = lent_short c.args.encoding c.short_chunk.ensures c.deref.result.now c.in_ok-read.read.chunks.items c.in_ok-read.read.samples.items c.deref.ensures.value c.in_ok-read.ensures.chunks }

pub are_named-requires : goal.are_named-requires
are_named-requires c = omega (arith, c.in_ok-references.ensures.count, ap length c.deref.ensures.value, ap length c.deref-2.ensures.value, ap length c.deref-3.ensures.value)
