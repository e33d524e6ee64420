use Rattle.std.proofs.Common.{◌≡◌, sym, subst}
use Rattle.std.specs.Prelude.{IfOk}
use Rattle.block_files.specs.declared.encoding.Encoding.{Encoding}
use Rattle.head_core.specs.Heads.{history_at}
use Rattle.block_read.specs.Blocks.{chunks_in}
use Rattle.hour_rows.specs.Clipping.{samples_in}
use Rattle.hour_rows.proofs.rows.chunks_of.Goals as goal

pub returns-in-Raw-clause-chunks : goal.returns-in-Raw-clause-chunks
returns-in-Raw-clause-chunks c =
    subst (λ (enc : Encoding). IfOk c.chunks_in.result (λ chunks. chunks.items ≡ chunks_in enc (samples_in c.args.hour (history_at c.args.head.now.content c.args.slot).samples))) (sym c.in-Raw.is) c.chunks_in.ensures.chunks

pub returns-in-Xor-clause-chunks : goal.returns-in-Xor-clause-chunks
returns-in-Xor-clause-chunks c =
    subst (λ (enc : Encoding). IfOk c.xor_chunks_in.result (λ chunks. chunks.items ≡ chunks_in enc (samples_in c.args.hour (history_at c.args.head.now.content c.args.slot).samples))) (sym c.in-Xor.is) c.xor_chunks_in.ensures.chunks
