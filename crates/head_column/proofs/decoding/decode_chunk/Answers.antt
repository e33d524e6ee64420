use Rattle.std.proofs.Common.{rules, ◌≡◌, ◌∙◌, ap, Err}
use Rattle.head_column.specs.Chunks.{chunk_text}
use Rattle.head_column.specs.declared.chunk.ChunkFault.TheVariants.{BadChunk}
use Rattle.head_column.proofs.ReadLaws.{have_text, other_chunk}
use Rattle.head_column.proofs.decoding.decode_chunk.Goals as goal

pub returns-in_err-samples-clause-bad : goal.returns-in_err-samples-clause-bad
returns-in_err-samples-clause-bad c = λ e xs h t.
    let bad : c.front_samples.result ≡ Err BadChunk = search rules in
    c.front_samples.ensures.bad bad xs (have_text c.args.text.now c.split_at.result.1.now c.in-Some.count c.from-count.result xs c.in-Some.ensures.found c.from-count.ensures c.split_at.ensures.back h t)

pub returns-then-ne-clause-bad : goal.returns-then-ne-clause-bad
returns-then-ne-clause-bad c = λ e xs h t.
    let is = c.in_ok-samples.ensures.read.only xs (have_text c.args.text.now c.split_at.result.1.now c.in-Some.count c.from-count.result xs c.in-Some.ensures.found c.from-count.ensures c.split_at.ensures.back h t) in
    other_chunk c.args.text.now c.as_slice.result.now c.in_ok-samples.samples.items xs (c.as_slice.ensures.value ∙ c.in_ok-again.ensures ∙ ap chunk_text c.deref.ensures.value) c.if-ne.ensures is t
