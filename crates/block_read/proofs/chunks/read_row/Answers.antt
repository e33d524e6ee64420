use Rattle.std.proofs.Common.{rules, ◌≡◌, ◌++◌, ◌∙◌, List, ap, Err}
use Rattle.std.specs.Prelude.{pos}
use Rattle.head_column.specs.Samples.{Sample}
use Rattle.index_text.specs.declared.row.ChunkMeta.{ChunkMeta}
use Rattle.block_read.specs.declared.fault.PartFault.TheVariants.{Bad}
use Rattle.block_read.proofs.Columns.{begun, followed, left_begun, left_over, next_at, not_followed, read_chunks, read_more}
use Rattle.block_read.proofs.chunks.read_row.Goals as goal

nowhere : ChunkMeta
nowhere = record { min_time = pos 0; max_time = pos 0; reference = 0 }

pub loop-meta-init : goal.loop-meta-init
loop-meta-init c = (
  begun c.args.encoding c.new-samples.result.items c.new-chunks.result.items c.new-samples.ensures.items c.new-chunks.ensures.items,
  λ all col there. left_begun c.args.encoding c.args.files.now c.args.metas.now c.new-samples.result.items all c.new-samples.ensures.items there,
)

pub returns-in_err-read-clause-bad : goal.returns-in_err-read-clause-bad
unfolding nowhere
returns-in_err-read-clause-bad c = λ was all col there.
    let bad : c.read_chunk.result ≡ Err Bad = search rules in
    let n = next_at c.args.files.now c.args.metas.now c.loop-meta.meta-index nowhere c.loop-meta.samples.items all c.loop-meta-test.true col (c.loop-meta.invariant.1 all col there) in
    c.read_chunk.ensures.bad bad n.part n.chunk n.there

pub returns-then-not-may_follow-clause-bad : goal.returns-then-not-may_follow-clause-bad
unfolding nowhere
returns-then-not-may_follow-clause-bad c = λ was all col there.
    let n = next_at c.args.files.now c.args.metas.now c.loop-meta.meta-index nowhere c.loop-meta.samples.items all c.loop-meta-test.true col (c.loop-meta.invariant.1 all col there) in
    not_followed c.may_follow.result c.loop-meta.samples.items n.part c.deref.result.now c.deref-in-loop-meta.result.now c.deref.ensures.value (c.deref-in-loop-meta.ensures.value ∙ c.in_ok-read.ensures.only n.part n.chunk n.there)
    c.may_follow.ensures.complete c.if-not-may_follow.true n.follows

pub loop-meta-preserved : goal.loop-meta-preserved
unfolding nowhere
loop-meta-preserved c =
    let more : c.extend_from_slice.new.self.items ≡ c.loop-meta.samples.items ++ c.in_ok-read.read.samples.items =
    c.in_ok-extend_from_slice.ensures.items ∙ ap (λ (p : List Sample). c.loop-meta.samples.items ++ p) c.deref-in-loop-meta-2.ensures.value in (
      read_more c.loop-meta.samples.items c.extend_from_slice.new.self.items c.in_ok-read.read.samples.items c.loop-meta.chunks.items c.push.new.self.items c.in_ok-read.read.chunk c.loop-meta.invariant.0 c.in_ok-read.ensures.found
          (followed c.may_follow.result c.loop-meta.samples.items c.in_ok-read.read.samples.items c.deref.result.now c.deref-in-loop-meta.result.now c.deref.ensures.value c.deref-in-loop-meta.ensures.value c.may_follow.ensures.sound c.if-not-may_follow.false)
          c.in_ok-read.ensures.chunk more c.in_ok-push.ensures.items,
      λ all col there.
          let n = next_at c.args.files.now c.args.metas.now c.loop-meta.meta-index nowhere c.loop-meta.samples.items all c.loop-meta-test.true col (c.loop-meta.invariant.1 all col there) in
          n.left c.extend_from_slice.new.self.items (more ∙ ap (λ (p : List Sample). c.loop-meta.samples.items ++ p) (c.in_ok-read.ensures.only n.part n.chunk n.there)),
    )

pub returns-clause-chunks : goal.returns-clause-chunks
returns-clause-chunks c = read_chunks c.loop-meta.samples.items c.loop-meta.chunks.items c.loop-meta.invariant.0

pub returns-clause-only : goal.returns-clause-only
returns-clause-only c = λ all col there. left_over c.args.files.now c.args.metas.now c.loop-meta.meta-index c.loop-meta.samples.items all c.loop-meta-test.false (c.loop-meta.invariant.1 all col there)
