use Rattle.std.proofs.Common.{arith, ◌≡◌, ◌+◌, ap, sym, subst, ◌∙◌, length, length-append, take, pos, List}
use Rattle.std.proofs.lemmas.List.{length-drop, take_all}
use Rattle.head_column.specs.declared.sealed.SealedChunk.{SealedChunk}
use Rattle.head_column.specs.Stored.{AreSealed, StoredValue, sealed_samples, stored}
use Rattle.head_column.proofs.Chunked.{count_of, counts, counts_least, counts_more, counts_most, kept_within}
use Rattle.head_column.proofs.stored.SampleChunks.len.Goals as goal
use Rattle.head_column.proofs.stored.SampleChunks.len.Goals.{After-deref-chunk-items}

are : (c : After-deref-chunk-items) → AreSealed c.deref-chunk-items.result.now c.self.inside.writer.front
are c = subst (λ (l : List SealedChunk). AreSealed l c.self.inside.writer.front) (sym c.deref-chunk-items.ensures.value) c.self.invariant.sealed_are

all : (c : After-deref-chunk-items) → length (stored c.self.inside.sealed.items c.self.inside.writer) ≡ length c.self.inside.writer.samples + counts c.deref-chunk-items.result.now
all c =
    let s = c.self.inside in
    omega (arith, length-append (sealed_samples s.sealed.items s.writer.front) s.writer.samples, count_of s.sealed.items s.writer.front c.self.invariant.sealed_are, ap counts c.deref-chunk-items.ensures.value)

pub loop-chunk-init : goal.loop-chunk-init
unfolding counts
loop-chunk-init c = c.len-count.ensures ∙ omega arith

pub overflow_add-count : goal.overflow_add-count
overflow_add-count c =
    let d : SealedChunk = record { len = 0; count = 0; max_time = pos 0 } in
    let items = c.deref-chunk-items.result.now in
    let at = (goal.at.overflow_add-count c).After-deref-chunk-items in
    omega (arith, c.loop-chunk.invariant, counts_more items c.loop-chunk.chunk-index d c.loop-chunk-test.true, counts_least items (c.loop-chunk.chunk-index + 1), counts_most items c.self.inside.writer.front (are at), c.self.invariant.few, c.self.invariant.most, ap length c.deref-chunk-items.ensures.value)

pub loop-chunk-preserved : goal.loop-chunk-preserved
loop-chunk-preserved c =
    let d : SealedChunk = record { len = 0; count = 0; max_time = pos 0 } in
    let items = c.deref-chunk-items.result.now in
    omega (arith, c.loop-chunk.invariant, counts_more items c.loop-chunk.chunk-index d c.loop-chunk-test.true)

pub overflow_sub-result : goal.overflow_sub-result
overflow_sub-result c =
    let s = c.self.inside in
    let items = c.deref-chunk-items.result.now in
    let whole : take c.loop-chunk.chunk-index items ≡ items = take_all c.loop-chunk.chunk-index items c.loop-chunk-test.false in
    omega (arith, c.loop-chunk.invariant, ap counts whole, all (goal.at.overflow_sub-result c).After-deref-chunk-items, kept_within s.sealed.items s.writer s.dropped c.self.invariant.sealed_are c.self.invariant.kept)

pub returns : goal.returns
returns c =
    let s = c.self.inside in
    let items = c.deref-chunk-items.result.now in
    let whole : take c.loop-chunk.chunk-index items ≡ items = take_all c.loop-chunk.chunk-index items c.loop-chunk-test.false in
    omega (arith, c.loop-chunk.invariant, ap counts whole, all (goal.at.returns c).After-deref-chunk-items, length-drop s.dropped (stored s.sealed.items s.writer), ap (λ (v : StoredValue). length v.samples) c.self.view_is)
