use Rattle.std.proofs.Common.{arith, rules, ◌≡◌, ◌<◌, ◌∙◌, ◌++◌, [], ap, sym, subst, cond, get_or, length, take, pos, List, ℕ, false, true}
use Rattle.std.specs.Prelude.{filter, map}
use Rattle.xor_chunk.specs.Reading.{body_samples}
use Rattle.head_column.specs.declared.chunk.Chunk.{Chunk}
use Rattle.head_column.specs.declared.sealed.SealedChunk.{SealedChunk}
use Rattle.head_column.specs.Chunks.{xor_chunk_of}
use Rattle.head_column.specs.Hours.{is_in_hour}
use Rattle.head_column.specs.Stored.{AreCopies, AreSealed, IsSealed, StoredValue, first_hour, hour_parts, open_parts, sealed_samples}
use Rattle.head_column.proofs.Chunked.{none_in_parts, open_latest}
use Rattle.head_column.proofs.Copied.{all_copied, copied_all, copied_at, copied_part_none}
use Rattle.head_column.proofs.stored.SampleChunks.copy_chunks.Goals as goal

d0 : SealedChunk
d0 = record { len = 0; count = 0; max_time = pos 0 }

at_place : (xs : List SealedChunk) (n : ℕ) (d : SealedChunk) → n < length xs → get_or xs n d ≡ get_or xs n (get_or xs n d)
at_place xs n d low = search (rules, low)

pub dropped_in-requires-clause-latest : goal.dropped_in-requires-clause-latest
dropped_in-requires-clause-latest c some =
    let s = c.self.inside in
    open_latest s.sealed.items s.writer s.dropped s.latest c.self.invariant some

pub copy_open_in-requires-clause-latest : goal.copy_open_in-requires-clause-latest
copy_open_in-requires-clause-latest c some =
    let s = c.self.inside in
    open_latest s.sealed.items s.writer s.dropped s.latest c.self.invariant some

pub returns-in_err-copy_sealed_in-clause-none : goal.returns-in_err-copy_sealed_in-clause-none
unfolding d0
returns-in_err-copy_sealed_in-clause-none c = λ e.
    let s = c.self.inside in
    let items : List SealedChunk = c.deref-chunk-items.result.now in
    let n : ℕ = c.loop-chunk.chunk-index in
    let chunk : SealedChunk = get_or items n d0 in
    let at = at_place items n d0 c.loop-chunk-test.true in
    let none = none_in_parts c.args.hour s.sealed.items s.writer s.dropped s.latest c.self.invariant (ap (λ (v : StoredValue). filter (λ x. is_in_hour c.args.hour x.time) v.samples) c.self.view_is ∙ e) in
    let are : AreSealed items s.writer.front = subst (λ (l : List SealedChunk). AreSealed l s.writer.front) (sym c.deref-chunk-items.ensures.value) c.self.invariant.sealed_are in
    let no : filter (λ x. is_in_hour c.args.hour x.time) (sealed_samples items s.writer.front) ≡ [] = ap (λ (l : List SealedChunk). filter (λ x. is_in_hour c.args.hour x.time) (sealed_samples l s.writer.front)) c.deref-chunk-items.ensures.value ∙ none.0 in
    let part = copied_part_none c.args.hour n items chunk s.writer.front c.loop-chunk.rest.now c.loop-chunk.chunks.items c.loop-chunk-test.true at are c.loop-chunk.invariant no in
    let one = copied_at c.args.hour n items chunk s.writer.front c.loop-chunk.rest.now c.loop-chunk.chunks.items c.loop-chunk-test.true at c.loop-chunk.invariant in
    let sealed = subst (λ (bs : List ℕ). IsSealed chunk bs (body_samples chunk.count (take chunk.len c.loop-chunk.rest.now))) (sym c.split_at.ensures.front) one in
    let clash : false ≡ true = c.in_err-copy_sealed_in.ensures.none _ sealed part in
    absurd cc

pub returns-in_err-copy_open_in-clause-none : goal.returns-in_err-copy_open_in-clause-none
returns-in_err-copy_open_in-clause-none c = λ e.
    let s = c.self.inside in
    let none = none_in_parts c.args.hour s.sealed.items s.writer s.dropped s.latest c.self.invariant (ap (λ (v : StoredValue). filter (λ x. is_in_hour c.args.hour x.time) v.samples) c.self.view_is ∙ e) in
    let clash : false ≡ true = c.in_err-copy_open_in.ensures.none none.1 in
    absurd cc

pub returns-clause-copies : goal.returns-clause-copies
returns-clause-copies c =
    let s = c.self.inside in
    let items : List SealedChunk = c.deref-chunk-items.result.now in
    let gone : cond (is_in_hour c.args.hour (first_hour s.sealed.items s.writer)) s.dropped 0 ≡ 0 =
    omega (arith, c.if-dropped_in-gt0.false, c.dropped_in.ensures, ap (λ (l : List SealedChunk). cond (is_in_hour c.args.hour (first_hour l s.writer)) s.dropped 0) c.deref.ensures.value) in
    let front : c.loop-chunk.chunks.items ≡ map xor_chunk_of (hour_parts c.args.hour s.sealed.items s.writer.front) = copied_all c.args.hour c.loop-chunk.chunk-index items s.writer.front c.loop-chunk.rest.now c.loop-chunk.chunks.items c.loop-chunk-test.false c.loop-chunk.invariant
    ∙ ap (λ (l : List SealedChunk). map xor_chunk_of (hour_parts c.args.hour l s.writer.front)) c.deref-chunk-items.ensures.value in
    let made : c.copy_open_in.new.chunks.items ≡ map xor_chunk_of (hour_parts c.args.hour s.sealed.items s.writer.front) ++ map xor_chunk_of (open_parts c.args.hour s.writer.samples) =
    c.in_ok-copy_open_in.ensures.some ∙ ap (λ (l : List Chunk). l ++ map xor_chunk_of (open_parts c.args.hour s.writer.samples)) front in
    subst (λ (v : StoredValue). AreCopies c.args.hour v.samples c.copy_open_in.new.chunks.items) c.self.view_is (all_copied c.args.hour s.sealed.items s.writer s.dropped s.latest c.copy_open_in.new.chunks.items c.self.invariant gone made)
