use Rattle.std.proofs.Common.{arith, rules, ◌≡◌, ◌<◌, ◌∙◌, ◌++◌, [], ap, ap₂, sym, subst, cond, drop, get_or, length, refl, take, pos, List, ℕ, false, true}
use Rattle.std.specs.Prelude.{filter}
use Rattle.std.proofs.lemmas.List.Elements.{filter-append}
use Rattle.xor_chunk.specs.declared.sample.Sample.{Sample}
use Rattle.xor_chunk.specs.Reading.{body_samples}
use Rattle.head_column.specs.declared.sealed.SealedChunk.{SealedChunk}
use Rattle.head_column.specs.Hours.{is_in_hour}
use Rattle.head_column.specs.Stored.{IsSealed, first_hour, StoredValue, sealed_samples, stored}
use Rattle.head_column.proofs.Chunked.{chunk_at, gone_within, hour_of_kept, none_in_parts, open_latest, part_none, read_all, read_more}
use Rattle.head_column.proofs.stored.SampleChunks.samples_in.Goals as goal
use Rattle.head_column.proofs.stored.SampleChunks.samples_in.Goals.{After-dropped_in-gone, After-split_at, In_ok-append_open_in}

d0 : SealedChunk
d0 = record { len = 0; count = 0; max_time = pos 0 }

at_place : (xs : List SealedChunk) (n : ℕ) (d : SealedChunk) → n < length xs → get_or xs n d ≡ get_or xs n (get_or xs n d)
at_place xs n d low = search (rules, low)

sealed : (c : After-split_at) → IsSealed (get_or c.deref-chunk-items.result.now c.loop-chunk.chunk-index d0) c.split_at.result.0.now (body_samples (get_or c.deref-chunk-items.result.now c.loop-chunk.chunk-index d0).count (take (get_or c.deref-chunk-items.result.now c.loop-chunk.chunk-index d0).len c.loop-chunk.rest.now))
unfolding d0
sealed c =
    let items : List SealedChunk = c.deref-chunk-items.result.now in
    let n : ℕ = c.loop-chunk.chunk-index in
    let chunk : SealedChunk = get_or items n d0 in
    let one = chunk_at _ n items chunk _ c.loop-chunk.rest.now _ c.loop-chunk-test.true (at_place items n d0 c.loop-chunk-test.true) c.loop-chunk.invariant in
    subst (λ (bs : List ℕ). IsSealed chunk bs (body_samples chunk.count (take chunk.len c.loop-chunk.rest.now))) (sym c.split_at.ensures.front) one.0

pub returns-in_err-append_chunk_in-clause-none : goal.returns-in_err-append_chunk_in-clause-none
unfolding d0
returns-in_err-append_chunk_in-clause-none c = λ e.
    let s = c.self.inside in
    let items : List SealedChunk = c.deref-chunk-items.result.now in
    let n : ℕ = c.loop-chunk.chunk-index in
    let chunk : SealedChunk = get_or items n d0 in
    let none = none_in_parts c.args.hour s.sealed.items s.writer s.dropped s.latest c.self.invariant (ap (λ (v : StoredValue). filter (λ x. is_in_hour c.args.hour x.time) v.samples) c.self.view_is ∙ e) in
    let no : filter (λ x. is_in_hour c.args.hour x.time) (sealed_samples items s.writer.front) ≡ [] = ap (λ (l : List SealedChunk). filter (λ x. is_in_hour c.args.hour x.time) (sealed_samples l s.writer.front)) c.deref-chunk-items.ensures.value ∙ none.0 in
    let part = part_none (λ xs. filter (λ x. is_in_hour c.args.hour x.time) xs) n items chunk s.writer.front c.loop-chunk.rest.now _ (filter-append (λ x. is_in_hour c.args.hour x.time)) c.loop-chunk-test.true (at_place items n d0 c.loop-chunk-test.true) c.loop-chunk.invariant no in
    let clash : false ≡ true = c.in_err-append_chunk_in.ensures.none _ (sealed (goal.at.returns-in_err-append_chunk_in-clause-none c).After-split_at) part in
    absurd cc

pub loop-chunk-preserved : goal.loop-chunk-preserved
unfolding d0
loop-chunk-preserved c =
    let items : List SealedChunk = c.deref-chunk-items.result.now in
    let n : ℕ = c.loop-chunk.chunk-index in
    let chunk : SealedChunk = get_or items n d0 in
    read_more (λ xs. filter (λ x. is_in_hour c.args.hour x.time) xs) n items chunk c.self.inside.writer.front c.loop-chunk.rest.now c.split_at.result.1.now c.loop-chunk.samples.items c.append_chunk_in.new.samples.items (filter-append (λ x. is_in_hour c.args.hour x.time))
    c.loop-chunk-test.true (at_place items n d0 c.loop-chunk-test.true) c.loop-chunk.invariant c.split_at.ensures.back (c.in_ok-append_chunk_in.ensures.some _ (sealed (goal.at.loop-chunk-preserved c).After-split_at))

pub append_open_in-requires-clause-latest : goal.append_open_in-requires-clause-latest
append_open_in-requires-clause-latest c some =
    let s = c.self.inside in
    open_latest s.sealed.items s.writer s.dropped s.latest c.self.invariant some

pub returns-in_err-append_open_in-clause-none : goal.returns-in_err-append_open_in-clause-none
returns-in_err-append_open_in-clause-none c = λ e.
    let s = c.self.inside in
    let none = none_in_parts c.args.hour s.sealed.items s.writer s.dropped s.latest c.self.invariant (ap (λ (v : StoredValue). filter (λ x. is_in_hour c.args.hour x.time) v.samples) c.self.view_is ∙ e) in
    let clash : false ≡ true = c.in_err-append_open_in.ensures.none none.1 in
    absurd cc

pub dropped_in-gone-requires-clause-latest : goal.dropped_in-gone-requires-clause-latest
dropped_in-gone-requires-clause-latest c some =
    let s = c.self.inside in
    open_latest s.sealed.items s.writer s.dropped s.latest c.self.invariant some

all : (c : In_ok-append_open_in) → c.append_open_in.new.samples.items ≡ filter (λ x. is_in_hour c.args.hour x.time) (stored c.self.inside.sealed.items c.self.inside.writer)
all c =
    let s = c.self.inside in
    let items : List SealedChunk = c.deref-chunk-items.result.now in
    let read = read_all (λ xs. filter (λ x. is_in_hour c.args.hour x.time) xs) c.loop-chunk.chunk-index items s.writer.front c.loop-chunk.rest.now c.loop-chunk.samples.items refl c.loop-chunk-test.false c.loop-chunk.invariant in
    let front : c.loop-chunk.samples.items ≡ filter (λ x. is_in_hour c.args.hour x.time) (sealed_samples s.sealed.items s.writer.front) = read ∙ ap (λ (l : List SealedChunk). filter (λ x. is_in_hour c.args.hour x.time) (sealed_samples l s.writer.front)) c.deref-chunk-items.ensures.value in
    c.in_ok-append_open_in.ensures.some ∙ ap (λ (l : List Sample). l ++ filter (λ x. is_in_hour c.args.hour x.time) s.writer.samples) front ∙ sym (filter-append (λ x. is_in_hour c.args.hour x.time) (sealed_samples s.sealed.items s.writer.front) s.writer.samples)

gone : (c : After-dropped_in-gone) → c.dropped_in-gone.result ≡ cond (is_in_hour c.args.hour (first_hour c.self.inside.sealed.items c.self.inside.writer)) c.self.inside.dropped 0
gone c = c.dropped_in-gone.ensures ∙ ap (λ (l : List SealedChunk). cond (is_in_hour c.args.hour (first_hour l c.self.inside.writer)) c.self.inside.dropped 0) c.deref.ensures.value

pub drop_samples-requires : goal.drop_samples-requires
drop_samples-requires c =
    let s = c.self.inside in
    let at = (goal.at.drop_samples-requires c).In_ok-append_open_in in
    let there = (goal.at.drop_samples-requires c).After-dropped_in-gone in
    omega (arith, gone there, gone_within c.args.hour s.sealed.items s.writer s.dropped s.latest c.self.invariant, ap length (all at))

pub returns-clause-samples : goal.returns-clause-samples
returns-clause-samples c =
    let s = c.self.inside in
    let at = (goal.at.returns-clause-samples c).In_ok-append_open_in in
    let there = (goal.at.returns-clause-samples c).After-dropped_in-gone in
    c.drop_samples.ensures ∙ ap₂ (λ (n : ℕ) (l : List Sample). drop n l) (gone there) (all at) ∙ sym (hour_of_kept c.args.hour s.sealed.items s.writer s.dropped s.latest c.self.invariant) ∙ ap (λ (v : StoredValue). filter (λ x. is_in_hour c.args.hour x.time) v.samples) c.self.view_is
