use Rattle.std.proofs.Common.{rules, ◌≡◌, ◌∙◌, ap, sym, subst, true, false, drop, length, List, of_z, to_z, w64}
use Rattle.std.specs.Prelude.{ℤ}
use Rattle.std.proofs.lemmas.Int.{to_z-of_z}
use Rattle.xor_chunk.specs.Writing.{WriterValue}
use Rattle.head_column.specs.declared.sealed.SealedChunk.{SealedChunk}
use Rattle.head_column.specs.Stored.{AreCut, AreStored, IsLate, first_part, StoredValue, stored}
use Rattle.head_column.specs.Times.{reaches}
use Rattle.head_column.specs.Validity.{samples_before, samples_from}
use Rattle.head_column.proofs.Chunked.{AreDropped, all_dropped, first_dropped}
use Rattle.head_column.proofs.stored.SampleChunks.drop_before.Goals as goal
use Rattle.head_column.proofs.stored.SampleChunks.drop_before.Goals.{After-max-self-inside}

pub returns-then-not-reaches-clause-samples : goal.returns-then-not-reaches-clause-samples
returns-then-not-reaches-clause-samples c =
    let s = c.self.inside in
    let over : reaches s.latest c.args.time ≡ false = search (rules, to_z-of_z) in
    c.clear.ensures.samples ∙ sym (ap (λ (v : StoredValue). samples_from c.args.time v.samples) (sym c.self.view_is) ∙ all_dropped c.args.time _ s.latest c.self.invariant.latest_is over)

cut : (c : After-max-self-inside) → reaches c.self.inside.latest c.args.time ≡ true → AreCut c.args.time c.self.inside.sealed.items c.drop_chunks-self-inside.new.sealed.items c.self.inside.writer c.drop_chunks-self-inside.new.writer c.self.inside.dropped c.drop_chunks-self-inside.result c.self.inside.latest
cut c reach =
    let s = c.self.inside in
    let time = to_z-of_z w64 c.args.time c.ranges.time in
    let all = c.drop_chunks-self-inside.ensures.cut s.latest c.self.invariant in
    subst (λ (t : ℤ). reaches s.latest t ≡ true → AreCut t s.sealed.items c.drop_chunks-self-inside.new.sealed.items s.writer c.drop_chunks-self-inside.new.writer s.dropped c.drop_chunks-self-inside.result s.latest) time all reach

dropped : (c : After-max-self-inside) → reaches c.self.inside.latest c.args.time ≡ true
    → AreDropped c.args.time c.drop_chunks-self-inside.new.sealed.items c.drop_chunks-self-inside.new.writer c.drop_chunks-self-inside.result c.max-self-inside.result c.self.inside.latest
dropped c reach =
    let s = c.self.inside in
    let time = to_z-of_z w64 c.args.time c.ranges.time in
    let sealed : List SealedChunk = c.drop_chunks-self-inside.new.sealed.items in
    let writer = c.drop_chunks-self-inside.new.writer in
    let late = subst (λ (t : ℤ). IsLate t sealed) time c.drop_chunks-self-inside.ensures.late in
    let count = subst (λ (t : ℤ). c.first_before-before.result ≡ length (samples_before t (first_part sealed writer))) time
    (subst (λ (l : List SealedChunk). c.first_before-before.result ≡ length (samples_before (to_z w64 (of_z w64 c.args.time)) (first_part l writer))) c.deref.ensures.value c.first_before-before.ensures.count) in
    first_dropped c.args.time sealed writer c.drop_chunks-self-inside.result c.max-self-inside.result c.first_before-before.result s.latest (cut c reach).are reach late count c.max-self-inside.ensures

pub invariant_of-self : goal.invariant_of-self
invariant_of-self c =
    let s = c.self.inside in
    let at = (goal.at.invariant_of-self c).After-max-self-inside in
    let reach : reaches s.latest c.args.time ≡ true = search (rules, to_z-of_z) in
    subst (λ (w : WriterValue). AreStored c.drop_chunks-self-inside.new.sealed.items w c.max-self-inside.result s.latest) (sym c.first_before-before.ensures.writer) (dropped at reach).are

pub returns-clause-samples : goal.returns-clause-samples
returns-clause-samples c =
    let s = c.self.inside in
    let at = (goal.at.returns-clause-samples c).After-max-self-inside in
    let reach : reaches s.latest c.args.time ≡ true = search (rules, to_z-of_z) in
    ap (λ (w : WriterValue). drop c.max-self-inside.result (stored c.drop_chunks-self-inside.new.sealed.items w)) c.first_before-before.ensures.writer ∙ (dropped at reach).is ∙ (cut at reach).left ∙ ap (λ (v : StoredValue). samples_from c.args.time v.samples) c.self.view_is
