use Rattle.std.proofs.Common.{arith, ◌≡◌, ◌≤◌, ◌∷◌, ◌∙◌, ap, sym, subst, true, false, drop, length, take, List, ℕ, w64}
use Rattle.std.specs.Prelude.{ℤ, All, int_lt}
use Rattle.std.proofs.lemmas.Int.{to_z-of_z}
use Rattle.head_column.specs.declared.sealed.SealedChunk.{SealedChunk}
use Rattle.head_column.specs.Stored.{AreSealed, text_len}
use Rattle.head_column.proofs.Chunked.{sealed_rest, some_cut, text_is_long, text_least}
use Rattle.head_column.proofs.sealed.drop_chunks.Goals as goal

pub returns-then-chunks-eq0-clause-late : goal.returns-then-chunks-eq0-clause-late
returns-then-chunks-eq0-clause-late c = λ chunk more e.
    let none : c.chunks_before-chunks.result.0 ≡ 0 = c.if-chunks-eq0.true in
    let here : drop c.chunks_before-chunks.result.0 c.deref.result.now ≡ chunk ∷ more = ap (λ (n : ℕ). drop n c.deref.result.now) none ∙ c.deref.ensures.value ∙ e in
    subst (λ (t : ℤ). int_lt chunk.max_time t ≡ false) (to_z-of_z w64 c.args.time c.ranges.time) (c.chunks_before-chunks.ensures.other chunk more here)

pub drop_front-requires : goal.drop_front-requires
drop_front-requires c =
    let n : ℕ = c.chunks_before-chunks.result.0 in
    let sealed : List SealedChunk = c.args.sealed.now.items in
    omega (arith, c.chunks_before-chunks.ensures.len, ap (λ (l : List SealedChunk). text_len (take n l)) c.deref.ensures.value, text_is_long sealed c.args.writer.now.front c.requires, text_least sealed n)

front : (c : goal.After-drop_front) → c.drop_front.new.self.front ≡ drop (text_len (take c.chunks_before-chunks.result.0 c.args.sealed.now.items)) c.args.writer.now.front
front c =
    let n : ℕ = c.chunks_before-chunks.result.0 in
    c.drop_front.ensures.front ∙ ap (λ (k : ℕ). drop k c.args.writer.now.front) (c.chunks_before-chunks.ensures.len ∙ ap (λ (l : List SealedChunk). text_len (take n l)) c.deref.ensures.value)

pub returns-clause-cut : goal.returns-clause-cut
returns-clause-cut c = λ g stored reach.
    let n : ℕ = c.chunks_before-chunks.result.0 in
    let sealed : List SealedChunk = c.args.sealed.now.items in
    let time = to_z-of_z w64 c.args.time c.ranges.time in
    let within : n ≤ length sealed = omega (arith, c.chunks_before-chunks.ensures.within, ap length c.deref.ensures.value) in
    let over = subst (λ (t : ℤ). All (λ x. int_lt x.max_time t ≡ true) (take n c.deref.result.now)) time c.chunks_before-chunks.ensures.over in
    let over_all = subst (λ (l : List SealedChunk). All (λ x. int_lt x.max_time c.args.time ≡ true) (take n l)) c.deref.ensures.value over in
    some_cut c.args.time n sealed c.drop_first.new.sealed.items c.args.writer.now c.drop_front.new.self c.args.dropped g stored reach (omega (arith, c.if-chunks-eq0.false)) within over_all c.drop_first.ensures.items (front c) c.drop_front.ensures.samples

pub returns-clause-late : goal.returns-clause-late
returns-clause-late c = λ chunk more e.
    let here : drop c.chunks_before-chunks.result.0 c.deref.result.now ≡ chunk ∷ more = ap (drop c.chunks_before-chunks.result.0) c.deref.ensures.value ∙ sym c.drop_first.ensures.items ∙ e in
    subst (λ (t : ℤ). int_lt chunk.max_time t ≡ false) (to_z-of_z w64 c.args.time c.ranges.time) (c.chunks_before-chunks.ensures.other chunk more here)

pub returns-clause-are : goal.returns-clause-are
returns-clause-are c =
    let n : ℕ = c.chunks_before-chunks.result.0 in
    let sealed : List SealedChunk = c.args.sealed.now.items in
    subst (AreSealed c.drop_first.new.sealed.items) (sym (front c)) (subst (λ (l : List SealedChunk). AreSealed l (drop (text_len (take n sealed)) c.args.writer.now.front)) (sym c.drop_first.ensures.items) (sealed_rest n sealed c.args.writer.now.front c.requires))
