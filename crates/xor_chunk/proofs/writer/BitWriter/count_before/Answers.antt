use Rattle.std.proofs.Common.{arith, ◌≡◌, ◌≤◌, ◌∙◌, ap, sym, subst, List, ℕ, length, drop, w64}
use Rattle.std.specs.Prelude.{filter, int_lt, ℤ}
use Rattle.std.proofs.lemmas.Int.{to_z-of_z}
use Rattle.hw_bytes.specs.Spellings.{IsBytes}
use Rattle.hw_bytes.proofs.Codes.{bytes_drop}
use Rattle.xor_chunk.specs.Private.{IsPacked}
use Rattle.xor_chunk.specs.Writing.{BitsValue}
use Rattle.xor_chunk.proofs.Bits.{ended_body_staged}
use Rattle.xor_chunk.proofs.writer.BitWriter.count_before.Goals as goal

pub returns-clause-count : goal.returns-clause-count
returns-clause-count c = λ all body.
    let start : ℕ = c.self.inside.start in
    let old : List ℕ = c.self.inside.bytes.items in
    let new : List ℕ = c.put_last.new.bytes.items in
    let text : List ℕ = c.split_at.result.1.now in
    let within : start ≤ length old = omega (arith, c.self.invariant.2, c.self.inside.bytes.ok) in
    let is : text ≡ drop start new = c.split_at.ensures.back ∙ ap (drop start) c.deref-2.ensures.value in
    let small : IsBytes text = bytes_drop new text start (subst IsBytes c.deref.ensures.value c.are_bytes.ensures) is in
    let packed : IsPacked text c.args.whole c.args.self.now.bits = subst (λ (bs : List ℕ). IsPacked bs c.args.whole c.args.self.now.bits) (sym is) (ended_body_staged start old c.self.inside.staged.items c.copy_staged.new.bytes.items new c.args.whole _ _ within c.copy_staged.ensures.items c.put_last.ensures.ended (ap (λ (v : BitsValue). v.bits) c.self.view_is)) in
    subst (λ (t : ℤ). c.count_before-before.result ≡ length (filter (λ x. int_lt x.time t) all)) (to_z-of_z w64 c.args.time c.ranges.time)
    (c.count_before-before.ensures all (c.new.ensures.body all body.few body.fit body.count_is (body.text_is text small packed)))
