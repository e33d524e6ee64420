use Rattle.std.proofs.Common.{arith, ◌≡◌, ◌≤◌, ◌++◌, ap, ap₂, ◌∙◌, sym, subst, List, ℕ, Bool, length, take}
use Rattle.std.proofs.lemmas.List.{drop_all, take_all}
use Rattle.xor_chunk.specs.Bits.{bits_in}
use Rattle.xor_chunk.specs.Private.{IsEnded}
use Rattle.xor_chunk.specs.Writing.{BitsValue}
use Rattle.xor_chunk.proofs.Bits.{ended_staged, no_bits, no_bytes}
use Rattle.xor_chunk.proofs.writer.BitWriter.end.Goals as goal

pub returns-clause-ended : goal.returns-clause-ended
returns-clause-ended c =
    let start : ℕ = c.self.inside.start in
    let old : List ℕ = c.self.inside.bytes.items in
    let new : List ℕ = c.put_last.new.bytes.items in
    let within : start ≤ length old = omega (arith, c.self.invariant.2, c.self.inside.bytes.ok) in
    let ended : IsEnded (take start old) new c.args.whole c.args.self.now.bits = ended_staged start old c.self.inside.staged.items c.append_staged.new.bytes.items new c.args.whole _ _ within c.append_staged.ensures.items c.put_last.ensures.ended (ap (λ (v : BitsValue). v.bits) c.self.view_is) in
    let all : take c.len-self-inside.result new ≡ new = take_all c.len-self-inside.result new (omega (arith, c.len-self-inside.ensures, c.put_last.new.bytes.ok)) in
    subst (λ (bs : List ℕ). IsEnded bs (take c.len-self-inside.result new) c.args.whole c.args.self.now.bits) (ap (λ (v : BitsValue). v.front) c.self.view_is) (subst (λ (bs : List ℕ). IsEnded (take start old) bs c.args.whole c.args.self.now.bits) (sym all) ended)

pub returns-clause-none : goal.returns-clause-none
returns-clause-none c =
    let none = ap₂ (λ (xs ys : List ℕ). xs ++ ys) (drop_all c.len-self-inside.result c.put_last.new.bytes.items (omega (arith, c.len-self-inside.ensures, c.put_last.new.bytes.ok))) c.clear.ensures in
    ap₂ (λ (xs ys : List Bool). xs ++ ys) (ap bits_in none ∙ no_bytes) (no_bits 0)
