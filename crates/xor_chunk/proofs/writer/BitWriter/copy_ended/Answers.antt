use Rattle.std.proofs.Common.{◌≡◌, ◌++◌, ap, ap₂, ◌∙◌, append_assoc, List, ℕ, drop}
use Rattle.xor_chunk.specs.Writing.{BitsValue}
use Rattle.xor_chunk.proofs.Bits.{ended_behind}
use Rattle.xor_chunk.proofs.writer.BitWriter.copy_ended.Goals as goal

pub returns-clause-ended : goal.returns-clause-ended
returns-clause-ended c =
    let old : List ℕ = c.args.bytes.now.items in
    let behind : List ℕ = drop c.self.inside.start c.self.inside.bytes.items in
    let waited : List ℕ = c.self.inside.staged.items in
    let put : c.extend_from_slice.new.self.items ≡ old ++ behind =
    c.in_ok-extend_from_slice.ensures.items ∙ ap₂ (λ (xs ys : List ℕ). xs ++ ys) c.in_ok-reserve_exact.ensures.items (c.split_at.ensures.back ∙ ap (drop c.self.inside.start) c.deref.ensures.value) in
    let all : c.append_staged.new.bytes.items ≡ old ++ (behind ++ waited) = c.append_staged.ensures.items ∙ ap (λ (bs : List ℕ). bs ++ waited) put ∙ append_assoc old behind waited in
    ended_behind old c.append_staged.new.bytes.items (behind ++ waited) c.put_last.new.bytes.items c.args.whole _ _ all c.put_last.ensures.ended (ap (λ (v : BitsValue). v.bits) c.self.view_is)
