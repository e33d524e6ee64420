use Rattle.std.proofs.Common.{arith, ap, ap₂, ◌++◌, ◌∙◌, List, Bool, ℕ}
use Rattle.std.proofs.lemmas.List.{drop_all}
use Rattle.xor_chunk.specs.Bits.{bits_in}
use Rattle.xor_chunk.proofs.Bits.{no_bits, no_bytes}
use Rattle.xor_chunk.proofs.writer.BitWriter.clear.Goals as goal

pub returns-clause-none : goal.returns-clause-none
returns-clause-none c =
    let none = ap₂ (λ (xs ys : List ℕ). xs ++ ys) (drop_all c.self.inside.start c.truncate.new.self.items (omega (arith, c.truncate.ensures.len, c.truncate.new.self.ok))) c.clear.ensures in
    ap₂ (λ (xs ys : List Bool). xs ++ ys) (ap bits_in none ∙ no_bytes) (no_bits 0)
