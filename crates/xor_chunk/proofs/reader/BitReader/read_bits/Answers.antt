use Rattle.std.proofs.Common.{arith, rules, ◌≡◌, ◌++◌, ap, ◌∙◌, List, [], ℕ, length, sym, get_or}
use Rattle.std.proofs.lemmas.List.{nil_from_length}
use Rattle.xor_chunk.specs.Bits.{bits_in, bits_of}
use Rattle.xor_chunk.proofs.Bits.{take_byte, first_byte, taken, taken_fits, all_taken}
use Rattle.xor_chunk.proofs.reader.BitReader.read_bits.Goals as goal

pub loop-have-preserved : goal.loop-have-preserved
loop-have-preserved c =
    let some : length c.loop-have.bytes.now ≡ 0 → ⊥ = search rules in
    let front = first_byte c.loop-have.bytes.now c.split_at.result.1.now some c.split_at.ensures.back in
    record {
      few = omega (arith, c.requires.few);
      over = omega arith;
      small = c.with_byte-held.ensures.fits;
      kept = take_byte c.loop-have.have c.loop-have.held c.with_byte-held.result (get_or c.loop-have.bytes.now 0 0) c.loop-have.bytes.now c.split_at.result.1.now c.with_byte-held.ensures.bits front ∙ c.loop-have.invariant.kept;
    }

pub returns-clause-fits : goal.returns-clause-fits
returns-clause-fits c = taken_fits c.loop-have.have c.args.count c.loop-have.held c.loop-have-test.false c.loop-have.invariant.small

pub returns-clause-taken : goal.returns-clause-taken
returns-clause-taken c = taken c.args.self.now (bits_in c.loop-have.bytes.now) c.loop-have.have c.args.count c.loop-have.held c.loop-have-test.false c.loop-have.invariant.few (c.loop-have.invariant.kept ∙ c.self.view_is)

pub returns-then-is_empty-clause-short : goal.returns-then-is_empty-clause-short
returns-then-is_empty-clause-short c =
    let none : c.loop-have.bytes.now ≡ [] = nil_from_length c.loop-have.bytes.now (search rules) in
    all_taken c.args.self.now c.loop-have.have c.args.count c.loop-have.held c.loop-have-test.true (ap (λ (bytes : List ℕ). bits_of c.loop-have.have c.loop-have.held ++ bits_in bytes) (sym none) ∙ c.loop-have.invariant.kept ∙ c.self.view_is)
