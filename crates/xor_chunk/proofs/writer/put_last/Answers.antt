use Rattle.std.proofs.Common.{arith, ◌≡◌, ◌<◌, ◌∙◌, refl, Bool, true, false}
use Rattle.xor_chunk.proofs.Bits.{none_put, byte_put, last_put, all_put, last_fits}
use Rattle.xor_chunk.proofs.writer.put_last.Goals as goal
use Rattle.xor_chunk.proofs.writer.put_last.Goals.{then-left-gt0-via-then-left-gt0, then-left-gt0-via-else-left-gt0+then-whole}

pub loop-left-init : goal.loop-left-init
loop-left-init c = record { put = none_put c.args.bytes.now.items c.args.count c.args.held; within = omega arith; len = refl; capacity = refl }

pub loop-left-preserved : goal.loop-left-preserved
loop-left-preserved c = record {
  put = byte_put c.args.bytes.now.items c.loop-left.bytes.items _ c.args.count c.loop-left.left c.args.held c.loop-left-test.true c.loop-left.invariant.put c.push_reserved.ensures.items;
  within = omega (arith, c.loop-left.invariant.within);
  len = omega (arith, c.loop-left.invariant.len, c.push_reserved.ensures.len, c.loop-left-test.true);
  capacity = c.push_reserved.ensures.capacity ∙ c.loop-left.invariant.capacity;
}

pub overflow_cast-held-then-left-gt0 : goal.overflow_cast-held-then-left-gt0
overflow_cast-held-then-left-gt0 c = omega (arith, last_fits c.loop-left.left c.args.held (omega (arith, c.loop-left-test.false)))

clash : (b : Bool) → b ≡ true → b ≡ false → ⊥
clash b p q = cc

pub returns-then-left-gt0-clause-ended : goal.returns-then-left-gt0-clause-ended
returns-then-left-gt0-clause-ended c =
    let some : c.args.whole ≡ false → 0 < c.loop-left.left = elim c.then-left-gt0.branch [
      | then-left-gt0-via-then-left-gt0 w ↦ λ h. w.if-left-gt0.true
      | then-left-gt0-via-else-left-gt0+then-whole w ↦ λ h. absurd (clash c.args.whole w.if-whole.true h)
    ] in
    last_put c.args.bytes.now.items c.loop-left.bytes.items _ c.args.count c.loop-left.left c.args.held c.args.whole (omega (arith, c.loop-left-test.false)) some c.loop-left.invariant.put c.push_reserved-then-left-gt0.ensures.items

pub returns-else-whole-clause-ended : goal.returns-else-whole-clause-ended
returns-else-whole-clause-ended c =
    all_put c.args.bytes.now.items c.loop-left.bytes.items c.args.count c.loop-left.left c.args.held c.args.whole (omega (arith, c.if-left-gt0.false)) c.if-whole.false c.loop-left.invariant.put
