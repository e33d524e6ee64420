use Rattle.std.proofs.Common.{◌≡◌, ℕ, List, ap, sym, ◌∙◌, arith, ◌+◌, ◌/◌, ◌++◌, ◌<◌, take, drop}
use Rattle.std.specs.Int.Bits.{bit_xor}
use Rattle.std.specs.List.{fold}
use Rattle.std.proofs.lemmas.List.{take_all, take-append-drop, take-take, drop-take}
use Rattle.std.proofs.lemmas.List.Sums.{fold_more, fold-append}
use Rattle.hw_bytes.specs.Checksum.{with_byte, all_ones, crc32c}
use Rattle.hw_bytes.proofs.Division.{by_table}
use Rattle.hw_bytes.proofs.checksum.crc32c.Goals as goal

take_then : (n m : ℕ) (xs : List ℕ) → take (n + m) xs ≡ take n xs ++ take m (drop n xs)
take_then n m xs = sym (take-append-drop n (take (n + m) xs)) ∙ ap (λ a. a ++ drop n (take (n + m) xs)) (take-take n (n + m) xs (omega arith)) ∙ ap (λ b. take n xs ++ b) (drop-take n m xs)

pub loop-at-preserved : goal.loop-at-preserved
loop-at-preserved c = record {
  within = omega arith;
  value =
      c.eight-remainder.ensures
      ∙ ap (λ (r : ℕ). fold with_byte r c.split_at-in-loop-at.result.0.now) c.loop-at.invariant.value
      ∙ ap (fold with_byte (fold with_byte all_ones (take c.loop-at.at c.args.bytes.now))) (c.split_at-in-loop-at.ensures.front ∙ ap (take 8) c.split_at.ensures.back)
      ∙ sym (fold-append with_byte all_ones (take c.loop-at.at c.args.bytes.now) (take 8 (drop c.loop-at.at c.args.bytes.now)))
      ∙ ap (fold with_byte all_ones) (sym (take_then c.loop-at.at 8 c.args.bytes.now));
}

pub loop-at-2-preserved : goal.loop-at-2-preserved
loop-at-2-preserved c = record {
  within = omega arith;
  value =
      (let byte = c.from.result in
      let within : byte < 256 = rw c.from.ensures ((c.type_inv.bytes c.loop-at-2.at).fits) in
      ap (bit_xor (c.loop-at-2.remainder / 256)) c.entry.ensures
      ∙ sym (by_table c.loop-at-2.remainder byte within)
      ∙ ap (λ (r : ℕ). with_byte r byte) c.loop-at-2.invariant.value
      ∙ ap (with_byte (fold with_byte all_ones (take c.loop-at-2.at c.args.bytes.now))) c.from.ensures
      ∙ sym (fold_more with_byte all_ones c.args.bytes.now c.loop-at-2.at 0 c.loop-at-2-test.true));
}

pub returns : goal.returns
unfolding crc32c
returns c =
    ap (λ (r : ℕ). bit_xor r all_ones) (c.loop-at-2.invariant.value ∙ ap (fold with_byte all_ones) (take_all c.loop-at-2.at c.args.bytes.now c.loop-at-2-test.false))
