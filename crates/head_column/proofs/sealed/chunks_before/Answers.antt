use Rattle.std.proofs.Common.{arith, rules, ◌≡◌, ◌<◌, ◌^◌, ◌+◌, ap, sym, ◌∙◌, true, get_or, pos, to_z, of_z, w64, length}
use Rattle.std.specs.Prelude.{int_lt}
use Rattle.std.proofs.lemmas.List.Elements.{All-more}
use Rattle.head_column.specs.declared.sealed.SealedChunk.{SealedChunk}
use Rattle.head_column.proofs.Chunked.{text_is_long, text_least, text_more}
use Rattle.head_column.proofs.sealed.chunks_before.Goals as goal

pub overflow_add-len : goal.overflow_add-len
overflow_add-len c =
    let d : SealedChunk = record { len = 0; count = 0; max_time = pos 0 } in
    let long : length c.args.bytes.now < 2 ^ 64 = search rules in
    omega (arith, long, text_is_long c.args.sealed.now c.args.bytes.now c.requires, c.loop-count.invariant.len, text_more c.args.sealed.now c.loop-count.count d c.loop-count-test.true, text_least c.args.sealed.now (c.loop-count.count + 1))

pub loop-count-preserved : goal.loop-count-preserved
loop-count-preserved c =
    let d : SealedChunk = record { len = 0; count = 0; max_time = pos 0 } in
    let over : int_lt (get_or c.args.sealed.now c.loop-count.count d).max_time (to_z w64 (of_z w64 c.args.time)) ≡ true = search rules in
    record {
      within = omega (arith, c.loop-count-test.true);
      len = ap (λ n. n + (get_or c.args.sealed.now c.loop-count.count d).len) c.loop-count.invariant.len ∙ sym (text_more c.args.sealed.now c.loop-count.count d c.loop-count-test.true);
      over = All-more (λ x. int_lt x.max_time (to_z w64 (of_z w64 c.args.time)) ≡ true) c.args.sealed.now c.loop-count.count d c.loop-count-test.true c.loop-count.invariant.over over;
    }
