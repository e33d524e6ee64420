use Rattle.std.proofs.Common.{rules, ◌≡◌, ◌+◌, ◌<◌, ◌∷◌, cond, ap, to_z, of_z, w64}
use Rattle.std.specs.Prelude.{int_lt}
use Rattle.xor_chunk.specs.Reading.{found_map}
use Rattle.xor_chunk.proofs.Readers.{counted_more}
use Rattle.xor_chunk.proofs.chunk_reader.count_before.Goals as goal

pub loop-sample-preserved : goal.loop-sample-preserved
loop-sample-preserved c =
    let one : c.from-count.result ≡ cond (int_lt c.in-Ok-Some.sample.time (to_z w64 (of_z w64 c.args.time))) 1 0 = search rules in
    let more : c.loop-sample.reader.rest ≡ found_map (λ l. c.in-Ok-Some.sample ∷ l) c.next.new.self.rest = search rules in
    let fewer : c.next.new.self.left < c.loop-sample.reader.left = search rules in
    counted_more c.args.reader.rest c.loop-sample.reader.rest c.next.new.self.rest (to_z w64 (of_z w64 c.args.time)) c.loop-sample.count c.loop-sample.reader.left c.next.new.self.left c.args.reader.left _ c.in-Ok-Some.sample c.loop-sample.invariant
    more fewer (ap (λ n. c.loop-sample.count + n) one)
