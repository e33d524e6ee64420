use Rattle.std.proofs.Common.{◌≡◌, take}
use Rattle.xor_chunk.proofs.chunk_writer.with_all.Given as goal

abbrev pub invariant-loop-sample : goal.invariant-loop-sample
invariant-loop-sample l = record {
  front : l.all.front ≡ l.initial.all.front;
  samples : l.all.samples ≡ take l.sample-index l.samples;
}
