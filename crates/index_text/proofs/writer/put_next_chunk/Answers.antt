use Rattle.std.proofs.Common.{rules, ◌≡◌}
use Rattle.std.specs.Prelude.{◌-ℤ◌, unsigned_abs}
use Rattle.index_text.specs.Index.{reference_step}
use Rattle.index_text.proofs.Places.{three_put}
use Rattle.index_text.proofs.writer.put_next_chunk.Goals as goal

pub returns : goal.returns
returns c =
    let p : c.span.result ≡ unsigned_abs (c.args.chunk.min_time -ℤ c.args.last.max_time) = search (rules, c.span.ensures) in
    let q : c.span-2.result ≡ unsigned_abs (c.args.chunk.max_time -ℤ c.args.chunk.min_time) = search (rules, c.span-2.ensures) in
    let r : c.reference_step.result ≡ reference_step c.args.last.reference c.args.chunk.reference = search (rules, c.reference_step.ensures) in
    three_put c.args.out.now.items c.put_uvarint.new.bytes.items c.put_uvarint-2.new.bytes.items c.put_varint.new.bytes.items c.args.last c.args.chunk c.span.result c.span-2.result c.reference_step.result p q r c.in_ok-put_uvarint.ensures.put c.in_ok-put_uvarint-2.ensures.put (search (rules, c.in_ok-put_varint.ensures.put))
