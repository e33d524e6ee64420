use Rattle.std.proofs.Common.{arith}
use Rattle.store.proofs.Moving.{moved_on}
use Rattle.store.proofs.pieces.write_each.Goals as goal

pub loop-preserved : goal.loop-preserved
loop-preserved g c =
    let contents = g.W.Write.contents in
    let text = g.P.Pieces.text in (
      moved_on (contents c.args.writer.now) (contents c.loop.writer) (contents c.write_many.new.writer) (text c.args.pieces.now) c.loop.bytes.items (text c.loop.pieces) c.next_piece.new.bytes.items c.write_many.new.bytes.items (text c.next_piece.new.self)
          c.loop.invariant.0 c.in_ok-next_piece.ensures.next c.in_ok-write_many.ensures,
      omega (arith, c.loop.invariant.1, c.in_ok-next_piece.ensures.fewer),
      c.in_ok-next_piece.ensures.ended,
    )
