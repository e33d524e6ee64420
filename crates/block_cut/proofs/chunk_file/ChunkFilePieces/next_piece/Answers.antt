use Rattle.std.proofs.Common.{ap, sym, ◌++◌, ◌∙◌}
use Rattle.block_cut.specs.Plans.{IsPlanned, ToCome}
use Rattle.block_cut.proofs.Windows.{comes_on, next_holds, rest_holds}
use Rattle.block_cut.proofs.chunk_file.ChunkFilePieces.next_piece.Goals as goal

pub invariant_of-self-2 : goal.invariant_of-self-2
invariant_of-self-2 c =
    let f = c.self.inside in
    (c.self.invariant.0, c.self.invariant.1, rest_holds (IsPlanned f.encoding f.hour f.head.now.content) f.series.now c.in-Some.series.now c.in-Some.later.now c.in-Some.ensures.cases.0 c.self.invariant.2)

pub returns-clause-next : goal.returns-clause-next
returns-clause-next c =
    let f = c.self.inside in
    ap (λ (v : ToCome). c.args.bytes.now.items ++ v.text) (sym c.self.view_is)
    ∙ comes_on f.encoding f.hour f.head.now.content f.series.now c.in-Some.series.now c.in-Some.later.now f.is_begun f.skip f.left c.min-skipped.result c.min-taken.result c.args.bytes.now.items c.put_some.new.bytes.items
    c.if-not-self.false c.in-Some.ensures.cases.0 (next_holds (IsPlanned f.encoding f.hour f.head.now.content) f.series.now c.in-Some.series.now c.in-Some.later.now c.in-Some.ensures.cases.0 c.self.invariant.2)
    c.min-skipped.ensures c.min-taken.ensures c.in_ok-put_some.ensures
