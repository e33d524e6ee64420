use Rattle.std.proofs.Common.{◌≡◌, ◌∙◌, List, true, get_or, length, sym, ap, arith, below_more}
use Rattle.std.specs.Prelude.{pos}
use Rattle.index_text.specs.declared.row.ChunkMeta.{ChunkMeta}
use Rattle.block_read.proofs.Lists.{same_lists, named_length, named_here}
use Rattle.block_read.proofs.samples.are_named.Goals as goal

abbrev nowhere : ChunkMeta
nowhere = record { min_time = pos 0; max_time = pos 0; reference = 0 }

pub returns-then-metas-chunks-clause-complete : goal.returns-then-metas-chunks-clause-complete
returns-then-metas-chunks-clause-complete c = λ e. absurd (omega (arith, ap length e, named_length c.args.chunks.now c.args.references.now c.requires, c.if-metas-chunks.true))

pub returns-then-not-is_named-clause-complete : goal.returns-then-not-is_named-clause-complete
returns-then-not-is_named-clause-complete c = λ e.
    let here = named_here c.args.chunks.now c.args.references.now c.loop-i.i nowhere c.index-chunks-i.result c.requires (omega (arith, c.loop-i-test.true, c.if-metas-chunks.false)) c.index-chunks-i.is in
    let yes : c.is_named.result ≡ true = c.is_named.ensures.complete (ap (λ (ms : List ChunkMeta). get_or ms c.loop-i.i nowhere) e ∙ here) in
    absurd (cc (yes, c.if-not-is_named.true))

pub loop-i-preserved : goal.loop-i-preserved
loop-i-preserved c =
    let here = named_here c.args.chunks.now c.args.references.now c.loop-i.i nowhere c.index-chunks-i.result c.requires (omega (arith, c.loop-i-test.true, c.if-metas-chunks.false)) c.index-chunks-i.is in
    below_more _ _ c.loop-i.invariant (c.is_named.ensures.sound c.if-not-is_named.false ∙ sym here)

pub returns-clause-sound : goal.returns-clause-sound
returns-clause-sound c = λ yes.
    same_lists nowhere c.args.metas.now _ (omega (arith, c.if-metas-chunks.false, named_length c.args.chunks.now c.args.references.now c.requires)) (λ k lt. c.loop-i.invariant k (omega (arith, lt, c.loop-i-test.false)))
