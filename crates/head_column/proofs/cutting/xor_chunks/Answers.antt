use Rattle.std.proofs.Common.{◌≡◌, ◌-◌, subst, length, take, List, Option}
use Rattle.std.specs.Prelude.{All, IfSome, Vec}
use Rattle.std.specs.Global.{Global}
use Rattle.head_column.specs.declared.chunk.Chunk.{Chunk}
use Rattle.head_column.specs.Chunks.{chunk_samples}
use Rattle.head_column.specs.Stored.{AreCopies}
use Rattle.head_column.proofs.Copied.{copies_are}
use Rattle.head_column.proofs.cutting.xor_chunks.Goals as goal

pub returns-clause-chunks : goal.returns-clause-chunks
returns-clause-chunks c =
    let copies : AreCopies c.args.hour c.args.samples.now.samples c.in-Some.chunks.items =
    subst (λ (found : Option (Vec Chunk Global)). IfSome found (λ chunks. AreCopies c.args.hour c.args.samples.now.samples chunks.items)) c.in-Some.is c.in_ok-chunks.ensures.copies in
    let full = subst (λ (l : List Chunk). All (λ x. x.count ≡ chunk_samples) (take (length l - 1) l)) c.deref.ensures.value (c.are_full.ensures c.if-are_full.true) in
    copies_are c.args.hour c.args.samples.now.samples c.in-Some.chunks.items copies full
