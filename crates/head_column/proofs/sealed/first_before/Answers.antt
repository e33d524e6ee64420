use Rattle.std.proofs.Common.{arith, rules, ◌≡◌, ◌<◌, ◌∙◌, ap, subst, length, take, get_or, w64}
use Rattle.std.specs.Prelude.{ℤ}
use Rattle.std.proofs.lemmas.Int.{to_z-of_z}
use Rattle.head_column.specs.declared.sealed.SealedChunk.{SealedChunk}
use Rattle.head_column.specs.Stored.{first_part}
use Rattle.head_column.specs.Validity.{samples_before}
use Rattle.head_column.proofs.Chunked.{first_is}
use Rattle.head_column.proofs.sealed.first_before.Goals as goal

pub returns-clause-count : goal.returns-clause-count
returns-clause-count c =
    let sealed = c.args.sealed.now in
    let part = first_part sealed c.args.writer.now in
    let chunk : SealedChunk = c.in-Some.chunk.now in
    let some : 0 < length sealed = search rules in
    let at : chunk ≡ get_or sealed 0 chunk = search rules in
    let first = first_is sealed c.args.writer.now chunk some at c.requires in
    let text : c.split_at.result.0.now ≡ take chunk.len c.args.writer.now.front = c.split_at.ensures.front ∙ ap (take chunk.len) c.front.ensures in
    subst (λ (t : ℤ). c.count_before-2.result ≡ length (samples_before t part)) (to_z-of_z w64 c.args.time c.ranges.time)
    (c.count_before-2.ensures part (c.new.ensures.body part (omega (arith, first.0.few)) first.0.fit first.0.count (text ∙ first.0.text_is)))
