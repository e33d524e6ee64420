use Rattle.std.proofs.Common.{◌≡◌, ◌-◌, ◌++◌, ◌∷◌, [], ap, ap₂, ◌∙◌, arith, subst, sym, length, length-append, refl, List, ℕ, to_z, of_z, w64}
use Rattle.std.specs.Prelude.{ℤ}
use Rattle.std.proofs.lemmas.Int.{to_z-of_z}
use Rattle.xor_chunk.specs.Writing.{xor_body}
use Rattle.head_column.specs.declared.sealed.SealedChunk.{SealedChunk}
use Rattle.head_column.specs.Stored.{AreInHour, AreSealed, IsSealed, sealed_samples}
use Rattle.head_column.proofs.Chunked.{samples_more, sealed_more}
use Rattle.head_column.proofs.sealed.seal.Goals as goal
use Rattle.head_column.proofs.sealed.seal.Goals.{After-push_reserved}

chunk : After-push_reserved → SealedChunk
chunk c = record { len = length c.front.result.now - length c.front-start.result.now; count = c.len-count.result; max_time = to_z w64 (of_z w64 c.args.max_time) }

text_len_is : (c : After-push_reserved) → length c.front.result.now - length c.front-start.result.now ≡ length (xor_body c.args.writer.now.samples)
text_len_is c =
    let after : c.front.result.now ≡ c.args.writer.now.front ++ xor_body c.args.writer.now.samples = c.front.ensures ∙ c.end_chunk.ensures.front in
    omega (arith, ap length after, ap length c.front-start.ensures, length-append c.args.writer.now.front (xor_body c.args.writer.now.samples))

one : (c : After-push_reserved) → IsSealed (chunk c) (xor_body c.args.writer.now.samples) c.args.writer.now.samples
unfolding chunk
one c = record {
  len = text_len_is c;
  text_is = refl;
  count = c.len-count.ensures;
  some = c.requires.some;
  few = c.requires.few;
  fit = c.requires.fit;
  last = to_z-of_z w64 c.args.max_time c.ranges.max_time ∙ c.requires.last;
  hour = subst (λ (t : ℤ). AreInHour t c.args.writer.now.samples) (sym (to_z-of_z w64 c.args.max_time c.ranges.max_time)) c.requires.hour;
}

pub returns-clause-sealed : goal.returns-clause-sealed
unfolding chunk
returns-clause-sealed c =
    let at = (goal.at.returns-clause-sealed c).After-push_reserved in
    subst (AreSealed c.push_reserved.new.self.items) (sym c.end_chunk.ensures.front)
    (subst (λ (l : List SealedChunk). AreSealed l (c.args.writer.now.front ++ xor_body c.args.writer.now.samples)) (sym (c.push_reserved.ensures.items ∙ ap (λ (l : List SealedChunk). l ++ chunk at ∷ []) c.in_ok-reserve.ensures.items))
    (sealed_more c.args.sealed.now.items c.args.writer.now.front (xor_body c.args.writer.now.samples) (chunk at) c.args.writer.now.samples c.requires.sealed (one at)))

pub returns-clause-stored : goal.returns-clause-stored
unfolding chunk
returns-clause-stored c =
    let at = (goal.at.returns-clause-stored c).After-push_reserved in
    ap₂ (λ (l : List SealedChunk) (bs : List ℕ). sealed_samples l bs) (c.push_reserved.ensures.items ∙ ap (λ (l : List SealedChunk). l ++ chunk at ∷ []) c.in_ok-reserve.ensures.items) c.end_chunk.ensures.front
    ∙ samples_more c.args.sealed.now.items c.args.writer.now.front (xor_body c.args.writer.now.samples) (chunk at) c.args.writer.now.samples c.requires.sealed (one at)
