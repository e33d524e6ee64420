use Rattle.std.proofs.Common.{rules, ◌≡◌, ◌++◌, ap, ap₂, ◌∙◌, sym, List, ℕ, length}
use Rattle.xor_chunk.specs.Chunks.{count_bytes}
use Rattle.xor_chunk.specs.Writing.{xor_body}
use Rattle.xor_chunk.proofs.Writing.{none_is, text_parts}
use Rattle.xor_chunk.proofs.chunk_writer.encode_in.Goals as goal

pub returns-then-is_empty : goal.returns-then-is_empty
unfolding count_bytes
returns-then-is_empty c =
    let none : length c.args.samples.now ≡ 0 = search rules in
    none_is c.put_be16.new.bytes.items c.args.samples.now none (c.in_ok-put_be16.ensures.put ∙ ap (λ (bs : List ℕ). bs ++ count_bytes (length c.args.samples.now)) c.clear.ensures.items)

pub returns : goal.returns
unfolding count_bytes
returns c =
    let count : c.put_be16.new.bytes.items ≡ count_bytes (length c.args.samples.now) = c.in_ok-put_be16.ensures.put ∙ ap (λ (bs : List ℕ). bs ++ count_bytes (length c.args.samples.now)) c.clear.ensures.items in
    c.into_front.ensures ∙ c.end_chunk.ensures.front ∙ ap₂ (λ (bs : List ℕ) l. bs ++ xor_body l) (c.in_ok-writer.ensures.front ∙ c.behind.ensures.front ∙ count) c.in_ok-writer.ensures.samples ∙ sym (text_parts c.args.samples.now c.requires)
