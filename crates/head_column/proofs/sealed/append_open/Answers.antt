use Rattle.std.proofs.Common.{arith, ◌≡◌, ◌∙◌, ◌++◌, ap, List, ℕ}
use Rattle.xor_chunk.specs.Writing.{xor_body}
use Rattle.head_column.proofs.sealed.append_open.Goals as goal

pub returns : goal.returns
returns c =
    let samples = c.args.writer.now.samples in
    let text : c.deref.result.now ≡ xor_body samples = c.deref.ensures.value ∙ c.in_ok-copy_chunk.ensures ∙ ap (λ (bs : List ℕ). bs ++ xor_body samples) c.new-text.ensures.items in
    c.append_samples.ensures samples (c.new.ensures.body samples (omega (arith, c.requires.few)) c.requires.fit c.len-2.ensures text)
