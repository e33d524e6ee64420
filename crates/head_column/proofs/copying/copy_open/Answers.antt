use Rattle.std.proofs.Common.{arith, ◌≡◌, ◌∙◌, ◌++◌, ap, subst, sym, List, ℕ, w64}
use Rattle.std.specs.Prelude.{ℤ}
use Rattle.std.proofs.lemmas.Int.{to_z-of_z}
use Rattle.xor_chunk.specs.Writing.{xor_body}
use Rattle.xor_chunk.specs.declared.sample.Sample.{Sample}
use Rattle.head_column.specs.Stored.{AreInHour}
use Rattle.head_column.proofs.copying.copy_open.Goals as goal

pub copy_sealed-requires : goal.copy_sealed-requires
copy_sealed-requires c = omega (arith, c.len-2.ensures, c.requires.few)

pub returns : goal.returns
returns c = λ last.
    let samples : List Sample = c.args.writer.now.samples in
    let text : c.deref.result.now ≡ xor_body samples = c.deref.ensures.value ∙ c.in_ok-copy_chunk.ensures ∙ ap (λ (bs : List ℕ). bs ++ xor_body samples) c.new-body.ensures.items in
    let time = to_z-of_z w64 c.args.max_time c.ranges.max_time ∙ last in
    c.copy_sealed.ensures samples (record {
      len = c.len.ensures ∙ sym c.deref.ensures.len;
      text_is = text;
      count = c.len-2.ensures;
      some = c.requires.some;
      few = c.requires.few;
      fit = c.requires.fit;
      last = time;
      hour = subst (λ (t : ℤ). AreInHour t samples) (sym time) c.requires.hour;
    })
