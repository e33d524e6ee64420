use Rattle.std.proofs.Common.{arith, rules, ◌≡◌, ◌++◌, ◌∙◌, ap, ap₂, sym, List, ℕ, w64}
use Rattle.std.specs.Prelude.{FitsSigned}
use Rattle.std.proofs.lemmas.Int.{to_z-of_z}
use Rattle.hw_bytes.specs.Writing.{big_bytes}
use Rattle.head_column.proofs.Copied.{chunk_same, text_is}
use Rattle.head_column.proofs.copying.copy_sealed.Goals as goal

pub returns : goal.returns
returns c = λ part sealed.
    let first = c.first_time.ensures part (c.new.ensures.body part (omega (arith, sealed.few)) sealed.fit sealed.count sealed.text_is) in
    let fits : FitsSigned w64 c.first_time.result = search rules in
    let last : FitsSigned w64 c.args.chunk.max_time = search rules in
    let head : c.put_be16.new.bytes.items ≡ big_bytes 2 c.args.chunk.count = c.in_ok-put_be16.ensures.put ∙ ap (λ (bs : List ℕ). bs ++ big_bytes 2 c.args.chunk.count) c.in_ok-text.ensures.items in
    let text = c.from_vec.ensures ∙ c.in_ok-extend_from_slice.ensures.items ∙ ap₂ (λ (xs ys : List ℕ). xs ++ ys) (head ∙ ap (big_bytes 2) sealed.count) sealed.text_is ∙ sym (text_is part (omega (arith, sealed.few))) in
    chunk_same _ _ _ _ _ _ _ _ (to_z-of_z w64 c.first_time.result fits ∙ first) (to_z-of_z w64 c.args.chunk.max_time last ∙ sealed.last) sealed.count text
