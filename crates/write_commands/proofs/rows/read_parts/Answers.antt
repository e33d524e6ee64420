use Rattle.std.proofs.Common.{◌≡◌, ◌∙◌, ◌∷◌, ◌++◌, List, ap, of_z, rules, subst, sym, to_z, w64}
use Rattle.std.specs.Prelude.{ℕ}
use Rattle.std.proofs.lemmas.Int.{to_z-of_z}
use Rattle.write_commands.specs.RowTexts.{IsNumberText, IsValueText}
use Rattle.write_commands.proofs.RowLaws.{parted}
use Rattle.write_commands.proofs.rows.read_parts.Goals as goal

pub returns : goal.returns
returns c =
    let time : to_z w64 (of_z w64 c.in_ok-read_number.field-0) ≡ c.in_ok-read_number.field-0 = search (rules, to_z-of_z) in
    let value : to_z w64 (of_z w64 c.in_ok-read_value.field-0) ≡ c.in_ok-read_value.field-0 = search (rules, to_z-of_z) in
    record {
      time_text = c.in_ok-time.time.now;
      value_text = c.in_ok-value.value.now;
      whole = parted c.args.line.now c.in_ok-time.time.now c.in_ok-time.rest.now c.in_ok-time.ensures.cases ∙ ap (λ (t : List ℕ). c.in_ok-time.time.now ++ 32 ∷ t) c.in_ok-value.ensures;
      time_spelled = subst (IsNumberText c.in_ok-time.time.now) (sym time) c.in_ok-read_number.ensures;
      value_spelled = subst (IsValueText c.args.floats c.in_ok-value.value.now) (sym value) c.in_ok-read_value.ensures;
    }
