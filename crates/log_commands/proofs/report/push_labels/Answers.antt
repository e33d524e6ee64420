use Rattle.std.proofs.Common.{List, [], ◌∷◌, ◌++◌, ap, append_assoc, lit<, string_bytes, ◌∙◌, ℕ}
use Rattle.std.proofs.lemmas.Str.{encode_ascii}
use Rattle.wal_record.specs.declared.labels.Label.{Label}
use Rattle.head_series.specs.Table.{labels_at}
use Rattle.answers.specs.Spellings.{pair_text}
use Rattle.log_commands.proofs.Lines.{lines_more_at}
use Rattle.log_commands.proofs.report.push_labels.Goals as goal

-- the next label is appended
pub loop-i-preserved : goal.loop-i-preserved
loop-i-preserved c =
    let so_far = string_bytes c.loop-i.text in
    let pair = pair_text c.pair.result.0.now c.pair.result.1.now in
    lines_more_at (λ (m : Label). 32 ∷ pair_text m.name m.value) (labels_at c.args.head.now.content.table c.args.slot) c.loop-i.i (record { name = c.pair.result.0.now; value = c.pair.result.1.now })
    (string_bytes c.args.text.now) so_far (string_bytes c.push_pair.new.text) c.pair.ensures c.loop-i.invariant
    (c.in_ok-push_pair.ensures ∙ ap (λ (t : List ℕ). t ++ pair) (c.in_ok-push.ensures.bytes ∙ ap (λ (t : List ℕ). so_far ++ t) (encode_ascii 32 (lit< tt))) ∙ append_assoc so_far (32 ∷ []) pair)
