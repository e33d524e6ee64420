use Rattle.std.proofs.Common.{◌∙◌, ap, arith, lit<, string_bytes}
use Rattle.std.proofs.lemmas.List.{take_all}
use Rattle.std.proofs.lemmas.Str.{encode_ascii}
use Rattle.head_series.specs.Table.{labels_at}
use Rattle.query_commands.specs.Dumps.{labels_text}
use Rattle.query_commands.proofs.Growing.{labels_more}
use Rattle.query_commands.proofs.lines.labels_of.Goals as goal

-- the next label is appended
pub loop-i-preserved : goal.loop-i-preserved
loop-i-preserved c =
    labels_more (labels_at c.args.head.now.content.table c.args.slot) c.loop-i.i _ (string_bytes c.loop-i.text) (string_bytes c.push_pair.new.text) (string_bytes c.push.new.self) _
    c.pair.ensures c.loop-i.invariant c.in_ok-push_pair.ensures c.in_ok-push.ensures.bytes (encode_ascii 32 (lit< tt))

pub returns : goal.returns
returns c = c.loop-i.invariant ∙ ap labels_text (take_all c.loop-i.i (labels_at c.args.head.now.content.table c.args.slot) (omega (arith, c.pairs-i-end.ensures)))
