use Rattle.std.proofs.Common.{◌≡◌, lit<, of_z, rules, string_bytes, to_z, w64}
use Rattle.std.proofs.lemmas.Int.{to_z-of_z}
use Rattle.std.proofs.lemmas.Str.{encode_ascii}
use Rattle.query_commands.proofs.Growing.{line_written}
use Rattle.query_commands.proofs.lines.push_line.Goals as goal

pub returns : goal.returns
returns c =
    let s = c.args.sample.now in
    let time : to_z w64 (of_z w64 s.time) ≡ s.time = search (rules, to_z-of_z) in
    let value : to_z w64 (of_z w64 s.value) ≡ s.value = search (rules, to_z-of_z) in
    line_written c.push.result c.args.floats c.args.labels.now s (string_bytes c.args.text.now) (string_bytes c.push_str.new.self) (string_bytes c.write.new.self)
    (string_bytes c.push_value.new.text) (string_bytes c.push.new.self) _ _ _ c.in_ok-push_str.ensures.bytes c.in_ok-write.ensures.bytes c.in_ok-push_value.ensures c.push.ensures.bytes
    time value (encode_ascii 10 (lit< tt))
