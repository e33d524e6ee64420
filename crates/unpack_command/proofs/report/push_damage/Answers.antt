use Rattle.std.proofs.Common.{lit<, string_bytes}
use Rattle.std.proofs.lemmas.Str.{encode_ascii}
use Rattle.unpack_command.specs.Told.{damage_front}
use Rattle.unpack_command.proofs.Endings.{line_ended}
use Rattle.unpack_command.proofs.report.push_damage.Goals as goal

pub returns : goal.returns
returns c =
    line_ended c.push.result (damage_front c.args.found) (string_bytes c.args.text.now) (string_bytes c.push_front.new.text) (string_bytes c.push_str.new.self) (string_bytes c.push.new.self) c.deref.result.now _
    c.in_ok-push_front.ensures c.in_ok-push_str.ensures.bytes c.push.ensures.bytes (encode_ascii 10 (lit< tt))
