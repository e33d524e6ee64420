use Rattle.std.proofs.Common.{◌≡◌, map, take}
use Rattle.serde_json.specs.View.{view}
use Rattle.inspect_command.specs.Documents.{unread_data}
use Rattle.inspect_command.proofs.json.all_unread_value.Given as goal

-- the values of the parts so far
abbrev pub invariant-loop-part : goal.invariant-loop-part
invariant-loop-part l = map view l.list.items ≡ map unread_data (take l.part-index l.unread)
