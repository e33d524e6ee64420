use Rattle.std.proofs.Common.{◌≡◌, map, take}
use Rattle.serde_json.specs.View.{view}
use Rattle.inspect_command.specs.Documents.{skipped_data}
use Rattle.inspect_command.proofs.json.all_skipped_value.Given as goal

-- the values of the counts so far
abbrev pub invariant-loop-count : goal.invariant-loop-count
invariant-loop-count l = map view l.list.items ≡ map skipped_data (take l.count-index l.skipped)
