use Rattle.std.proofs.Common.{◌≡◌, map, take}
use Rattle.serde_json.specs.View.{view}
use Rattle.inspect_command.specs.Documents.{file_data}
use Rattle.inspect_command.proofs.json.files_value.Given as goal

-- the values of the files so far
abbrev pub invariant-loop-file : goal.invariant-loop-file
invariant-loop-file l = map view l.list.items ≡ map file_data (take l.file-index l.files)
