use Rattle.std.proofs.Common.{◌≡◌, ◌++◌, length, map, take}
use Rattle.std.specs.List.{flat_map}
use Rattle.hw_bytes.specs.Writing.{big_bytes}
use Rattle.index_text.specs.Index.{label_entry}
use Rattle.index_text.specs.Lent.{name_place_of}
use Rattle.index_text.proofs.tables.put_label_table.Given as goal

abbrev pub invariant-loop-entry : goal.invariant-loop-entry
invariant-loop-entry l = l.body.items ≡ big_bytes 4 (length l.entries) ++ flat_map label_entry (map name_place_of (take l.entry-index l.entries))
