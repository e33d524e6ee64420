use Rattle.std.proofs.Common.{◌≡◌, ◌++◌, length, map, take}
use Rattle.std.specs.List.{flat_map}
use Rattle.hw_bytes.specs.Writing.{big_bytes}
use Rattle.index_text.specs.Index.{postings_entry}
use Rattle.index_text.specs.Lent.{label_place_of}
use Rattle.index_text.proofs.tables.put_postings_table.Given as goal

abbrev pub invariant-loop-entry : goal.invariant-loop-entry
invariant-loop-entry l = l.body.items ≡ big_bytes 4 (length l.entries) ++ flat_map postings_entry (map label_place_of (take l.entry-index l.entries))
