use Rattle.std.proofs.Common.{◌≡◌, ◌++◌, length, take}
use Rattle.std.specs.List.{flat_map}
use Rattle.hw_bytes.specs.Writing.{big_bytes, text}
use Rattle.index_text.specs.Gives.{nows}
use Rattle.index_text.proofs.tables.put_symbols.Given as goal

abbrev pub invariant-loop-symbol : goal.invariant-loop-symbol
invariant-loop-symbol l = l.body.items ≡ big_bytes 4 (length l.symbols) ++ flat_map text (nows (take l.symbol-index l.symbols))
