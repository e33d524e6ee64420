use Rattle.std.proofs.Common.{◌≡◌, ◌++◌, take}
use Rattle.std.specs.List.{flat_map}
use Rattle.block_files.specs.Files.{chunk_element, row_texts}
use Rattle.block_cut.proofs.chunk_file.put_chunks.Given as goal

abbrev pub invariant-loop-chunk : goal.invariant-loop-chunk
invariant-loop-chunk l = l.bytes.items ≡ l.initial.bytes.items ++ flat_map (chunk_element l.encoding) (row_texts (take l.chunk-index l.chunks))
