-- Where chunks stand in files, by what is known of them without their data.
use Rattle.std.specs.Prelude.{List, ◌++◌, length, take, drop}
use Rattle.std.specs.List.{flat_map}
use Rattle.hw_bytes.specs.Sums.{Text}
use Rattle.head_column.specs.declared.chunk.Chunk.{Chunk}
use Rattle.block_files.specs.declared.encoding.Encoding.{Encoding}
use Rattle.block_files.specs.declared.places.ChunkSpan.{ChunkSpan}
use Rattle.block_files.specs.declared.places.FileSpan.{FileSpan}
use Rattle.block_files.specs.Files.{chunk_element, file_head}

-- what an index and the chunk files need to know of a chunk
abbrev pub span_of : Chunk → ChunkSpan
span_of c = record { min_time = c.min_time; max_time = c.max_time; count = c.count; len = length c.text }

-- a chunk file: the header, and of the data of all chunks of a block those in this file
abbrev pub file_at : Encoding → List Text → FileSpan → Text
file_at e all file = file_head ++ flat_map (chunk_element e) (take file.count (drop file.first all))
