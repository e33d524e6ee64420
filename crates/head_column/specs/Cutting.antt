-- Chunks in either form.
use Rattle.std.specs.Prelude.{List, map}
use Rattle.xor_chunk.specs.declared.sample.Sample.{Sample}
use Rattle.head_column.specs.declared.chunk.Chunk.{Chunk}
use Rattle.head_column.specs.declared.cutting.Form.{Form}
use Rattle.head_column.specs.declared.cutting.Form.TheVariants.{Raw, Xor}
use Rattle.head_column.specs.Chunks.{chunk_of, chunk_samples, parts, xor_chunk_of}

-- the chunk of some samples
abbrev pub chunk_in : Form → List Sample → Chunk
chunk_in Raw samples = chunk_of samples
chunk_in Xor samples = xor_chunk_of samples

-- their chunks: `chunk_samples` to a chunk, perhaps fewer in the last
abbrev pub chunks_in : Form → List Sample → List Chunk
chunks_in form samples = map (chunk_in form) (parts chunk_samples samples)
