-- The error for an error of a crate below.
use Rattle.index_text.specs.declared.fault.ReadFault.{ReadFault}
use Rattle.index_text.specs.declared.fault.ReadFault.TheVariants as read
use Rattle.head_column.specs.declared.chunk.ChunkFault.{ChunkFault}
use Rattle.head_column.specs.declared.chunk.ChunkFault.TheVariants as chunk
use Rattle.xor_chunk.specs.declared.fault.XorFault.{XorFault}
use Rattle.xor_chunk.specs.declared.fault.XorFault.TheVariants as xor
use Rattle.hw_bytes.specs.declared.write_fault.WriteFault.{WriteFault}
use Rattle.hw_bytes.specs.declared.write_fault.WriteFault.TheVariants as write
use Rattle.block_files.specs.declared.tombstones.TombstonesFault.{TombstonesFault}
use Rattle.block_files.specs.declared.tombstones.TombstonesFault.TheVariants as tombstones
use Rattle.block_read.specs.declared.fault.BlockFault.{BlockFault}
use Rattle.block_read.specs.declared.fault.BlockFault.TheVariants as block
use Rattle.block_read.specs.declared.fault.PartFault.{PartFault}
use Rattle.block_read.specs.declared.fault.PartFault.TheVariants as part

-- the error for one of the index
abbrev pub of_index : ReadFault → BlockFault
of_index read.BadMagic = block.Index read.BadMagic
of_index read.BadVersion = block.Index read.BadVersion
of_index read.BadToc = block.Index read.BadToc
of_index read.BadSum = block.Index read.BadSum
of_index read.BadSection = block.Index read.BadSection
of_index read.NotCanonical = block.Index read.NotCanonical
of_index read.Memory = block.Memory

-- the error for one of decoding a chunk
abbrev pub of_chunk : ChunkFault → PartFault
of_chunk chunk.BadChunk = part.Bad
of_chunk chunk.Memory = part.Memory

-- the error for one of decoding a chunk in the XOR encoding
abbrev pub of_xor : XorFault → PartFault
of_xor xor.Memory = part.Memory
of_xor other = part.Bad

-- the error for one of writing
abbrev pub of_write : WriteFault → PartFault
of_write write.TooLarge = part.Bad
of_write write.Memory = part.Memory

-- the error for one of the tombstones
abbrev pub of_tombstones : TombstonesFault → PartFault
of_tombstones tombstones.BadTombstones = part.Bad
of_tombstones tombstones.Memory = part.Memory
