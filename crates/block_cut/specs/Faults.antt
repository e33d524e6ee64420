-- The error of a cut for an error of writing.
use Rattle.hw_bytes.specs.declared.write_fault.WriteFault.{WriteFault}
use Rattle.hw_bytes.specs.declared.write_fault.WriteFault.TheVariants as write
use Rattle.block_cut.specs.declared.fault.CutFault.{CutFault}
use Rattle.block_cut.specs.declared.fault.CutFault.TheVariants.{TooLarge, Memory}

-- the error for one of writing a part
abbrev pub cut_fault : WriteFault → CutFault
cut_fault write.TooLarge = TooLarge
cut_fault write.Memory = Memory
