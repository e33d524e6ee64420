-- What a fault says.
use Rattle.std.specs.Prelude.{ℕ, List, codes}
use Rattle.xor_chunk.specs.declared.fault.XorFault.{XorFault}
use Rattle.xor_chunk.specs.declared.fault.XorFault.TheVariants.{TooShort, BadNumber, BadWindow, NotCanonical, Memory}

abbrev pub fault_text : XorFault → List ℕ
fault_text TooShort = codes "cut off before the last sample"
fault_text BadNumber = codes "no number of 64 bits"
fault_text BadWindow = codes "a window of more than 64 bits"
fault_text NotCanonical = codes "not the shortest chunk of its samples"
fault_text Memory = codes "out of memory"
