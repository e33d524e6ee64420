-- Conversions of faults.
use Rattle.head_resolver.specs.declared.fault.HeadFault.{HeadFault}
use Rattle.head_resolver.specs.declared.fault.HeadFault.TheVariants as head
use Rattle.crew.specs.declared.crew.CrewFault.{CrewFault}
use Rattle.crew.specs.declared.crew.CrewFault.TheVariants as crew
use Rattle.replay_rounds.specs.declared.fault.RoundFault.{RoundFault}
use Rattle.replay_rounds.specs.declared.fault.RoundFault.TheVariants.{Full, Memory, Workers}

abbrev pub crew_fault : CrewFault → RoundFault
crew_fault crew.Memory = Memory
crew_fault crew.Workers = Workers

abbrev pub head_fault : HeadFault → RoundFault
head_fault head.Full = Full
head_fault head.Memory = Memory
head_fault head.Failed = Memory
