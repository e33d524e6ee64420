-- Conversions of faults.
use Rattle.replay_rounds.specs.declared.fault.RoundFault.{RoundFault}
use Rattle.replay_rounds.specs.declared.fault.RoundFault.TheVariants.{Full, Memory, Workers}
use Rattle.head_replay.specs.declared.fault.ReplayFault.{ReplayFault}
use Rattle.head_replay.specs.declared.fault.ReplayFault.TheVariants as replay
use Rattle.head_replay.specs.declared.fault.LogFault.{LogFault}
use Rattle.head_replay.specs.declared.fault.LogFault.TheVariants as log
use Rattle.head_replay.specs.declared.fault.SourceFault.{SourceFault}
use Rattle.head_replay.specs.declared.fault.SourceFault.TheVariants as source

abbrev pub replay_fault : RoundFault → ReplayFault
replay_fault Full = replay.Full
replay_fault Memory = replay.Memory
replay_fault Workers = replay.Workers

abbrev pub source_fault : {F : Type 0} → LogFault F → SourceFault F
source_fault (log.Source refused) = source.Source refused
source_fault (log.Round fault) = source.Replay (replay_fault fault)
