-- What the threads of a run share may be lent to several of them. For structs with a `Snapshot` in them, as a log that runs has one, no such lemma is
-- written by itself.
use denote.RattleType.{RattleType}
use denote.Ref.{NamedLft}
use denote.Param.Send.{IsSend, IsSync, sendable}
use denote.Param.SendFields.{declared_send, declared_sync}
use Rattle.std.proofs.Crossing.{crosses}
use Rattle.store.specs.declared.store.Store as Store
use Rattle.std.proofs.option.Option.TheSendSync as Option
use Rattle.live_log.proofs.Sends.{RunningLog-send}
use Rattle.live_command.specs.contracts.running.Running as Running
use Rattle.live_command.specs.contracts.shared.Shared as Shared

module _ (S W : RattleType) (s : Store.Ghosts S.Denot W.Denot) where
  pub Running-send : IsSend S → IsSend W → IsSend (Running.the_row S W s)
  Running-send a w =
      let log = RunningLog-send S W s a w in
      declared_send (Running.the_type S W s) (search (sendable, crosses), (log, (search sendable, (search (sendable, crosses, Option.the_field_send) depth 20, tt))))

module _ (κ : NamedLft) (S W O : RattleType) (s : Store.Ghosts S.Denot W.Denot) where
  pub Shared-sync : IsSend S → IsSend W → IsSend O → IsSync (Shared.the_row κ S O W s)
  Shared-sync a w o =
      let running = Running-send S W s a w in
      declared_sync (Shared.the_type κ S O W s) (search (sendable, crosses) depth 20, (search (crosses, running), (search (crosses, o), (search (sendable, crosses), tt))))
