-- A shared head may be lent to several threads, and what lies under its lock goes from one to another. For structs with a `Snapshot` in them, as a live
-- head has one, no such lemma is written by itself.
use denote.RattleType.{RattleType}
use denote.Param.Send.{IsSend, IsSync, sendable, view_send}
use denote.Param.SendFields.{declared_send, declared_sync}
use Rattle.std.proofs.Crossing.{crosses}
use Rattle.std.specs.declared.io.traits.Write as Write
use Rattle.std.specs.declared.sync.ledger.Ledger as Ledger
use Rattle.std.proofs.sync.ledger.Book.TheSendSync as Book
use Rattle.std.proofs.sync.ledger.Share.TheSendSync as Share
use Rattle.head_live.proofs.LogSends.{Live-send}
use Rattle.head_live.specs.declared.run.HeadRun as HeadRun
use Rattle.head_live.specs.contracts.held.Held as Held
use Rattle.head_live.specs.contracts.held.Held.TheInside as InsideHeld
use Rattle.head_live.specs.contracts.shared.SharedHead as SharedHead

module _ (K W : RattleType) (h : HeadRun.Ghosts K.Denot) (l : Ledger.Ghosts K.Denot) (w : Write.Ghosts W.Denot) where
  inside_held : IsSend W → IsSend (InsideHeld.the_row K W h l w)
  inside_held s = declared_send (InsideHeld.the_type K W h l w)
      (Live-send W w s, (Book.the_send K l, (Share.the_send K l, (search sendable, (search (sendable, crosses) depth 20, (search sendable, (search (sendable, crosses) depth 20, tt)))))))

  pub Held-send : IsSend W → IsSend (Held.the_row K W h l w)
  Held-send s = view_send (InsideHeld.the_row K W h l w) _ _ _ _ (inside_held s)

  pub SharedHead-sync : IsSend W → IsSync (SharedHead.the_row K W h l w)
  SharedHead-sync s = let held = Held-send s in declared_sync (SharedHead.the_type K W h l w) (search (sendable, crosses) depth 20, (search (crosses, held), tt))
