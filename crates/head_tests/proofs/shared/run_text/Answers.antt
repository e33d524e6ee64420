use denote.Param.Send.{sendable}
use Rattle.std.proofs.Crossing.{crosses}
use Rattle.head_live.proofs.Sends.{SharedHead-sync}
use Rattle.head_tests.proofs.shared.run_text.Goals as goal

pub append_at_once-requires-sync-S : goal.append_at_once-requires-sync-S
append_at_once-requires-sync-S g c κs within = search (sendable, crosses, SharedHead-sync) depth 20
