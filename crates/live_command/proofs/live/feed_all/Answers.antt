use denote.Param.Send.{sendable}
use Rattle.std.proofs.Crossing.{crosses}
use Rattle.live_command.proofs.Sends.{Shared-sync}
use Rattle.live_command.proofs.live.feed_all.Goals as goal

pub map_vec-requires-sync-F : goal.map_vec-requires-sync-F
map_vec-requires-sync-F g c κs within = search (sendable, crosses, Shared-sync) depth 20
