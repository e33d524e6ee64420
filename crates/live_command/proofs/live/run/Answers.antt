use denote.Param.Send.{sendable}
use Rattle.std.proofs.Crossing.{crosses}
use Rattle.live_command.proofs.feed.Feed.TheSendSync as Feed
use Rattle.live_command.proofs.Sends.{Shared-sync}
use Rattle.live_command.proofs.live.run.Goals as goal

pub join-fed-requires-send-F : goal.join-fed-requires-send-F
join-fed-requires-send-F g c κs within = search (sendable, crosses, Shared-sync, Feed.the_field_send) depth 20
