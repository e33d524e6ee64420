use Rattle.block_cut.proofs.Found.{with_hour}
use Rattle.block_cut.proofs.ranges.push_new.Goals as goal

pub returns : goal.returns
returns c = with_hour c.args.hours.now.items c.push.new.self.items c.args.hour c.in_ok-push.ensures.items
