use Rattle.refused_samples.proofs.Replayed.{quiet_counted}
use Rattle.refused_samples.proofs.replaying.Replaying.take_other.Goals as goal

pub returns : goal.returns
returns c = λ i m es before. record {
  same = before.same;
  counted = quiet_counted i m es c.args.self.now.head.content c.apply.new.head.content c.args.self.now.counts before.counted c.in_ok-apply.ensures.time c.args.record.now c.requires (c.in_ok-apply.ensures.content before.counted.taken before.counted.content);
}
