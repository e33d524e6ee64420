use Rattle.std.proofs.Common.{◌≡◌, vec_len, length, arith}
use Rattle.head_replay.proofs.Partial.{none_listed, one_listed}
use Rattle.head_replay.proofs.postings.only.Goals as goal

pub returns-in-Some : goal.returns-in-Some
returns-in-Some c = record {
  postings = λ workers first series h.
      let long : vec_len c.args.jobs ≡ length c.args.jobs.items = omega arith in
      one_listed workers first (vec_len c.args.jobs) series c.args.jobs.items c.pop.new.self.items c.in-Some.job c.in-Some.ensures.items long c.requires.one h;
}

pub returns : goal.returns
returns c = record {
  postings = λ workers first series h. none_listed workers first (vec_len c.args.jobs) series c.new.result c.in-None.ensures.cases.0 c.new.ensures;
}
