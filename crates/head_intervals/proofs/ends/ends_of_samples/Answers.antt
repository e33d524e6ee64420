use Rattle.std.proofs.Common.{FitsSigned, rules, w64}
use Rattle.head_intervals.proofs.Ended.{ends_told}
use Rattle.head_intervals.proofs.ends.ends_of_samples.Goals as goal

pub returns : goal.returns
returns c =
    let first : FitsSigned w64 c.in_ok-first.first.now.time = search rules in
    let last : FitsSigned w64 c.in_ok-last.last.now.time = search rules in
    let front = c.in_ok-first.ensures.item in
    ends_told c.args.samples.now c.in_ok-first.first.now c.in_ok-last.last.now c.requires front.3.0 front.1 c.in_ok-last.ensures.item.1 first last
