use Rattle.std.proofs.Common.{FitsSigned, rules, w64}
use Rattle.head_intervals.proofs.Ended.{both_told}
use Rattle.head_intervals.proofs.ends.joined.Goals as goal

pub returns : goal.returns
returns c = λ ts us a b.
    let first : FitsSigned w64 c.in-Some.first = search rules in
    let last : FitsSigned w64 c.in-Some.last = search rules in
    let begin : FitsSigned w64 c.in-Some-those.begin = search rules in
    let end : FitsSigned w64 c.in-Some-those.end = search rules in
    let least : FitsSigned w64 c.min.result = search rules in
    let greatest : FitsSigned w64 c.max.result = search rules in
    both_told ts us c.args.these c.args.those c.in-Some.first c.in-Some.last c.in-Some-those.begin c.in-Some-those.end c.min.result c.max.result a c.in-Some.is b c.in-Some-those.is
    first last begin end least greatest c.min.ensures.value c.max.ensures.value
