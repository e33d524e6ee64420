use Rattle.std.proofs.Common.{◌<◌, ◌≤◌, length, arith}
use Rattle.head_column.proofs.ReadLaws.{begun_next, begun_bad, begun_all}
use Rattle.head_column.proofs.decoding.front_samples.Goals as goal

pub returns-in_default-clause-bad : goal.returns-in_default-clause-bad
returns-in_default-clause-bad c = λ e.
    let left : length c.loop-rest.samples.items < c.args.count = omega (arith, c.len.ensures, c.loop-rest-test.true) in
    begun_bad c.args.count c.args.bytes.now c.loop-rest.samples.items c.loop-rest.before c.loop-rest.rest.now c.loop-rest.invariant left c.in_default.ensures.none

pub loop-rest-preserved : goal.loop-rest-preserved
loop-rest-preserved c =
    let left : length c.loop-rest.samples.items < c.args.count = omega (arith, c.len.ensures, c.loop-rest-test.true) in
    begun_next c.args.count c.args.bytes.now c.loop-rest.samples.items c.push.new.self.items c.loop-rest.before c.loop-rest.rest.now c.split_at.result.1.now c.in-Some.sample c.in-Some.len
    c.loop-rest.invariant left c.in-Some.ensures.found c.split_at.ensures.back c.in_ok-push.ensures.items

pub returns-clause-read : goal.returns-clause-read
returns-clause-read c =
    let all : c.args.count ≤ length c.loop-rest.samples.items = omega (arith, c.len.ensures, c.loop-rest-test.false) in
    begun_all c.args.count c.args.bytes.now c.loop-rest.samples.items c.loop-rest.before c.loop-rest.rest.now c.loop-rest.invariant all
