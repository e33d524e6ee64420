use Rattle.std.proofs.Common.{arith, rules}
use Rattle.std.proofs.lemmas.Bool.Decides.{nat_tests}
use Rattle.head_column.proofs.Windows.{cut_more}
use Rattle.head_column.proofs.cutting.cut_all.Goals as goal

pub loop-rest-preserved : goal.loop-rest-preserved
loop-rest-preserved c = cut_more c.args.form c.loop-rest.chunks.items c.push.new.self.items c.loop-rest.rest.now c.split_at.result.0.now c.split_at.result.1.now c.args.samples.now c.in_ok-cut_by.field-0 c.min.result c.loop-rest.invariant (first_of (search rules, grind (arith, nat_tests))) c.min.ensures c.split_at.ensures.front c.split_at.ensures.back c.in_ok-cut_by.ensures c.in_ok-push.ensures.items
