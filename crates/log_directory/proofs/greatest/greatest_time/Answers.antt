use Rattle.std.proofs.Common.{rules, not, List}
use Rattle.std.proofs.lemmas.Iterator.{YieldsList-from_slice, YieldsList-from_map}
use Rattle.std.proofs.lemmas.Iterator.Consumers.{YieldsList-at, YieldsList-from_filter, reduce_from_yields_List}
use Rattle.log_directory.specs.declared.meta.BlockTimes.{BlockTimes}
use Rattle.log_directory.specs.Greatest.{times_in_order}
use Rattle.log_directory.proofs.Reduced.{greatest_reduced, later}
use Rattle.log_directory.proofs.greatest.greatest_time.Goals as goal
use borrow.Author.Tests.{tests}

pub returns : goal.returns
returns c =
    greatest_reduced (times_in_order c.args.blocks.now) c.max.result
    (reduce_from_yields_List later c.map.result c.max.result c.max.ensures.ran
    (YieldsList-from_map _ (λ (b : BlockTimes). b.max_time)
    (YieldsList-at c.map.ensures.source
    (YieldsList-from_filter _ (λ (b : BlockTimes). not b.out_of_order) (YieldsList-at c.filter.ensures.source (YieldsList-from_slice c.args.blocks.now cc)) c.filter.ensures.closure (λ x r q k. search (rules, tests))))
    c.map.ensures.closure (λ x r q k. search rules)))
