use Rattle.std.proofs.Common.{rules}
use Rattle.head_resolver.proofs.Resolving.{resolvable}
use Rattle.head_resolver.proofs.resolver.Resolver.resolve_in.Goals as goal

pub returns-clause-next : goal.returns-clause-next
returns-clause-next c = record {
  taken = search rules;
  items = search rules;
  full = search rules;
  limits = λ ok rs h. resolvable rs c.limits.new.self h c.limits.ensures.few c.limits.ensures.few_texts c.limits.ensures.counts;
  time = search rules;
  failed = search rules;
  sound = search rules;
  fails = search rules;
  counted = search rules;
}
