use Rattle.std.proofs.Common.{◌≡◌, ◌++◌, ap, ◌∙◌}
use Rattle.head_resolver.specs.Resolved.{ResolverValue}
use Rattle.head_resolver.specs.Steps.{plus}
use Rattle.head_resolver.proofs.BindingAhead.{ahead_like}
use Rattle.head_resolver.proofs.SpreadAhead.{ahead_items, ahead_taken, ahead_within}
use Rattle.head_resolver.proofs.resolver.Resolver.add_counts_ahead.Goals as goal

pub returns-then-self-clause-items : goal.returns-then-self-clause-items
returns-then-self-clause-items c = λ t front rs back cs items h s. ahead_items t front rs back cs c.args.self.now h items c.args.counts.now s

pub returns-in-Ok-clause-taken : goal.returns-in-Ok-clause-taken
returns-in-Ok-clause-taken c = λ t front rs back cs items h s.
    let more = c.limits.ensures.same ∙ c.in-Ok.ensures.more in
    ahead_like t (front ++ rs) back cs (record c.args.self.now { counts = plus c.args.self.now.counts c.args.counts.now }) c.limits.new.self
    (ap (λ (v : ResolverValue). v.table) more) (ap (λ (v : ResolverValue). v.counts) more) (ap (λ (v : ResolverValue). v.min_valid) more)
    (ahead_taken t front rs back cs c.args.self.now h items c.args.counts.now s)

pub returns-in-Ok-clause-items : goal.returns-in-Ok-clause-items
returns-in-Ok-clause-items c = λ t front rs back cs items h s. ahead_items t front rs back cs c.args.self.now h items c.args.counts.now s

pub returns-in-Err-clause-items : goal.returns-in-Err-clause-items
returns-in-Err-clause-items c = λ t front rs back cs items h s. ahead_items t front rs back cs c.args.self.now h items c.args.counts.now s

pub returns-in-Err-clause-full : goal.returns-in-Err-clause-full
returns-in-Err-clause-full c = λ e t front rs back cs items h s w. c.in-Err.ensures.full (ahead_within t front rs back cs c.args.self.now h items c.args.counts.now s w)
