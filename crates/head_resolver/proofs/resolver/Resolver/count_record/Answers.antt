use Rattle.std.proofs.Common.{inr, subst}
use Rattle.std.proofs.lemmas.Result.{on_err_weaker}
use Rattle.head_resolver.specs.Resolved.{ResolverValue}
use Rattle.head_resolver.specs.Steps.{IsExpiredOver}
use Rattle.head_resolver.proofs.CountRoom.{over_alone}
use Rattle.head_resolver.proofs.resolver.Resolver.count_record.Goals as goal

pub returns-clause-full : goal.returns-clause-full
returns-clause-full c =
    let r = c.args.log_record.now in
    on_err_weaker c.count_expired.result
    (λ over. inr (over_alone c.args.self.now.min_valid r r c.args.self.now.counts (subst (λ (x : ResolverValue). IsExpiredOver x.min_valid r x.counts) c.in_ok-count_class.ensures.more over)))
    c.count_expired.ensures.full
