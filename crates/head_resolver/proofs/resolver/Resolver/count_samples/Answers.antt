use Rattle.std.proofs.Common.{rules, ◌≡◌, ◌⊎◌, ℤ, of_z, to_z, w64, subst}
use Rattle.std.proofs.lemmas.Result.{on_err_weaker}
use Rattle.wal_record.specs.declared.record.WalRecord.{WalRecord}
use Rattle.wal_record.specs.declared.record.WalRecord.TheVariants.{Samples}
use Rattle.head_resolver.specs.Counts.{count_of_class}
use Rattle.head_resolver.specs.Limits.{count_limit}
use Rattle.head_resolver.specs.Resolved.{ResolverValue}
use Rattle.head_resolver.specs.Steps.{IsExpiredOver}
use Rattle.head_resolver.proofs.resolver.Resolver.count_samples.Goals as goal

pub returns-clause-full : goal.returns-clause-full
returns-clause-full c =
    let r : WalRecord = Samples c.args.samples.now in
    let s = c.self.inside in
    let time : to_z w64 (of_z w64 s.min_valid) ≡ s.min_valid = search rules in
    on_err_weaker c.add_samples.result
    (λ over. subst (λ (v : ResolverValue). (count_of_class r v.counts ≡ count_limit) ⊎ IsExpiredOver v.min_valid r v.counts) c.self.view_is
    (subst (λ (z : ℤ). (count_of_class r s.counts ≡ count_limit) ⊎ IsExpiredOver z r s.counts) time over))
    c.add_samples.ensures.over
