use Rattle.std.proofs.Common.{◌≤◌, ap, length, subst, sym, ◌∙◌}
use Rattle.head_postings.specs.Slots.{AreBelow}
use Rattle.head_resolver.specs.Limits.{AreCountsWithin}
use Rattle.head_resolver.specs.Resolved.{ResolverValue}
use Rattle.head_series.specs.Table.{Table}
use Rattle.head_core.proofs.Assembling.{posted_below}
use Rattle.head_core.proofs.Limits.{within_limits}
use Rattle.head_core.proofs.head.Head.assemble_with.Goals as goal

pub invariant_of-result : goal.invariant_of-result
invariant_of-result c =
    let same = ap (λ (v : ResolverValue). v.table.series) (c.limits.ensures.same ∙ c.set_outcomes.ensures) in
    record {
      one_each = c.requires.columns ∙ sym (ap length same);
      below = subst (λ n. AreBelow n c.args.postings.all) (sym (ap length same)) (posted_below c.args.resolver.table.series c.args.postings c.requires.postings);
    }

pub returns-clause-limits : goal.returns-clause-limits
returns-clause-limits c = λ t content table counts h.
    within_limits t content h (subst (λ (x : Table). length x.series ≤ 4294967295) (sym table) c.limits.ensures.few) (subst (λ (x : Table). length x.texts ≤ 4294967295) (sym table) c.limits.ensures.few_texts)
    (subst AreCountsWithin (sym counts) c.limits.ensures.counts)
