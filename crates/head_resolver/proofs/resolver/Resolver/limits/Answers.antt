use Rattle.std.proofs.Common.{rules, ◌≡◌, ap, subst}
use Rattle.head_resolver.specs.Limits.{AreCountsWithin}
use Rattle.head_resolver.specs.Resolved.{ResolverValue}
use Rattle.head_resolver.proofs.resolver.Resolver.limits.Goals as goal

pub returns-clause-counts : goal.returns-clause-counts
returns-clause-counts c =
    let counts : c.self.inside.counts ≡ c.args.self.now.counts = ap (λ (v : ResolverValue). v.counts) c.self.view_is in
    let ranges = c.self.ranges in
    subst AreCountsWithin counts (record {
      series_records = search (rules, ranges);
      sample_records = search (rules, ranges);
      stone_records = search (rules, ranges);
      skipped_records = search (rules, ranges);
      series_entries = search (rules, ranges);
      accepted = search (rules, ranges);
      stale = search (rules, ranges);
      unknown = search (rules, ranges);
      hiding = search (rules, ranges);
      empty_stones = search (rules, ranges);
      unknown_stones = search (rules, ranges);
      expired_samples = search (rules, ranges);
      expired_stones = search (rules, ranges);
    })
