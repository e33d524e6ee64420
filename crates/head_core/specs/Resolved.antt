-- The content of the head that a resolver makes with columns that are built elsewhere.
use Rattle.std.specs.Prelude.{◌≡◌, ℤ, List, map}
use Rattle.std.specs.List.{flat_map}
use Rattle.head_column.specs.Times.{greatest}
use Rattle.head_column.specs.Histories.{History}
use Rattle.head_postings.specs.Postings.{Lists}
use Rattle.head_resolver.specs.declared.counts.Counts.{Counts}
use Rattle.head_resolver.specs.Resolved.{ResolverValue, with_outcomes}
use Rattle.head_core.specs.Content.{Content}

-- the four counts of the outcomes are the same
pub record HaveOutcomes (c d : Counts) : Type 0 where
  pub accepted : c.accepted ≡ d.accepted
  pub stale : c.stale ≡ d.stale
  pub hiding : c.hiding ≡ d.hiding
  pub empty_stones : c.empty_stones ≡ d.empty_stones

-- the times of the accepted samples of these histories
abbrev pub times_in : List History → List ℤ
times_in histories = flat_map (λ h. map (λ s. s.time) h.samples) histories

-- The content of a head that is made of a resolver, the histories of its series, the counts of their outcomes, and postings.
abbrev pub assembled : ResolverValue → List History → Counts → Lists → Content
assembled v histories counts postings = record {
  table = v.table;
  histories = histories;
  postings = postings;
  max_time = greatest (times_in histories);
  counts = with_outcomes v.counts counts;
  min_valid = v.min_valid;
}
