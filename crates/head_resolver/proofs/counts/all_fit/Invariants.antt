use Rattle.std.proofs.Common.{ℕ, ◌+◌, ◌<◌, ◌≤◌, get_or}
use Rattle.head_resolver.specs.Limits.{count_limit}
use Rattle.head_resolver.proofs.counts.all_fit.Given as goal

abbrev pub invariant-loop-count : goal.invariant-loop-count
invariant-loop-count l = (k d : ℕ) → k < l.count-index → get_or l.counts k d + l.more ≤ count_limit
