use Rattle.std.proofs.Common.{◌≡◌, ℕ, ◌+◌, ◌<◌, ◌≤◌, length, get_or}
use Rattle.head_intervals.proofs.counts.add_counts.Given as goal

abbrev pub invariant-loop-place : goal.invariant-loop-place
invariant-loop-place l =
    (length l.counts.items ≡ length l.fn.counts.items)
    × ((k : ℕ) → k < l.place → get_or l.counts.items k 0 ≡ get_or l.fn.counts.items k 0 + get_or l.more k 0)
    × ((k : ℕ) → l.place ≤ k → get_or l.counts.items k 0 ≡ get_or l.fn.counts.items k 0)
