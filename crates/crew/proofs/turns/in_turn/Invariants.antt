use Rattle.std.proofs.Common.{◌≡◌, ◌++◌, length, map}
use Rattle.std.specs.Iterator.Adapters.{zip_first, zip_second}
use Rattle.std.specs.Vec.Iter.{into_iter_items}
use Rattle.crew.proofs.turns.in_turn.Given as goal

-- what the jobs hold, and what is left, is all
abbrev pub invariant-loop-first : goal.invariant-loop-first
invariant-loop-first g l =
    (map (λ job. job.first) l.jobs.items ++ into_iter_items (zip_first l.first-iterator) ≡ l.fn.first.items)
    × (map (λ job. job.second) l.jobs.items ++ into_iter_items (zip_second l.first-iterator) ≡ l.fn.second.items)
    × (length (into_iter_items (zip_first l.first-iterator)) ≡ length (into_iter_items (zip_second l.first-iterator)))
