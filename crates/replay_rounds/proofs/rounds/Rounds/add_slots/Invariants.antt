use Rattle.std.proofs.Common.{◌≡◌, ◌<◌, ◌≤◌, ◌-◌, ℕ, List, length, replicate}
use Rattle.std.specs.Prelude.{All}
use Rattle.std.specs.List.{enumerate_from}
use Rattle.head_column.specs.declared.items.Item.{Item}
use Rattle.replay_rounds.specs.Dealt.{HasDealt}
use Rattle.replay_rounds.proofs.rounds.Rounds.add_slots.Given as goal

abbrev pub decreases-loop-alloc : goal.decreases-loop-alloc
decreases-loop-alloc g l = l.count - length l.self.deal.builders

abbrev pub invariant-loop-alloc : goal.invariant-loop-alloc
invariant-loop-alloc g l =
    (length l.self.deal.builders ≤ l.count)
    × (length l.fn.self.deal.builders ≤ length l.self.deal.builders)
    × (l.self.deal.workers ≡ l.fn.self.deal.workers)
    × ((items : List (ℕ × Item)) → All (λ k. k.0 < length l.fn.self.deal.builders) items
    → HasDealt g.B.Builder.value g.B.Builder.after g.B.Builder.outcome (enumerate_from 0 (replicate (length l.fn.self.deal.builders) (g.B.Builder.value (g.B.SeriesBuilder.blank l.times)))) items l.fn.self
    → HasDealt g.B.Builder.value g.B.Builder.after g.B.Builder.outcome (enumerate_from 0 (replicate (length l.self.deal.builders) (g.B.Builder.value (g.B.SeriesBuilder.blank l.times)))) items l.self)
