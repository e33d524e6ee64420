use Rattle.std.proofs.Common.{◌≡◌, ◌++◌, [], ℕ, List, length, take}
use Rattle.head_column.specs.declared.items.Item.{Item}
use Rattle.replay_rounds.specs.Dealt.{HasDealt}
use Rattle.replay_rounds.proofs.rounds.Rounds.apply_items.Given as goal

abbrev pub invariant-loop-taken : goal.invariant-loop-taken
invariant-loop-taken g l =
    (l.self.deal.workers ≡ l.fn.self.deal.workers)
    × (length l.self.deal.builders ≡ length l.fn.self.deal.builders)
    × ((slots : List (ℕ × g.B.Builder.Value)) (before : List (ℕ × Item)) → HasDealt g.B.Builder.value g.B.Builder.after g.B.Builder.outcome slots before l.fn.self
    → HasDealt g.B.Builder.value g.B.Builder.after g.B.Builder.outcome slots (before ++ take l.taken-index l.items) l.self)
    × (l.self.deal.jobs ≡ [])
