-- The total of a run that can be closed.
use Rattle.std.proofs.Common.{◌≡◌, ℕ, ◌+◌, ◌^◌, ◌<◌, ◌≤◌, List, MatchOption, Option, Some, None, ap, arith}
use Rattle.head_live.specs.Closing.{Closes, shares}
use Rattle.head_live.specs.Moments.{LiveState, Moment}
use Rattle.head_live.specs.Told.{AppenderState}

-- where a run can be closed, the total is known, and is the growth of the count
pub closable_total : (opening : Moment) (live : LiveState) (accepted growth book : ℕ) (total : Option ℕ) (appenders : List AppenderState) → Closes opening live accepted appenders
    → MatchOption total (2 ^ 64 ≤ book) (λ t. t ≡ book) → shares appenders ≡ book → live.now.content.counts.accepted ≡ opening.content.counts.accepted + growth → growth < 2 ^ 64 → total ≡ Some growth
closable_total opening live accepted growth book None appenders closes past sum count few = absurd (omega (arith, closes.sum, closes.growth, past, sum, count, few))
closable_total opening live accepted growth book (Some total) appenders closes same sum count few = ap Some (omega (arith, closes.sum, closes.growth, same, sum, count))
