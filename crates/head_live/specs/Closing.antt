-- What it means that a run of a shared head is closed.
use Rattle.std.specs.Prelude.{◌≡◌, ℕ, ◌+◌, List}
use Rattle.std.specs.List.{sum_by}
use Rattle.head_live.specs.Agreeing.{Agrees, all_told}
use Rattle.head_live.specs.Moments.{Leads, LiveState, Moment}
use Rattle.head_live.specs.Told.{AppenderState}

-- the sum of the shares of appenders
abbrev pub shares : List AppenderState → ℕ
shares appenders = sum_by (λ a. a.share) appenders

-- The value of `Held`: the moment at which the run began, the current moment, and the number of appenders.
pub record HeldState : Type 0 where
  pub opening : Moment
  pub now : Moment
  pub appenders : ℕ

-- the live head under the lock
abbrev pub held_live : HeldState → LiveState
held_live held = record { opening = held.opening; now = held.now }

-- A run is closed with this live head and this number of accepted rows: the log leads from the opening to the live head, the number is
-- the sum of all shares and the growth of the count of accepted samples, and what was told agrees with the head.
pub record Closes (opening : Moment) (live : LiveState) (accepted : ℕ) (appenders : List AppenderState) : Type 0 where
  pub leads : Leads opening live.now
  pub sum : accepted ≡ shares appenders
  pub growth : live.now.content.counts.accepted ≡ opening.content.counts.accepted + accepted
  pub agrees : Agrees opening.content live.now.content (all_told appenders)
