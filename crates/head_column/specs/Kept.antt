-- Series of which only the samples of some times are kept.
use Rattle.std.specs.Prelude.{ℤ, List, [], ◌∷◌, ◌++◌, Option, Some, filter, if◌then◌else◌}
use Rattle.xor_chunk.specs.declared.sample.Sample.{Sample}
use Rattle.head_column.specs.declared.items.Run.{Run}
use Rattle.head_column.specs.declared.items.Item.{Item}
use Rattle.head_column.specs.declared.items.Item.TheVariants as item
use Rattle.head_column.specs.declared.items.Outcome.{Outcome}
use Rattle.head_column.specs.Histories.{History, history_after, latest}
use Rattle.head_column.specs.Runs.{spans}
use Rattle.head_column.specs.Tallies.{latest_outcome}
use Rattle.head_column.specs.Times.{reaches}

-- the samples at these times
abbrev pub samples_at : Run → List Sample → List Sample
samples_at times samples = filter (λ s. spans times s.time) samples

-- the history as it is seen through these times: the accepted samples at these times, and all that is hidden
abbrev pub seen_at : Run → History → History
seen_at times h = record { samples = samples_at times h.samples; hidden = h.hidden }

-- What contracts see of a column that keeps the samples of some times alone: the times, what it keeps, and the greatest time of all accepted
-- samples, kept or not.
pub record KeptValue : Type 0 where
  pub times : Run
  pub history : History
  pub latest : Option ℤ

-- what is kept of this history
abbrev pub kept_of : Run → History → KeptValue
kept_of times h = record { times = times; history = seen_at times h; latest = latest h.samples }

-- the history with this accepted sample, if it is at these times
abbrev pub with_sample : Run → History → Sample → History
with_sample times h s = if spans times s.time then record { samples = h.samples ++ s ∷ []; hidden = h.hidden } else h

-- what is kept after one more item; that it is what is kept of the history is the law `kept_follow_histories`
abbrev pub kept_after : KeptValue → Item → KeptValue
kept_after k (item.Sample s) = if reaches k.latest s.time then k else record { times = k.times; history = with_sample k.times k.history s; latest = Some s.time }
kept_after k (item.Stone r) = record { times = k.times; history = history_after k.history (item.Stone r); latest = k.latest }

-- the outcome of an item after what is kept
abbrev pub kept_outcome : KeptValue → Item → Outcome
kept_outcome k i = latest_outcome k.latest i
