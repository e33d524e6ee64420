use Rattle.std.proofs.Common.{◌≡◌, ℕ, ◌<◌, [], length, get_or}
use Rattle.head_live.specs.Keys.{labels_of_keys}
use Rattle.head_live.specs.Known.{Knows}
use Rattle.head_live.specs.Judged.{IsStart, standing_at}
use Rattle.head_live.specs.Sets.{sets_in}
use Rattle.head_live.proofs.judging.fill_standings.Given as goal

abbrev pub invariant-loop-number : goal.invariant-loop-number
invariant-loop-number l = record {
  many : length l.standings.items ≡ l.number-index;
  each : (i : ℕ) → i < l.number-index → IsStart l.head.content (get_or (sets_in (labels_of_keys l.sets) l.numbers) i []) (standing_at l.standings.items i);
  known : Knows l.known l.head.content.table.series;
}
