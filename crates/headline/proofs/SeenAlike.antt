-- Contents that are alike, seen through some times.
use Rattle.std.proofs.Common.{ap, map}
use Rattle.head_column.specs.declared.items.Run.{Run}
use Rattle.head_column.specs.Kept.{seen_at}
use Rattle.head_core.specs.Content.{AreAlike, Content}
use Rattle.head_core.specs.Kept.{content_at}

pub seen_alike : (times : Run) (c d : Content) → AreAlike c d → AreAlike (content_at times c) (content_at times d)
seen_alike times c d alike = record {
  series = alike.series;
  slots = alike.slots;
  greatest = alike.greatest;
  texts = alike.texts;
  histories = ap (map (seen_at times)) alike.histories;
  all = alike.all;
  selected = alike.selected;
  greatest_time = alike.greatest_time;
  counts = alike.counts;
  min_valid = alike.min_valid;
}
