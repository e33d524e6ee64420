-- The content of a log, of which only the samples of some times are kept.
use Rattle.std.specs.Prelude.{ℤ, List, None, Option, map}
use Rattle.std.specs.List.{fold}
use Rattle.head_column.specs.declared.items.Run.{Run}
use Rattle.head_column.specs.Kept.{seen_at}
use Rattle.head_core.specs.Content.{Content}
use Rattle.head_core.specs.Steps.{later_option}

-- The content as it is seen through these times: of each series the accepted samples at these times, and all else.
abbrev pub content_at : Run → Content → Content
content_at times c = record c { histories = map (seen_at times) c.histories }

-- the latest of these times, if there are any
abbrev pub latest_time : List (Option ℤ) → Option ℤ
latest_time times = fold later_option None times
