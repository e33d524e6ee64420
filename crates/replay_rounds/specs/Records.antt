-- The records of a window of the log, page by page.
use Rattle.std.specs.Prelude.{List}
use Rattle.std.specs.List.{flat_map}
use Rattle.wal_log.specs.declared.reading.Placed.{Placed}

-- the records of these pages, in order
abbrev pub records_of : List (List Placed) → List Placed
records_of pages = flat_map (λ records. records) pages
