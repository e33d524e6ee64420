-- The value of a stored series.
use Rattle.index_text.specs.declared.stored.StoredSeries.{StoredSeries}
use Rattle.index_text.specs.Fields.{Stored}

-- a stored series
abbrev pub stored : StoredSeries → Stored
stored s = record { labels = s.labels; chunks = s.chunks }
