-- The room of the counts for records.
use Rattle.std.specs.Prelude.{◌+◌, ◌≤◌, List, length}
use Rattle.wal_record.specs.declared.record.WalRecord.{WalRecord}
use Rattle.wal_record.specs.Entries.{Entry}
use Rattle.head_resolver.specs.declared.counts.Counts.{Counts}
use Rattle.head_resolver.specs.Counts.{Fate, count_of_class}
use Rattle.head_resolver.specs.Limits.{count_limit}
use Rattle.head_resolver.specs.Steps.{count_of_fate}

-- No count passes its limit, whatever becomes of the entries.
abbrev pub HaveCounts : Counts → List Entry → Type 0
HaveCounts counts es = (f : Fate) → count_of_fate f counts + length es ≤ count_limit

-- No count of records passes its limit.
abbrev pub HaveClasses : Counts → List WalRecord → Type 0
HaveClasses counts rs = (r : WalRecord) → count_of_class r counts + length rs ≤ count_limit

-- No count of expired entries passes its limit, whatever number of the entries is expired.
pub record HaveExpired (counts : Counts) (es : List Entry) : Type 0 where
  pub samples : counts.expired_samples + length es ≤ count_limit
  pub stones : counts.expired_stones + length es ≤ count_limit
