use Rattle.std.proofs.Common.{◌≡◌, length, take}
use Rattle.wal_record.specs.Entries.{entries_of}
use Rattle.head_resolver.proofs.counts.count_entries.Given as goal

abbrev pub invariant-loop-log_record : goal.invariant-loop-log_record
invariant-loop-log_record l = l.many ≡ length (entries_of (take l.log_record-index l.records))
