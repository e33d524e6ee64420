use Rattle.std.proofs.Common.{◌≡◌, take}
use Rattle.inspect_files.specs.Sums.{records_in}
use Rattle.inspect_files.proofs.sums.skipped_records.Given as goal

-- the records of the types so far
abbrev pub invariant-loop-count : goal.invariant-loop-count
invariant-loop-count l = l.records ≡ records_in (take l.count-index l.skipped)
