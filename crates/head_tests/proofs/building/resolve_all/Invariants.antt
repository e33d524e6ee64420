use Rattle.std.proofs.Common.{◌≡◌, false}
use Rattle.head_tests.proofs.building.resolve_all.Given as goal

abbrev pub invariant-loop-log_record : goal.invariant-loop-log_record
invariant-loop-log_record l = l.resolver.failed ≡ false
