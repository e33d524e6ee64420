use Rattle.std.proofs.Common.{◌≡◌, ◌-◌}
use Rattle.index_text.specs.Gives.{rest_of}
use Rattle.index_text.specs.Fields.{times}
use Rattle.index_text.proofs.skips.skip_all.Given as goal

abbrev pub invariant-loop : goal.invariant-loop
invariant-loop g l = rest_of (times (g.F.Skipped.field l.form) (l.count - l.counter) l.rest) ≡ rest_of (times (g.F.Skipped.field l.form) l.count l.bytes)
