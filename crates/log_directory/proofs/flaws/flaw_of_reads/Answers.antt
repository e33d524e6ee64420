use Rattle.std.proofs.Common.{sym, ◌∙◌}
use Rattle.log_directory.proofs.Counted.{lost_none, lost_some}
use Rattle.log_directory.proofs.flaws.flaw_of_reads.Goals as goal

pub returns-then-count-eq0 : goal.returns-then-count-eq0
returns-then-count-eq0 c = lost_none _ (sym c.in_ok-count.ensures ∙ c.if-count-eq0.true)

pub returns : goal.returns
returns c = lost_some _ _ c.in_ok-count.ensures c.if-count-eq0.false
