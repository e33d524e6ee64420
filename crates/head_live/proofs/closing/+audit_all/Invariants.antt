use Rattle.std.proofs.Common.{length}
use Rattle.head_live.proofs.closing.+audit_all.Given as goal

abbrev pub decreases-audit_all : goal.decreases-audit_all
decreases-audit_all g l = length l.appenders.items
