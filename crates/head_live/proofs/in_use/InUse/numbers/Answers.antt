use Rattle.std.proofs.Common.{sym, subst}
use Rattle.head_live.specs.InUse.{AreOnce}
use Rattle.head_live.proofs.InUseLemmas.{once_of}
use Rattle.head_live.proofs.in_use.InUse.numbers.Goals as goal

pub returns-clause-once : goal.returns-clause-once
returns-clause-once c = subst AreOnce (sym c.deref.ensures.value) (once_of c.self.inside.indices.items c.self.inside.numbers.items c.self.invariant)
