use Rattle.new_files.specs.Abandoned.{Clears}
use Rattle.new_files.proofs.abandoned.clear_abandoned.Given as goal

abbrev pub invariant-loop-name : goal.invariant-loop-name
invariant-loop-name g l = Clears g.S.Store.did l.fn.store l.dir l.store
