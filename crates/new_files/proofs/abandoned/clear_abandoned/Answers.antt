use Rattle.new_files.proofs.Clearing.{cleared_both, cleared_none}
use Rattle.new_files.proofs.abandoned.clear_abandoned.Goals as goal

pub loop-name-init : goal.loop-name-init
loop-name-init g c = cleared_none g.S.Store.did g.met.S.Store.did_nothing _ _

pub loop-name-preserved : goal.loop-name-preserved
loop-name-preserved g c = cleared_both g.S.Store.did g.met.S.Store.did_both _ _ _ _ c.loop-name.invariant c.clear.ensures

pub returns : goal.returns
returns g c = c.loop-name.invariant
