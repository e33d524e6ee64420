use Rattle.std.proofs.Common.{◌<◌, All, subst, arith}
use Rattle.std.proofs.lemmas.List.{take_all}
use Rattle.head_live.specs.declared.rows.AgainRow.{AgainRow}
use Rattle.head_live.proofs.AgainLemmas.{all_more}
use Rattle.head_live.proofs.prepared.check_places.Goals as goal

pub loop-row-preserved : goal.loop-row-preserved
loop-row-preserved c = all_more (λ (r : AgainRow). r.place < c.args.count) c.args.rows.now c.loop-row.row _ c.loop-row-test.true c.loop-row.invariant c.if-again-count.false

pub returns-clause-within : goal.returns-clause-within
returns-clause-within c = λ _. subst (All (λ (r : AgainRow). r.place < c.args.count)) (take_all c.loop-row.row c.args.rows.now (omega (arith, c.loop-row-test.false))) c.loop-row.invariant
