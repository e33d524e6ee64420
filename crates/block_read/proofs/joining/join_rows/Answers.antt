use Rattle.std.proofs.Common.{rules, ◌≡◌, ◌++◌, length, take, drop, arith}
use mathlib.Core.List.{reverse}
use Rattle.std.proofs.lemmas.Grind.{common_steps}
use Rattle.block_read.specs.declared.rows.BlockRow.{BlockRow}
use Rattle.block_read.proofs.Popped.{shared_whole}
use Rattle.block_read.proofs.joining.join_rows.Goals as goal

pub returns-clause-samples : goal.returns-clause-samples
returns-clause-samples c =
    let none : length c.loop-row.index.items ≡ 0 = search rules in
    let rows : take c.loop-row.rows.len (c.reverse.new.self ++ drop (length c.reverse.new.self) c.loop-row.rows.items) ≡ reverse c.loop-row.rows.items = grind (arith, common_steps) in
    shared_whole (λ (r : BlockRow). r.samples) c.loop-row.samples.items c.args.samples.items c.loop-row.rows.items (take c.loop-row.rows.len (c.reverse.new.self ++ drop (length c.reverse.new.self) c.loop-row.rows.items))
    (omega (arith, none, c.loop-row.invariant.as_many)) rows c.loop-row.invariant.samples

pub returns-clause-hidden : goal.returns-clause-hidden
returns-clause-hidden c =
    let none : length c.loop-row.index.items ≡ 0 = search rules in
    let rows : take c.loop-row.rows.len (c.reverse.new.self ++ drop (length c.reverse.new.self) c.loop-row.rows.items) ≡ reverse c.loop-row.rows.items = grind (arith, common_steps) in
    shared_whole (λ (r : BlockRow). r.hidden) c.loop-row.hidden.items c.args.hidden.items c.loop-row.rows.items (take c.loop-row.rows.len (c.reverse.new.self ++ drop (length c.reverse.new.self) c.loop-row.rows.items))
    (omega (arith, none, c.loop-row.invariant.as_many_hidden)) rows c.loop-row.invariant.hidden
