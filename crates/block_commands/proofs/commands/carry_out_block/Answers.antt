use Rattle.std.proofs.Common.{refl}
use Rattle.store.specs.Views.{view_of}
use Rattle.block_commands.proofs.Less.{carries_less, refused_prints}
use Rattle.block_commands.proofs.commands.carry_out_block.Goals as goal

pub returns-in-Ok-clause-crash : goal.returns-in-Ok-clause-crash
returns-in-Ok-clause-crash g c = carries_less g.S.Store.did g.S.Store.holds _ _ _ _ (λ _. refl) c.args.request c.in-Ok.ensures.crash

pub returns-in-Err-clause-crash : goal.returns-in-Err-clause-crash
returns-in-Err-clause-crash g c = carries_less g.S.Store.did g.S.Store.holds _ _ _ _ (λ done. absurd (c.failed.ensures.fails done)) c.args.request c.in-Err.ensures.crash

pub returns-in-Err-clause-printed : goal.returns-in-Err-clause-printed
returns-in-Err-clause-printed g c = refused_prints (view_of (g.S.Store.holds c.args.store.now)) c.args.request c.failed.result c.in-Err.fault c.in-Err.ensures.printed c.failed.ensures.fails c.failed.ensures.damaged
