use Rattle.std.proofs.Common.{refl}
use Rattle.rescue_commands.specs.Rescues.{IsWell, TellsLost}
use Rattle.rescue_commands.proofs.InPasses.{blocks_less}
use Rattle.rescue_commands.proofs.blocks.carry_out_blocks.Goals as goal

pub returns-in-Ok : goal.returns-in-Ok
returns-in-Ok g c =
    let request = c.args.request in
    record {
      crash = blocks_less g.S.Store.did g.S.Store.holds request.form request.dir.now request.out.now request.options.min_valid (IsWell c.in-Ok.answer) _ (TellsLost c.in-Ok.answer) _ (λ well. refl) (λ own well told. told) c.args.store.now c.execute.new.store c.in-Ok.ensures.crash;
      done = c.in-Ok.ensures.done;
    }

pub returns-in-Err : goal.returns-in-Err
returns-in-Err g c =
    let request = c.args.request in
    record {
      crash = blocks_less g.S.Store.did g.S.Store.holds request.form request.dir.now request.out.now request.options.min_valid (IsWell c.failed.result) _ (TellsLost c.failed.result) _ (λ well. absurd (c.failed.ensures.well well)) (λ own well told. absurd (c.failed.ensures.well well)) c.args.store.now c.execute.new.store c.in-Err.ensures.crash;
      done = λ done. absurd (c.failed.ensures.done done);
    }
