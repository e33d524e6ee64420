use Rattle.std.proofs.Common.{refl}
use Rattle.answers.specs.declared.requests.LogForm.TheVariants.{PastDamage}
use Rattle.rescue_commands.specs.Rescues.{AreHours, IsWell, TellsLost}
use Rattle.rescue_commands.proofs.Heads.{hours_less}
use Rattle.rescue_commands.proofs.rescue.carry_out_rescue.Goals as goal

pub returns-in-Ok : goal.returns-in-Ok
returns-in-Ok g c =
    let request = c.args.request in
    record {
      crash = hours_less g.S.Store.did g.S.Store.holds PastDamage request.dir.now request.out.now request.options.min_valid AreHours c.args.store.now (IsWell c.in-Ok.answer) _ (TellsLost c.in-Ok.answer) _ c.execute.new.store (λ well. refl) (λ own well told. told) c.in-Ok.ensures.crash;
      done = c.in-Ok.ensures.done;
    }

pub returns-in-Err : goal.returns-in-Err
returns-in-Err g c =
    let request = c.args.request in
    record {
      crash = hours_less g.S.Store.did g.S.Store.holds PastDamage request.dir.now request.out.now request.options.min_valid AreHours c.args.store.now (IsWell c.failed.result) _ (TellsLost c.failed.result) _ c.execute.new.store (λ well. absurd (c.failed.ensures.well well)) (λ own well told. absurd (c.failed.ensures.well well)) c.in-Err.ensures.crash;
      done = λ done. absurd (c.failed.ensures.done done);
    }
