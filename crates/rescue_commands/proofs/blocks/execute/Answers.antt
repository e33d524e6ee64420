use Rattle.std.proofs.Common.{ap, subst, sym, ◌∙◌}
use Rattle.std.specs.Prelude.{IfOk, IsOk}
use Rattle.answers.specs.Answers.{fault_of}
use Rattle.rescue_commands.specs.Rescues.{AreBounds, TellsLost, least_time}
use Rattle.rescue_commands.proofs.InPasses.{passes_less}
use Rattle.rescue_commands.proofs.Written.{not_ok}
use Rattle.rescue_commands.proofs.blocks.execute.Goals as goal

pub returns-in_err-flaw-clause-crash : goal.returns-in_err-flaw-clause-crash
returns-in_err-flaw-clause-crash g c =
    let request = c.args.request in
    let failed = not_ok _ c.from_residual-in_err-flaw.result c.from_residual-in_err-flaw.ensures.1 in (
      c.deref.result.now,
      subst (AreBounds least_time) (sym c.deref.ensures.value) c.in_ok-bounds.ensures,
      passes_less g.S.Store.did g.S.Store.holds request.form request.dir.now request.out.now request.options.min_valid (IsOk c.from_residual-in_err-flaw.result) _ (λ own. IfOk c.from_residual-in_err-flaw.result (λ answer. TellsLost answer own)) _
          (λ ok. absurd (failed ok)) (λ own ok told. absurd (failed ok)) c.args.store.now least_time c.deref.result.now c.write_passes.new.store c.in_err-flaw.ensures,
    )

pub returns : goal.returns
returns g c =
    let request = c.args.request in
    record {
      crash = (
        c.deref.result.now,
        subst (AreBounds least_time) (sym c.deref.ensures.value) c.in_ok-bounds.ensures,
        passes_less g.S.Store.did g.S.Store.holds request.form request.dir.now request.out.now request.options.min_valid _ _ (λ own. TellsLost c.up_to.result own) _
            (λ ok. ok) (λ own ok told. c.up_to.ensures.fault ∙ ap fault_of told) c.args.store.now least_time c.deref.result.now c.write_passes.new.store c.in_ok-flaw.ensures,
      );
      done = λ done. c.up_to.ensures.fault ∙ ap fault_of (c.up_to.ensures.done done);
    }
