use Rattle.std.proofs.Common.{ap, ◌∙◌}
use Rattle.std.specs.Prelude.{IfOk, IsOk}
use Rattle.store.specs.Views.{view_of}
use Rattle.answers.specs.declared.requests.LogForm.TheVariants.{PastDamage}
use Rattle.answers.specs.Answers.{fault_of}
use Rattle.rescue_commands.specs.Rescues.{AreHours, TellsLost}
use Rattle.rescue_commands.proofs.Heads.{hours_less, writes_hours}
use Rattle.rescue_commands.proofs.LostParts.{rescued_unhurt}
use Rattle.rescue_commands.proofs.Written.{not_ok}
use Rattle.rescue_commands.proofs.rescue.execute.Goals as goal

pub returns-in_err-text-clause-crash : goal.returns-in_err-text-clause-crash
returns-in_err-text-clause-crash g c =
    let request = c.args.request in
    let found = c.in_ok-log.log in
    let (log, at, replayed) = c.in_ok-log.ensures.content in
    let unhurt = rescued_unhurt (view_of (g.S.Store.holds c.args.store.now)) request.dir.now log found.flaw at in
    let failed = not_ok _ c.from_residual-in_err-text.result c.from_residual-in_err-text.ensures.1 in
    hours_less g.S.Store.did g.S.Store.holds PastDamage request.dir.now request.out.now request.options.min_valid AreHours c.args.store.now (IsOk c.from_residual-in_err-text.result) _
    (λ own. IfOk c.from_residual-in_err-text.result (λ answer. TellsLost answer own)) (λ own. Unit {0}) c.write_rescued.new.store
    (λ ok. absurd (failed ok)) (λ own ok told. absurd (failed ok))
    (writes_hours g.S.Store.did g.S.Store.holds PastDamage request.dir.now request.out.now request.options.min_valid c.args.store.now log found.flaw found.head.content _ (λ own. Unit {0}) c.write_rescued.new.store
    at unhurt replayed (λ _. tt) c.in_err-text.ensures.crash)

pub returns : goal.returns
returns g c =
    let request = c.args.request in
    let found = c.in_ok-log.log in
    let (log, at, replayed) = c.in_ok-log.ensures.content in
    let unhurt = rescued_unhurt (view_of (g.S.Store.holds c.args.store.now)) request.dir.now log found.flaw at in
    record {
      crash =
          writes_hours g.S.Store.did g.S.Store.holds PastDamage request.dir.now request.out.now request.options.min_valid c.args.store.now log found.flaw found.head.content _ (λ own. TellsLost c.up_to.result own) c.write_rescued.new.store
          at unhurt replayed (λ _. c.up_to.ensures.fault) c.in_ok-text.ensures.crash;
      done = λ done. c.up_to.ensures.fault ∙ ap fault_of (c.up_to.ensures.done done);
    }
