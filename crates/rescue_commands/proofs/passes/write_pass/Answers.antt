use Rattle.std.proofs.Common.{refl}
use Rattle.std.specs.Prelude.{IfOk, IsOk, ◌≡◌}
use Rattle.rescue_commands.proofs.InPasses.{pass_less, pass_writes}
use Rattle.rescue_commands.proofs.Written.{not_ok}
use Rattle.rescue_commands.proofs.passes.write_pass.Goals as goal

pub returns-in_err-write_hours : goal.returns-in_err-write_hours
returns-in_err-write_hours g c =
    let request = c.args.request in
    let replayed = c.in_ok-log.log in
    let (log, source, at) = c.in_ok-log.ensures.content in
    let failed = not_ok _ c.from_residual-in_err-write_hours.result c.from_residual-in_err-write_hours.ensures.1 in
    pass_less g.S.Store.did g.S.Store.holds request.form request.dir.now request.out.now request.options.min_valid c.args.times c.args.store.now (IsOk c.from_residual-in_err-write_hours.result) _
    (λ own. IfOk c.from_residual-in_err-write_hours.result (λ flaw. flaw ≡ own)) (λ own. Unit {0}) c.write_hours.new.store (λ ok. absurd (failed ok)) (λ own ok told. absurd (failed ok))
    (pass_writes g.S.Store.did g.S.Store.holds request.form request.dir.now request.out.now request.options.min_valid c.args.times c.requires c.rows_suffice.ensures c.args.store.now log replayed.flaw replayed.head.content _ (λ own. Unit {0}) c.write_hours.new.store
    source c.in_ok-log.ensures.unhurt at (λ _. tt) c.in_err-write_hours.ensures.crash)

pub returns : goal.returns
returns g c =
    let request = c.args.request in
    let replayed = c.in_ok-log.log in
    let (log, source, at) = c.in_ok-log.ensures.content in
    pass_writes g.S.Store.did g.S.Store.holds request.form request.dir.now request.out.now request.options.min_valid c.args.times c.requires c.rows_suffice.ensures c.args.store.now log replayed.flaw replayed.head.content _ _ c.write_hours.new.store
    source c.in_ok-log.ensures.unhurt at (λ _. refl) c.in_ok-write_hours.ensures.crash
