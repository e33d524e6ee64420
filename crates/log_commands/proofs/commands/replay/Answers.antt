use Rattle.std.proofs.Common.{subst, sym}
use Rattle.answers.specs.Faults.{TellsNoDamage}
use Rattle.store.specs.Views.{view_of}
use Rattle.log_commands.proofs.Answered.{counts_told}
use Rattle.log_directory.proofs.Told.{told_err}
use Rattle.log_commands.proofs.commands.replay.Goals as goal

pub returns-in_err-tallied : goal.returns-in_err-tallied
returns-in_err-tallied g c = told_err _ _ c.from_residual.result c.from_residual.ensures.1 (λ fault is. subst TellsNoDamage (sym is) c.in_err-tallied.ensures.undamaged)

pub returns : goal.returns
returns g c =
    counts_told c.args.form (view_of (g.S.Store.holds c.args.store.now)) c.args.dir.now c.in_ok-tallied.tallied.flaw TellsNoDamage c.counted.result c.args.options.now.min_valid c.in_ok-tallied.tallied.counts c.in_ok-tallied.tallied.series
    c.in_ok-tallied.ensures.counts c.counted.ensures
