use Rattle.std.proofs.Common.{subst, sym}
use Rattle.answers.specs.Faults.{TellsNoDamage}
use Rattle.store.specs.Views.{view_of}
use Rattle.log_directory.proofs.Told.{told_err}
use Rattle.head_column.specs.declared.items.Run.{Run}
use Rattle.log_directory.specs.Replays.{IsReplayAtIn}
use Rattle.query_commands.proofs.Requested.{dumped_in}
use Rattle.query_commands.proofs.dumping.execute.Goals as goal

pub returns-in_err-pair : goal.returns-in_err-pair
returns-in_err-pair g c = told_err _ _ c.from_residual.result c.from_residual.ensures.1 (λ fault is. subst TellsNoDamage (sym is) c.in_err-pair.ensures)

pub returns-in_err-replayed : goal.returns-in_err-replayed
returns-in_err-replayed g c = told_err _ _ c.from_residual-in_err-replayed.result c.from_residual-in_err-replayed.ensures.1 (λ fault is. subst TellsNoDamage (sym is) c.in_err-replayed.ensures.undamaged)

pub returns : goal.returns
returns g c =
    dumped_in g.O.Output.printed c.args.out.now c.dumped.new.out c.dumped.result TellsNoDamage c.args.request.form (view_of (g.S.Store.holds c.args.store.now)) c.args.request.dir.now _ c.args.request.options.min_valid
    c.selection_of-selection.result _ c.args.request.floats c.in_ok-replayed.replayed.flaw c.in_ok-replayed.replayed.head.content _ c.selection_of-selection.ensures
    c.in_ok-pair.ensures
    (subst (λ (times : Run). IsReplayAtIn times c.args.request.form (view_of (g.S.Store.holds c.args.store.now)) c.args.request.dir.now c.args.request.options.min_valid c.in_ok-replayed.replayed.flaw c.in_ok-replayed.replayed.head.content) c.times-times.ensures c.in_ok-replayed.ensures.content)
    c.dumped.ensures
