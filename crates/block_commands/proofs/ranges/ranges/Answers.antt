use Rattle.std.proofs.Common.{Option, subst, sym}
use Rattle.answers.specs.Faults.{TellsNoDamage}
use Rattle.store.specs.Views.{view_of}
use Rattle.answers.specs.declared.damage.Flaw.{Flaw}
use Rattle.log_directory.specs.Replays.{IsReplayIn}
use Rattle.answers.proofs.Answered.{up_to_more}
use Rattle.log_directory.proofs.Told.{told_err}
use Rattle.block_commands.specs.Printed.{IsRangesText}
use Rattle.block_commands.proofs.ranges.ranges.Goals as goal

pub returns-in_err-replayed : goal.returns-in_err-replayed
returns-in_err-replayed g c = told_err _ _ c.from_residual.result c.from_residual.ensures.1 (λ fault is. subst TellsNoDamage (sym is) c.in_err-replayed.ensures.undamaged)

pub returns : goal.returns
returns g c =
    let view = view_of (g.S.Store.holds c.args.store.now) in
    let content = c.in_ok-replayed.replayed.head.content in
    up_to_more _ (IsRangesText c.args.form view c.args.dir.now c.args.options.now.min_valid) (λ d text is. record {
      content = content;
      replayed = subst (λ (x : Option Flaw). IsReplayIn c.args.form view c.args.dir.now c.args.options.now.min_valid x content) is.0 c.in_ok-replayed.ensures.content;
      hours = is.1;
      ascend = is.2;
      exact = is.3;
      is = is.4;
    }) TellsNoDamage c.listed.result c.listed.ensures
