use Rattle.std.proofs.Common.{Option, subst}
use Rattle.wal_log.specs.declared.reading.Damage.{Damage}
use Rattle.head_serial.specs.Replays.{IsReplayedAt}
use Rattle.store.specs.Views.{view_of}
use Rattle.log_directory.specs.Sources.{IsReadUpTo}
use Rattle.log_directory.proofs.UpTo.{up_to_source}
use Rattle.log_directory.proofs.heads.undamaged_at.Goals as goal

-- a log without damage was read whole
pub returns-clause-content : goal.returns-clause-content
returns-clause-content g c =
    let replayed = c.in_ok-replayed.replayed in
    let own = c.in_ok-replayed.own in
    let view = view_of (g.S.Store.holds c.args.store.now) in
    let dir = c.args.dir.now in
    let (log, read, is) = c.in_ok-replayed.ensures.content in (
      log,
      up_to_source c.args.form view dir log own (subst (λ (damage : Option Damage). IsReadUpTo c.args.form view dir damage log own) c.in_ok-check_whole.ensures read),
      subst (λ (damage : Option Damage). IsReplayedAt c.args.times log c.args.options.now.min_valid damage replayed.head.content) c.in_ok-check_whole.ensures is,
    )
