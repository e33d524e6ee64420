use Rattle.std.proofs.Common.{Option, subst}
use Rattle.wal_log.specs.declared.reading.Damage.{Damage}
use Rattle.answers.specs.declared.requests.LogForm.TheVariants.{PastDamage}
use Rattle.store.specs.Views.{view_of}
use Rattle.log_directory.specs.Replays.{IsFormReplay}
use Rattle.log_directory.proofs.heads.rescued_head.Goals as goal

-- a log without damage was read whole
pub returns-clause-content : goal.returns-clause-content
returns-clause-content g c =
    let replay = c.in_ok-replay.replay in
    let view = view_of (g.S.Store.holds c.args.store.now) in
    let dir = c.args.dir.now in
    let is = subst (λ (damage : Option Damage). IsFormReplay PastDamage view dir c.args.options.now.min_valid damage replay.own replay.next replay.replayed.head.content) c.in_ok-check_whole.ensures c.in_ok-replay.ensures.content in
    (is.log, is.read, is.replayed)
