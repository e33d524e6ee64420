use Rattle.std.proofs.Common.{refl}
use Rattle.replay_rounds.proofs.Windows.{made_of_shares}
use Rattle.replay_rounds.proofs.window.spread_window.Goals as goal

pub settle-requires : goal.settle-requires
settle-requires g c = (c.in_ok-scans.scans.items, c.in_ok-scans.ensures.own, c.in_ok-given.ensures.drawn)

pub returns-clause-made : goal.returns-clause-made
returns-clause-made g c =
    made_of_shares c.spread_ahead.ensures.none c.args.window.resolver.now c.args.window.changes.now c.args.window.seats.now.workers c.args.window.seats.now.workers c.in_ok-jobs.jobs.items c.args.window.pages.items c.in_ok-given.made.items refl c.in_ok-jobs.ensures.pages c.in_ok-jobs.ensures.places c.in_ok-jobs.ensures.fresh c.in_ok-given.ensures.made
