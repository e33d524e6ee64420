use Rattle.std.proofs.Common.{None, rules, ◌≤ℤ◌}
use Rattle.std.proofs.lemmas.Int.{to_z-of_z}
use Rattle.head_serial.specs.Replays.{IsReplayed}
use Rattle.store.specs.Views.{view_of}
use Rattle.live_command.proofs.Begun.{begun_behind}
use Rattle.live_command.proofs.live.begun.Goals as goal

pub returns : goal.returns
returns g c =
    let at = c.in_ok-head.ensures.content in
    let late : c.args.request.now.options.min_valid ≤ℤ c.max.result = search (rules, to_z-of_z, c.max.ensures.self_bound) in
    let replayed : IsReplayed at.0 c.max.result None c.in_ok-head.head.content = search (rules, to_z-of_z, at.2) in
    record {
      begun =
          begun_behind g.S.Store.did (view_of (g.S.Store.holds c.args.store)) c.args.store c.args.request.now.dir.now c.args.request.now.options.min_valid (λ r. r.log) at.0 at.1 c.max.result
          late c.in_ok-head.head.content replayed c.in_ok-head.next at.3 c.unwrap_or-number.result c.unwrap_or-number.ensures c.begin.result c.begin.ensures.short c.begin.ensures.begun
          c.begin.ensures.logged;
    }
