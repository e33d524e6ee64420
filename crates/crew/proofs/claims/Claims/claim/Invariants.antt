use Rattle.std.proofs.Common.{◌≡◌, ◌-◌, ◌≤◌, []}
use Rattle.crew.specs.Tickets.{known}
use Rattle.crew.proofs.claims.Claims.claim.Given as goal

abbrev pub invariant-loop-pass : goal.invariant-loop-pass
invariant-loop-pass l =
    (l.pass-inside.seat.table_id ≡ l.initial.pass-inside.seat.table_id)
    × (l.pass-inside.seat.me ≡ (known l.initial.pass-inside.seat.me.0.pieces l.pass-inside.seen l.initial.pass-inside.seat.me.0.drawn, []))
    × (l.initial.pass-inside.seen ≤ l.pass-inside.seen)
    × (l.pass-inside.seen ≤ l.self-inside.pieces)

abbrev pub decreases-loop-pass : goal.decreases-loop-pass
decreases-loop-pass l = l.self-inside.pieces - l.pass-inside.seen
