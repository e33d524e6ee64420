use Rattle.std.proofs.Common.{◌∷◌, []}
use Rattle.head_series.specs.Bindings.{Binding}
use Rattle.head_tests.proofs.rooms.bind_both.Goals as goal

pub bind_ready-first-requires-clause-room : goal.bind_ready-first-requires-clause-room
bind_ready-first-requires-clause-room g c =
    let first : Binding = record { reference = c.args.batch.now.first; labels = c.args.batch.now.first_labels } in
    let second : Binding = record { reference = c.args.batch.now.second; labels = c.args.batch.now.second_labels } in
    let both = c.in_ok-second.ensures.room (first ∷ []) (c.in_ok-first.ensures.room [] c.plan-plan.ensures) in
    c.room_for_first.ensures c.reserve-2.new.self first (second ∷ []) both.room

pub bind_ready-second-requires-clause-room : goal.bind_ready-second-requires-clause-room
bind_ready-second-requires-clause-room g c =
    let first : Binding = record { reference = c.args.batch.now.first; labels = c.args.batch.now.first_labels } in
    let second : Binding = record { reference = c.args.batch.now.second; labels = c.args.batch.now.second_labels } in
    let both = c.in_ok-second.ensures.room (first ∷ []) (c.in_ok-first.ensures.room [] c.plan-plan.ensures) in
    c.bind_ready-first.ensures.left (second ∷ []) both.room
