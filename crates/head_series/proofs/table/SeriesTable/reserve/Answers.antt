use Rattle.std.proofs.Common.{◌≤◌, ◌+◌, ◌*◌, ◌++◌, ◌∷◌, [], ap, ◌∙◌, arith, length}
use Rattle.head_series.specs.Bindings.{Binding}
use Rattle.head_series.specs.Room.{high_one}
use Rattle.head_series.proofs.PlanLemmas.{at_limit, reserved_push, plan_counted}
use Rattle.head_series.proofs.table.SeriesTable.reserve.Goals as goal

pub returns-clause-room : goal.returns-clause-room
returns-clause-room c bs h =
    let b : Binding = record { reference = c.args.reference; labels = c.args.labels.now } in
    let noted = c.in_ok-note.ensures.plan bs c.args.reference h.plan in
    reserved_push c.args.self.now c.grow.new.self bs b c.args.plan.now c.count.new.self c.grow.ensures.kept h
    (plan_counted c.args.self.now (bs ++ b ∷ []) c.note.new.plan c.count.new.self noted c.in_ok-count.ensures.series c.in_ok-count.ensures.texts)
    (c.in_ok-count.ensures.bindings ∙ ap (λ n. n + 1) c.note.ensures.bindings)
    (c.in_ok-count.ensures.texts_most ∙ ap (λ n. n + 2 * length b.labels) c.note.ensures.texts_most)
    (c.in_ok-count.ensures.high ∙ ap (λ n. n + high_one b.reference) c.note.ensures.high)
    c.in_ok-grow.ensures.rows c.in_ok-grow.ensures.lower_bounds c.in_ok-grow.ensures.last_by_hash c.in_ok-grow.ensures.texts c.in_ok-grow.ensures.high
    c.in_ok-grow.ensures.places c.in_ok-grow.ensures.place

pub returns-then-is_at_limit-clause-full : goal.returns-then-is_at_limit-clause-full
returns-then-is_at_limit-clause-full c = λ bs h _ fits.
    let at = c.is_at_limit.ensures.0 c.if-is_at_limit.true in
    let most = ap (λ t. t.most) c.self.view_is in
    let many : c.args.self.now.most ≤ length c.args.self.now.series + length c.args.plan.now.series = omega (arith, most, at.2) in
    at_limit c.args.self.now bs (record { reference = c.args.reference; labels = c.args.labels.now }) c.args.plan.now h.plan at.0 at.1 many fits
