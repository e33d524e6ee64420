use Rattle.std.proofs.Common.{rules, ◌≡◌, [], ◌∷◌, ◌++◌, ap, ap₂, take, drop, take-append-drop, ◌/◌, sym, subst, ◌∙◌, vec_len, IfOk}
use Rattle.crew.specs.Jobs.{AreDone}
use Rattle.crew.proofs.Halves.{both_joined, lone_jobs}
use Rattle.crew.proofs.beside.+joining.Goals as goal

pub returns-then-len-gt1 : goal.returns-then-len-gt1
returns-then-len-gt1 g t c =
    let front : c.split_off.new.self.items ≡ take (vec_len c.args.workers / 2) c.args.workers.items = search rules in
    let back : c.in_ok-rest.rest.items ≡ drop (vec_len c.args.workers / 2) c.args.workers.items = search rules in
    let parts : c.args.workers.items ≡ c.split_off.new.self.items ++ c.in_ok-rest.rest.items =
    sym (take-append-drop (vec_len c.args.workers / 2) c.args.workers.items) ∙ ap₂ (λ a b. a ++ b) (sym front) (sym back) in
    both_joined (λ worker. worker.promise.0.value.items) g.J.Job.done c.args.workers.items c.split_off.new.self.items c.in_ok-rest.rest.items
    c.append.new.self.items c.in_ok-low.low.items c.in_ok-high.high.items parts (search rules) (search rules) (search rules)

pub returns-in-Some : goal.returns-in-Some
returns-in-Some g t c =
    let none : c.pop.new.self.items ≡ [] = search rules in
    let one : c.args.workers.items ≡ c.in-Some.worker ∷ [] = c.in-Some.ensures.items ∙ ap (λ ws. ws ++ c.in-Some.worker ∷ []) none in
    subst (λ js. IfOk c.join.result (λ after. AreDone g.J.Job.done js after.items)) (sym (lone_jobs (λ worker. worker.promise.0.value.items) c.args.workers.items c.in-Some.worker one)) c.join.ensures
