use Rattle.std.proofs.Common.{arith, rules, ◌≡◌, ◌∙◌, of_z, to_z, w64}
use Rattle.std.proofs.lemmas.Int.{ints, to_z-of_z}
use Rattle.std.specs.Prelude.{ℤ, ◌<ℤ◌}
use Rattle.rescue_commands.proofs.InPasses.{one_more_bound}
use Rattle.rescue_commands.proofs.planning.push_start.Goals as goal

pub returns : goal.returns
returns c = λ before.
    let next : ℤ = to_z w64 (of_z w64 c.first_of-start.result) in
    let same : next ≡ c.first_of-start.result = search (rules, to_z-of_z) in
    let past : c.args.last <ℤ next = grind (arith, ints) in
    one_more_bound c.args.bounds.now.items c.push.new.self.items c.args.last next c.in_ok-push.ensures.items (c.in-Some.hour, same ∙ c.first_of-start.ensures) past before
