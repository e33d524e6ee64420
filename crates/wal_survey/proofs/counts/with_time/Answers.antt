use Rattle.std.proofs.Common.{rules, ◌≡◌, ◌∙◌, ◌++◌, ◌∷◌, [], Some, w64, to_z, of_z, subst, ap}
use Rattle.std.proofs.lemmas.Int.{to_z-of_z}
use Rattle.std.specs.Int.{int_max, int_min}
use Rattle.wal_survey.specs.Surveys.{AreEnds}
use Rattle.wal_survey.proofs.Ends.{next_time}
use Rattle.wal_survey.proofs.counts.with_time.Goals as goal

pub returns-in-Some : goal.returns-in-Some
returns-in-Some c = λ times h.
    let time = to_z-of_z w64 c.args.time c.ranges.time in
    let least : to_z w64 (of_z w64 c.in-Some.least) ≡ c.in-Some.least = search (rules, to_z-of_z) in
    let greatest : to_z w64 (of_z w64 c.in-Some.greatest) ≡ c.in-Some.greatest = search (rules, to_z-of_z) in
    let low : to_z w64 (of_z w64 c.min.result) ≡ int_min c.in-Some.least c.args.time =
    to_z-of_z w64 c.min.result (record { sfits = c.min.type_inv }) ∙ c.min.ensures.value ∙ ap (λ z. int_min z (to_z w64 (of_z w64 c.args.time))) least ∙ ap (λ z. int_min c.in-Some.least z) time in
    let high : to_z w64 (of_z w64 c.max.result) ≡ int_max c.in-Some.greatest c.args.time =
    to_z-of_z w64 c.max.result (record { sfits = c.max.type_inv }) ∙ c.max.ensures.value ∙ ap (λ z. int_max z (to_z w64 (of_z w64 c.args.time))) greatest ∙ ap (λ z. int_max c.in-Some.greatest z) time in
    let ends : AreEnds (times ++ c.args.time ∷ []) (Some (int_min c.in-Some.least c.args.time, int_max c.in-Some.greatest c.args.time)) =
    next_time times c.args.time c.in-Some.least c.in-Some.greatest (subst (AreEnds times) c.in-Some.is h) in
    rw (low, high) ends
