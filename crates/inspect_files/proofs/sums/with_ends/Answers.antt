use Rattle.std.proofs.Common.{rules, ◌≡◌, ◌++◌, ◌∷◌, [], ℤ, List, Option, Some, append_assoc, of_z, sym, subst, to_z, w64, ◌∙◌, ap}
use Rattle.std.proofs.lemmas.Int.{to_z-of_z}
use Rattle.wal_survey.specs.Surveys.{AreEnds}
use Rattle.inspect_files.specs.Sums.{ends_of}
use Rattle.inspect_files.proofs.sums.with_ends.Goals as goal

-- the least time of the file, and then its greatest
pub returns-in-Some : goal.returns-in-Some
returns-in-Some c = λ times h.
    let least : to_z w64 (of_z w64 c.in-Some.least) ≡ c.in-Some.least = search (rules, to_z-of_z) in
    let greatest : to_z w64 (of_z w64 c.in-Some.greatest) ≡ c.in-Some.greatest = search (rules, to_z-of_z) in
    let first = subst (λ (z : ℤ). AreEnds (times ++ z ∷ []) (Some c.with_time-ends.result)) least (c.with_time-ends.ensures times h) in
    let both = subst (λ (z : ℤ). AreEnds ((times ++ c.in-Some.least ∷ []) ++ z ∷ []) (Some c.with_time.result)) greatest (c.with_time.ensures (times ++ c.in-Some.least ∷ []) first) in
    subst (λ (ts : List ℤ). AreEnds ts (Some c.with_time.result)) (append_assoc times (c.in-Some.least ∷ []) (c.in-Some.greatest ∷ []) ∙ ap (λ (file : Option (ℤ × ℤ)). times ++ ends_of file) (sym c.in-Some.is)) both
