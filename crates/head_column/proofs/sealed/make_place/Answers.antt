use Rattle.std.proofs.Common.{rules, ◌≡◌, ◌∙◌, ap, sym, subst, false, Option, Some, w64, to_z, of_z}
use Rattle.std.specs.Prelude.{ℤ, FitsSigned}
use Rattle.std.proofs.lemmas.Int.{to_z-of_z}
use Rattle.head_column.specs.Chunks.{last_time}
use Rattle.head_column.specs.Hours.{is_in_hour}
use Rattle.head_column.proofs.sealed.make_place.Goals as goal

some_same : (a b : ℤ) → ◌≡◌ {A = Option ℤ} (Some a) (Some b) → a ≡ b
some_same a b e = cc

pub returns-then-not-is_over-clause-same : goal.returns-then-not-is_over-clause-same
returns-then-not-is_over-clause-same c = λ some k.
    let no : c.is_over.result ≡ false = search rules in
    let last : c.in-Some.latest ≡ last_time c.args.writer.now.samples = some_same c.in-Some.latest (last_time c.args.writer.now.samples) (sym c.in-Some.is ∙ c.requires.latest some) in
    let fits : FitsSigned w64 c.in-Some.latest = search rules in
    subst (λ (t : ℤ). is_in_hour k t ≡ is_in_hour k (to_z w64 (of_z w64 c.in-Some.latest))) (to_z-of_z w64 c.args.time c.ranges.time) ((c.is_over.ensures.open no some).1 k) ∙ ap (is_in_hour k) (to_z-of_z w64 c.in-Some.latest fits ∙ last)
