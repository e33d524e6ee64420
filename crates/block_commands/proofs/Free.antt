-- A name that is not among some.
use Rattle.std.specs.Prelude.{ℕ, ◌≡◌, ◌||◌, All, Bool, true, false, List, [], ◌∷◌, bytes_eq, map, refl}
use Rattle.std.specs.List.{list_any}
use Rattle.std.proofs.Common.{sym, ◌∙◌}
use Rattle.std.proofs.lemmas.Bool.{false≢true, true≢false}
use Rattle.std.proofs.lemmas.List.Elements.{All-cons, All-nil}
use Rattle.std.proofs.lemmas.Slice.Eq.{bytes_eq-Decides}

both_false : (a b : Bool) → (a || b) ≡ false → (a ≡ false) × (b ≡ false)
both_false true b is = absurd (true≢false is)
both_false false b is = (refl, is)

pub none_named : {X : Type 0} (text : X → List ℕ) (wanted : List ℕ) (names : List X) → list_any (λ name. bytes_eq (text name) wanted) names ≡ false → All (λ (other : List ℕ). other ≡ wanted → ⊥) (map text names)
none_named text wanted [] is = All-nil (λ (other : List ℕ). other ≡ wanted → ⊥)
none_named text wanted (x ∷ names) is =
    let both = both_false (bytes_eq (text x) wanted) (list_any (λ name. bytes_eq (text name) wanted) names) is in
    All-cons (λ (other : List ℕ). other ≡ wanted → ⊥) (text x) (map text names) (λ same. false≢true (sym both.0 ∙ (bytes_eq-Decides (text x) wanted).1 same)) (none_named text wanted names both.1)
