-- What holds of a block that was cut.
use Rattle.std.proofs.Common.{◌≡◌, Result, Ok, Err}
use Rattle.std.specs.Prelude.{IfOk}

-- what holds of a value, and something else that does, hold both
pub both_ok : {T E : Type 0} (P Q : T → Type 0) (r : Result T E) → IfOk r P → IfOk r Q → IfOk r (λ x. P x × Q x)
both_ok P Q (Ok x) p q = (p, q)
both_ok P Q (Err e) p q = tt

-- what would have been refused is not so
pub not_refused : {T E : Type 0} (r : Result T E) (e : E) (P : Type 0) → (P → r ≡ Err e) → IfOk r (λ x. P → ⊥)
not_refused (Ok x) e P refused = λ p. (let same = refused p in absurd cc)
not_refused (Err d) e P refused = tt
