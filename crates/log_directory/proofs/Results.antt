-- What holds of a result, whatever it is.
use Rattle.std.specs.Prelude.{◌≡◌, Bool, true, false, Option, None, Some, Result, Ok, Err, MatchResult}
use Rattle.std.proofs.Common.{ap, subst, sym}
use Rattle.std.proofs.lemmas.Bool.{true≢false}

pub match_err : {T E : Type 0} (P : T → Type 0) (Q : E → Type 0) (result : Result T E) (fault : E) → result ≡ Err fault → Q fault → MatchResult result P Q
match_err P Q result fault is has = subst (λ r. MatchResult r P Q) (sym is) has

pub match_weaker : {T E : Type 0} (P P2 : T → Type 0) (Q Q2 : E → Type 0) (result : Result T E) → ((value : T) → P value → P2 value) → ((fault : E) → Q fault → Q2 fault) → MatchResult result P Q → MatchResult result P2 Q2
match_weaker P P2 Q Q2 (Ok value) ok err has = ok value has
match_weaker P P2 Q Q2 (Err fault) ok err has = err fault has

is_there : {X : Type 0} → Option X → Bool
is_there None = false
is_there (Some x) = true

pub some_not_none : {X : Type 0} (x : X) → Some x ≡ None → ⊥
unfolding is_there
some_not_none x is = true≢false (ap is_there is)
