-- What holds of rows holds of those that are accepted.
use Rattle.std.proofs.Common.{Bool, true, false, List, [], ◌∷◌, All}
use Rattle.std.specs.Prelude.{if◌then◌else◌}
use Rattle.std.proofs.lemmas.List.Elements.{All-append, All-cons, All-head, All-nil, All-tail}
use Rattle.hw_bytes.specs.Lists.{along}
use Rattle.head_core.specs.Content.{Content}
use Rattle.head_live.specs.Rows.{Row}
use Rattle.head_live.specs.Verdicts.{accepted, is_accepted, verdict_on}

-- what holds of each of some rows holds of those that are taken of each by what came before
pub all_along : (P : Row → Type 0) (f : List Row → Row → List Row) → ((before : List Row) (r : Row) → P r → All P (f before r)) → (rows : List Row) → All P rows → All P (along f rows)
all_along P f kept [] h = All-nil P
all_along P f kept (r ∷ rs) h =
    All-append P (f [] r) (along (λ before. f (r ∷ before)) rs) (kept [] r (All-head P r rs h)) (all_along P (λ before. f (r ∷ before)) (λ before. kept (r ∷ before)) rs (All-tail P r rs h))

-- what holds of each of some rows holds of those that are accepted
pub all_accepted : (c : Content) (P : Row → Type 0) (rows : List Row) → All P rows → All P (accepted c rows)
all_accepted c P rows h = all_along P (λ before r. if is_accepted (verdict_on c before r) then r ∷ [] else []) (λ before r k. at r k (is_accepted (verdict_on c before r))) rows h where
  at : (r : Row) → P r → (b : Bool) → All P (if b then r ∷ [] else [])
  at r k true = All-cons P r [] k (All-nil P)
  at r k false = All-nil P
