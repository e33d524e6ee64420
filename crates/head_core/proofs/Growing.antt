-- Series that were added, step by step.
use Rattle.std.proofs.Common.{◌≡◌, List, Bool, true, false, cond, [], ◌∷◌, ◌++◌, sym, ap, ◌∙◌, append_assoc}
use Rattle.std.proofs.lemmas.List.{append-nil}
use Rattle.head_series.specs.Table.{Labels, has_series, with_series}
use Rattle.head_core.specs.Growing.{HaveGrown}

pub grown_same : (earlier later : List Labels) → later ≡ earlier → HaveGrown earlier later
grown_same earlier later e = ([], e ∙ sym (append-nil earlier))

pub grown_with : (earlier later : List Labels) (labels : Labels) → later ≡ with_series earlier labels → HaveGrown earlier later
grown_with earlier later labels e = by (has_series earlier labels) e
  where
    by : (b : Bool) → later ≡ cond b earlier (earlier ++ labels ∷ []) → HaveGrown earlier later
    by true is = grown_same earlier later is
    by false is = (labels ∷ [], is)

pub grown_on : (first middle last : List Labels) → HaveGrown first middle → HaveGrown middle last → HaveGrown first last
grown_on first middle last a b = (a.0 ++ b.0, b.1 ∙ ap (λ ss. ss ++ b.0) a.1 ∙ append_assoc first a.0 b.0)
