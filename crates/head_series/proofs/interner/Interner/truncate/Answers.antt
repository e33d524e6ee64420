use Rattle.std.proofs.Common.{ap, ◌∙◌, sym, subst, take, length, arith}
use Rattle.std.specs.Prelude.{map}
use Rattle.std.proofs.lemmas.List.{take-map}
use Rattle.wal_record.specs.Labels.{same_text}
use Rattle.head_series.specs.Rows.{AreDistinct}
use Rattle.head_series.proofs.Places.{texts_same}
use Rattle.head_series.proofs.Distinct.{length_take, distinct_take}
use Rattle.head_series.proofs.interner.Interner.truncate.Goals as goal

pub returns-clause-texts : goal.returns-clause-texts
returns-clause-texts c = ap (map (λ v. v.items)) c.truncate.ensures.keys ∙ sym (take-map (λ v. v.items) c.args.many c.self.inside.texts.keys) ∙ ap (λ t. take c.args.many t.texts) c.self.view_is

pub invariant_of-self : goal.invariant_of-self
invariant_of-self c = (
  (let few = length_take c.self.inside.texts.keys c.args.many in
      let kept = ap length c.truncate.ensures.keys in
      let most = c.self.invariant.0 in
      omega (arith, few, kept, most)),
  subst (AreDistinct same_text) (take-map (λ v. v.items) c.args.many c.self.inside.texts.keys ∙ ap (map (λ v. v.items)) (sym c.truncate.ensures.keys))
      (distinct_take same_text texts_same (map (λ v. v.items) c.self.inside.texts.keys) c.args.many c.self.invariant.1),
)
