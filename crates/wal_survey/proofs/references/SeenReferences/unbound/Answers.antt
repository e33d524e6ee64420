use Rattle.std.proofs.Common.{◌∙◌, ap, length, subst, sym}
use Rattle.std.specs.Prelude.{slice_get}
use Rattle.wal_survey.specs.declared.references.UnboundReference.{UnboundReference}
use Rattle.std.specs.Prelude.{List}
use Rattle.wal_survey.specs.Unbound.{AreReferencesOf, ReferencesValue}
use Rattle.wal_survey.proofs.Notes.{counted, found_first}
use Rattle.wal_survey.proofs.references.SeenReferences.unbound.Goals as goal

pub returns : goal.returns
returns c = λ m placed h.
    let old = subst (λ (v : ReferencesValue). AreReferencesOf m placed v) (sym c.self.view_is) h in
    record {
      references = c.count_missing.ensures ∙ counted c.self.inside.bound c.self.inside.noted.entries ∙ ap (λ (us : List UnboundReference). length us) old.noted;
      first = c.first_missing.ensures ∙ found_first c.self.inside.bound c.self.inside.noted.entries ∙ ap (λ (us : List UnboundReference). slice_get us 0) old.noted;
    }
