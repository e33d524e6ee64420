use Rattle.std.proofs.Common.{subst, sym}
use Rattle.std.proofs.lemmas.Result.{on_ok_weaker}
use Rattle.wal_survey.specs.Keeping.{notes_of}
use Rattle.wal_survey.specs.Unbound.{AreReferencesOf, ReferencesValue}
use Rattle.wal_survey.proofs.TakenReferences.{series_taken}
use Rattle.wal_survey.proofs.references.SeenReferences.add_series.Goals as goal

pub returns : goal.returns
returns c = λ m placed p is h.
    let old = subst (λ (v : ReferencesValue). AreReferencesOf m placed v) (sym c.self.view_is) h in
    on_ok_weaker c.bind.result (λ more. series_taken m placed p c.args.series.now (record { bound = c.self.inside.bound; noted = notes_of c.self.inside.noted.entries; min_valid = c.self.inside.min_valid }) c.bind.new.bound is old more) c.bind.ensures
