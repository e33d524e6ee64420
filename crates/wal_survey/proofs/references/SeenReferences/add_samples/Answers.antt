use Rattle.std.proofs.Common.{rules, ◌≡◌, ◌∙◌, ℤ, of_z, subst, sym, to_z, w64}
use Rattle.std.specs.List.{flat_map}
use Rattle.std.proofs.lemmas.Int.{to_z-of_z}
use Rattle.std.proofs.lemmas.Result.{on_ok_weaker}
use Rattle.wal_record.specs.Validity.{valid_sample}
use Rattle.wal_survey.specs.Keeping.{noted_with_all, notes_of}
use Rattle.wal_survey.specs.Unbound.{AreReferencesOf, ReferencesValue, sample_references}
use Rattle.wal_survey.proofs.TakenReferences.{samples_taken}
use Rattle.wal_survey.proofs.references.SeenReferences.add_samples.Goals as goal

pub returns : goal.returns
returns c = λ m placed p here is h.
    let old = subst (λ (v : ReferencesValue). AreReferencesOf m placed v) (sym c.self.view_is) h in
    let time : to_z w64 (of_z w64 c.self.inside.min_valid) ≡ c.self.inside.min_valid = search (rules, to_z-of_z) in
    on_ok_weaker c.note_all.result
    (λ made.
    samples_taken m placed p c.args.place c.args.samples.now (record { bound = c.self.inside.bound; noted = notes_of c.self.inside.noted.entries; min_valid = c.self.inside.min_valid }) (notes_of c.note_all.new.noted.entries) here is old
    (subst (λ (z : ℤ). notes_of c.note_all.new.noted.entries ≡ noted_with_all c.self.inside.bound (notes_of c.self.inside.noted.entries) c.args.place (sample_references (flat_map (valid_sample z) c.args.samples.now))) (time ∙ old.min_valid) made))
    c.note_all.ensures
