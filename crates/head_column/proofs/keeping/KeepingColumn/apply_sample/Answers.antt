use Rattle.std.proofs.Common.{◌≡◌, of_z, subst, sym, to_z, true, w64}
use Rattle.std.proofs.lemmas.Int.{to_z-of_z}
use Rattle.head_column.specs.Histories.{has_reached}
use Rattle.head_column.proofs.KeptLaws.{applied_past, kept_past}
use Rattle.head_column.proofs.keeping.KeepingColumn.apply_sample.Goals as goal
use Rattle.head_column.proofs.keeping.KeepingColumn.apply_sample.Goals.{then-spans+in_ok-apply, else-spans}

-- no kept sample is later than the sample that was accepted
pub invariant_of-self-2 : goal.invariant_of-self-2
invariant_of-self-2 c =
    let same : to_z w64 (of_z w64 c.fit_copy-sample.result.time) ≡ c.fit_copy-sample.result.time = to_z-of_z w64 c.fit_copy-sample.result.time c.fit_copy-sample.ensures.fit.time in
    let past = sym c.if-reaches.ensures in
    elim c.if-spans.branch [
      | then-spans+in_ok-apply w ↦
          (λ u reached. rw same (applied_past c.self.inside.column w.apply.new.self c.self.inside.latest c.fit_copy-sample.result c.self.invariant (rw same at past) w.in_ok-apply.ensures.changed u (subst (λ (i : _). has_reached i.column.samples u ≡ true) w.self-inside-is reached)))
      | else-spans w ↦
          (λ u reached. rw same (kept_past c.self.inside.column.samples c.self.inside.latest c.fit_copy-sample.result.time c.self.invariant (rw same at past) u (subst (λ (i : _). has_reached i.column.samples u ≡ true) w.self-inside-is reached)))
    ]
