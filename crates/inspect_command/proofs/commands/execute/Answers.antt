use Rattle.std.proofs.Common.{rules, ◌≡◌, ◌∙◌, List, ℤ, of_z, string_bytes, subst, sym, to_z, w64}
use Rattle.std.proofs.lemmas.Int.{to_z-of_z}
use Rattle.store.specs.Views.{view_of}
use Rattle.inspect_files.specs.Inspections.{IsInspectionIn}
use Rattle.inspect_command.specs.declared.remarks.Remark.{Remark}
use Rattle.inspect_command.specs.Documents.{IsDocument}
use Rattle.inspect_command.proofs.Told.{none_contained, status_told}
use Rattle.inspect_command.proofs.commands.execute.Goals as goal

-- the status is `Done` only if there is no remark
pub returns-clause-clean : goal.returns-clause-clean
returns-clause-clean g c = λ done. (
  c.in_ok-inspection.inspection,
  (let time : to_z w64 (of_z w64 c.args.request.min_valid) ≡ c.args.request.min_valid = search (rules, to_z-of_z) in
      subst (λ (m : ℤ). IsInspectionIn (view_of (g.S.Store.holds c.args.store.now)) c.args.request.dir.now m c.in_ok-inspection.inspection) time c.in_ok-inspection.ensures),
  λ r holds. none_contained c.in_ok-remarks.remarks.items r (sym c.deref-2.ensures.value ∙ c.status_of.ensures.done.0 done) ((c.in_ok-remarks.ensures.told r).1 holds),
)

pub returns-clause-status : goal.returns-clause-status
returns-clause-status g c = (
  c.in_ok-inspection.inspection,
  (let time : to_z w64 (of_z w64 c.args.request.min_valid) ≡ c.args.request.min_valid = search (rules, to_z-of_z) in
      subst (λ (m : ℤ). IsInspectionIn (view_of (g.S.Store.holds c.args.store.now)) c.args.request.dir.now m c.in_ok-inspection.inspection) time c.in_ok-inspection.ensures),
  status_told c.in_ok-remarks.remarks.items c.in_ok-inspection.inspection c.status_of.result (rw c.deref-2.ensures.value at c.status_of.ensures.done) (rw c.deref-2.ensures.value at c.status_of.ensures.damaged) c.in_ok-remarks.ensures.told,
)

-- the document is that of the inspection and of its remarks
pub returns-clause-document : goal.returns-clause-document
returns-clause-document g c = λ json. (
    let time : to_z w64 (of_z w64 c.args.request.min_valid) ≡ c.args.request.min_valid = search (rules, to_z-of_z) in
    record {
      inspection = c.in_ok-inspection.inspection;
      inspected = subst (λ (m : ℤ). IsInspectionIn (view_of (g.S.Store.holds c.args.store.now)) c.args.request.dir.now m c.in_ok-inspection.inspection) time c.in_ok-inspection.ensures;
      remarks = c.in_ok-remarks.remarks.items;
      hold = c.in_ok-remarks.ensures.told;
      document = subst (λ (told : List Remark). IsDocument c.in_ok-inspection.inspection told (string_bytes c.in_ok-text.text)) c.deref.ensures.value (c.in_ok-text.ensures json);
    }
    )
