use Rattle.std.proofs.Common.{List, subst, sym}
use Rattle.std.specs.Prelude.{Contains}
use Rattle.inspect_command.specs.declared.remarks.Remark.{Remark}
use Rattle.inspect_command.specs.Remarks.{AreInOrder}
use Rattle.inspect_command.proofs.Told.{all_contained, all_hold, all_in_order, told_list}
use Rattle.inspect_command.proofs.remarks.remarks_on.Goals as goal

-- the list that was reported is that of all remarks
pub returns-clause-told : goal.returns-clause-told
returns-clause-told c =
    let i = c.args.inspection.now in
    let list = told_list i c.as_slice-files.result.now c.of_log.result c.of_checkpoint.result c.of_passed.result c.of_unbound-unbound.result c.new-told.result.items c.add.new.told.items c.add-2.new.told.items c.add-3.new.told.items c.add_of_files.new.told.items c.add-4.new.told.items
    c.as_slice-files.ensures.value c.of_log.ensures c.of_checkpoint.ensures c.of_passed.ensures c.of_unbound-unbound.ensures c.new-told.ensures.items c.in_ok-add.ensures c.in_ok-add-2.ensures c.in_ok-add-3.ensures c.in_ok-add_of_files.ensures c.in_ok-add-4.ensures in
    λ r. (λ h. all_hold i r (subst (λ (l : List Remark). Contains l r) list h), λ h. subst (λ (l : List Remark). Contains l r) (sym list) (all_contained i r h))

pub returns-clause-order : goal.returns-clause-order
returns-clause-order c =
    let i = c.args.inspection.now in
    let list = told_list i c.as_slice-files.result.now c.of_log.result c.of_checkpoint.result c.of_passed.result c.of_unbound-unbound.result c.new-told.result.items c.add.new.told.items c.add-2.new.told.items c.add-3.new.told.items c.add_of_files.new.told.items c.add-4.new.told.items
    c.as_slice-files.ensures.value c.of_log.ensures c.of_checkpoint.ensures c.of_passed.ensures c.of_unbound-unbound.ensures c.new-told.ensures.items c.in_ok-add.ensures c.in_ok-add-2.ensures c.in_ok-add-3.ensures c.in_ok-add_of_files.ensures c.in_ok-add-4.ensures in
    subst (AreInOrder i.files.items) (sym list) (all_in_order i)
