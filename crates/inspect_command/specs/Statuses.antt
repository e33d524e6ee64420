-- The status by what an inspection of the log in a directory found.
use Rattle.std.specs.Prelude.{◌≡◌, ◌⊎◌, List, ℕ, ℤ}
use Rattle.answers.specs.declared.fault.Status.{Status}
use Rattle.store.specs.Views.{View}
use Rattle.inspect_files.specs.declared.inspection.Inspection.{Inspection}
use Rattle.inspect_files.specs.Inspections.{IsInspectionIn}
use Rattle.inspect_command.specs.declared.remarks.Remark.{Remark}
use Rattle.inspect_command.specs.Remarks.{Holds}

-- a log in the directory was inspected with the least valid time m, and no remark holds of it
abbrev pub IsCleanIn : View → List ℕ → ℤ → Type 0
IsCleanIn view dir m = (i : Inspection) × IsInspectionIn view dir m i × ((r : Remark) → Holds i r → ⊥)

-- the status by an inspection: `Done` if no remark holds of it, and `Damaged` if one does
abbrev pub IsStatusOf : Inspection → Status → Type 0
IsStatusOf i status = ((status ≡ Status.Done) × ((r : Remark) → Holds i r → ⊥)) ⊎ ((status ≡ Status.Damaged) × (r : Remark) × Holds i r)
