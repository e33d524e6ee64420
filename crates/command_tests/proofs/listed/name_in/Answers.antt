use Rattle.std.specs.Prelude.{IsTrue}
use Rattle.std.proofs.Common.{subst, sym, ◌∙◌}
use Rattle.std.proofs.lemmas.Bool.{false≢true}
use Rattle.std.proofs.lemmas.List.{append_cancel_left}
use Rattle.new_files.specs.Targets.{IsName}
use Rattle.command_tests.proofs.listed.name_in.Goals as goal
use Rattle.command_tests.proofs.listed.name_in.Goals.{in_default-via-in-Some+else-is_name, in_default-via-in_default}

pub returns-in_default : goal.returns-in_default
returns-in_default c = elim c.in_default.branch [
  | in_default-via-in-Some+else-is_name w ↦ λ name is same.
      absurd (false≢true (subst IsTrue w.if-is_name.false (w.is_name.ensures.1 (subst IsName (sym (append_cancel_left c.args.start.now w.in-Some.name.now name (sym w.in-Some.ensures ∙ same))) is))))
  | in_default-via-in_default w ↦ λ name is same. w.in_default.ensures name same
]
