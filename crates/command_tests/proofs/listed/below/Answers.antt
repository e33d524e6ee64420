use Rattle.std.specs.Prelude.{true}
use Rattle.std.proofs.Common.{ap, subst, sym, ◌∙◌}
use Rattle.std.proofs.lemmas.Bool.{false≢true}
use Rattle.std.proofs.lemmas.List.{append_cancel_left}
use Rattle.command_tests.specs.Listings.{is_below}
use Rattle.command_tests.proofs.listed.below.Goals as goal
use Rattle.command_tests.proofs.listed.below.Goals.{in_default-via-in-Some+else-goes_on, in_default-via-in_default}

pub returns-in_default : goal.returns-in_default
returns-in_default c = elim c.in_default.branch [
  | in_default-via-in-Some+else-goes_on w ↦ λ rest same is.
      absurd (false≢true (sym w.if-goes_on.false ∙ w.goes_on.ensures ∙ ap is_below (append_cancel_left c.args.front.now w.in-Some.rest.now rest (sym w.in-Some.ensures ∙ same)) ∙ is))
  | in_default-via-in_default w ↦ λ rest same is. w.in_default.ensures rest same
]
