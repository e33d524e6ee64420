use Rattle.std.specs.Prelude.{◌≡◌, IfOk, string_bytes}
use Rattle.std.proofs.Common.{subst, sym, ◌∙◌}
use Rattle.command_tests.proofs.ListLemmas.{renamed_not, renamed_to}
use Rattle.command_tests.proofs.listed.renamed.Goals as goal

pub returns-in-Some : goal.returns-in-Some
returns-in-Some c =
    subst (λ path. IfOk c.together.result (λ made. string_bytes made ≡ path)) (sym (renamed_to c.args.from.now c.args.to.now c.args.path.now c.in-Some.rest.now c.in-Some.ensures.0 c.in-Some.ensures.1)) c.together.ensures

pub returns-in-None : goal.returns-in-None
returns-in-None c = subst (λ path. IfOk c.from_str.result (λ made. string_bytes made ≡ path)) (sym (renamed_not c.args.from.now c.args.to.now c.args.path.now c.in-None.ensures)) c.from_str.ensures.ok
