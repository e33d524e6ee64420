use Rattle.std.specs.Prelude.{None}
use Rattle.std.proofs.Common.{sym, ◌∙◌, ◌≡◌}
use Rattle.unpack_command.specs.Folders.{ending_of}
use Rattle.unpack_command.proofs.Plans.{unpacks_failed}
use Rattle.log_directory.proofs.Results.{some_not_none}
use Rattle.unpack_command.proofs.commands.carry_out_whole.Goals as goal

pub returns-in-Err : goal.returns-in-Err
returns-in-Err g c =
    let untold : c.failed.result.fault ≡ None → ⊥ = λ none. some_not_none _ (sym c.failed.ensures.fault ∙ none) in
    unpacks_failed g.S.Store.did g.S.Store.holds c.args.store.now c.args.request.now c.unpack.new.store (ending_of c.args.request.now.through_damage c.failed.result) untold (λ well. untold well.0) (λ damage none. absurd (untold none)) c.in-Err.ensures
