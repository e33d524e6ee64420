use Rattle.std.specs.Prelude.{None}
use Rattle.std.proofs.Common.{sym, ◌∙◌, ◌≡◌}
use Rattle.unpack_command.specs.Rescues.{rescue_ending_of}
use Rattle.unpack_command.proofs.Listed.{rescues_failed}
use Rattle.log_directory.proofs.Results.{some_not_none}
use Rattle.unpack_command.proofs.commands.carry_out_rescue.Goals as goal

pub returns-in-Err : goal.returns-in-Err
returns-in-Err g c =
    let untold : c.failed.result.fault ≡ None → ⊥ = λ none. some_not_none _ (sym c.failed.ensures.fault ∙ none) in
    rescues_failed g.S.Store.did g.S.Store.holds c.args.store.now c.args.request.now c.rescue.new.store (rescue_ending_of c.failed.result) untold untold (λ lost none. absurd (untold none)) c.in-Err.ensures
