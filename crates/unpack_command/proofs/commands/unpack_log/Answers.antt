use Rattle.std.specs.Prelude.{Option, Some}
use Rattle.std.proofs.Common.{inl, refl, rules, subst}
use Rattle.store.specs.Views.{view_of}
use Rattle.log_directory.specs.declared.unpacking.FileDamage.{FileDamage}
use Rattle.unpack_command.specs.Steps.{AreUnpackedFrom, with_files}
use Rattle.unpack_command.proofs.Endings.{found_from, not_well}
use Rattle.unpack_command.proofs.commands.unpack_log.Goals as goal

pub returns-in-Some : goal.returns-in-Some
returns-in-Some g c =
    let found = c.in_ok-damage.ensures in
    let log = c.args.log.now in
    inl (
      refl,
      not_well c.args.through_damage c.in-Some.damage c.in_ok-answer.answer (search rules) c.in_ok-answer.ensures.told,
      λ is. (
        with_files log.checkpoint found.0,
        found.1,
        c.in-Some.damage,
        found_from g.S.Store.did g.S.Store.holds g.met.S.Store.did_nothing c.args.store.now log found.0 found.1 (Some c.in-Some.damage)
            (subst (λ (d : Option FileDamage). AreUnpackedFrom (view_of (g.S.Store.holds c.args.store.now)) log found.0 found.1 d) c.in-Some.is found.2),
        λ none. c.in_ok-answer.ensures.told,
      ),
    )
