use Rattle.std.proofs.Common.{None, Some, ap, map, refl, string_bytes, subst, sym, ◌∙◌}
use Rattle.wal_log.specs.Plan.{IsPlan, named as name_of}
use Rattle.store.specs.Found.{Names}
use Rattle.unpack_command.specs.Folders.{ending_of, failing}
use Rattle.unpack_command.specs.Since.{seen_since}
use Rattle.unpack_command.proofs.Plans.{into_weaker, planned_with}
use Rattle.log_directory.proofs.Results.{match_weaker}
use Rattle.unpack_command.proofs.commands.unpack_with_checkpoint.Goals as goal

pub returns : goal.returns
returns g c =
    let did = g.S.Store.did in
    let holds = g.S.Store.holds in
    let old = c.args.store.now in
    let new = c.unpack_log.new.store in
    let path = c.args.target.now.path in
    let through = c.args.request.now.through_damage in
    let names = map string_bytes c.in_ok-names.names.items in
    let listed = subst (λ d. holds old d (Names names)) (c.deref.ensures ∙ sym c.deref-3.ensures) c.in_ok-names.ensures in
    let plan = subst (λ ns. IsPlan None ns (map name_of c.deref-4.result.now)) (ap (map string_bytes) c.deref-2.ensures.value)
    (subst (λ xs. IsPlan None (map string_bytes c.deref-2.result.now) (map name_of xs)) (sym c.deref-4.ensures.value) c.in_ok-plan.ensures) in
    match_weaker _ _ _ _ c.unpack_log.result
    (λ answer. into_weaker did old path _ _ (λ ck s d. planned_with (seen_since did holds old) (record { checkpoint = Some (record { number = c.args.newest.now.number; dir = c.deref-3.result; names = c.deref-4.result }); dir = c.args.request.now.dir; segments = c.args.segments }) ck s d (name_of c.args.newest.now) (record { number = c.args.newest.now.number; dir = c.deref-3.result; names = c.deref-4.result }) names refl refl (c.deref-3.ensures ∙ c.in_ok-dir.ensures) listed plan) through (ending_of through answer) new)
    (λ fault. into_weaker did old path _ _ (λ ck s d. planned_with (seen_since did holds old) (record { checkpoint = Some (record { number = c.args.newest.now.number; dir = c.deref-3.result; names = c.deref-4.result }); dir = c.args.request.now.dir; segments = c.args.segments }) ck s d (name_of c.args.newest.now) (record { number = c.args.newest.now.number; dir = c.deref-3.result; names = c.deref-4.result }) names refl refl (c.deref-3.ensures ∙ c.in_ok-dir.ensures) listed plan) through failing new)
    c.unpack_log.ensures
