use Rattle.std.proofs.Common.{ap, map, string_bytes, subst, sym}
use Rattle.std.specs.Option.{option_map}
use Rattle.wal_log.specs.Plan.{IsDirPlan, named as name_of}
use Rattle.unpack_command.specs.Folders.{ending_of, failing}
use Rattle.log_directory.specs.Unpacked.{IsUnpackedLogIn, IsUnpackedPlan}
use Rattle.unpack_command.specs.Since.{seen_since}
use Rattle.unpack_command.proofs.Plans.{into_weaker, unpacks_out}
use Rattle.log_directory.proofs.Results.{match_weaker}
use Rattle.unpack_command.proofs.commands.unpack.Goals as goal

pub returns : goal.returns
returns g c =
    let did = g.S.Store.did in
    let holds = g.S.Store.holds in
    let old = c.args.store.now in
    let new = c.unpack_planned.new.store in
    let path = c.in_ok-target.target.path in
    let request = c.args.request.now in
    let names = map string_bytes c.in_ok-names.names.items in
    let newest = option_map name_of c.in_ok-plan.plan.checkpoint in
    let plan = map name_of c.as_slice-segments.result.now in
    let planned = subst (λ ns. IsDirPlan ns newest plan) (ap (map string_bytes) c.deref.ensures.value)
    (subst (λ xs. IsDirPlan (map string_bytes c.deref.result.now) newest (map name_of xs)) (sym c.as_slice-segments.ensures) c.in_ok-plan.ensures) in
    let P = IsUnpackedPlan (seen_since did holds old) request.dir.now newest plan in
    let Q = IsUnpackedLogIn (seen_since did holds old) request.dir.now in
    match_weaker _ _ _ _ c.unpack_planned.result
    (λ answer into. unpacks_out did holds old request new path (ending_of request.through_damage answer) c.in_ok-target.ensures.out
    (into_weaker did old path P Q (λ ck s d is. record { names = names; listed = c.in_ok-names.ensures; newest = newest; plan = plan; planned = planned; unpacked = is }) request.through_damage (ending_of request.through_damage answer) new into))
    (λ fault into. unpacks_out did holds old request new path failing c.in_ok-target.ensures.out
    (into_weaker did old path P Q (λ ck s d is. record { names = names; listed = c.in_ok-names.ensures; newest = newest; plan = plan; planned = planned; unpacked = is }) request.through_damage failing new into))
    c.unpack_planned.ensures
