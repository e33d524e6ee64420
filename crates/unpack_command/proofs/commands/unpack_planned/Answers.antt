use Rattle.std.proofs.Common.{None, map, refl, subst, sym}
use Rattle.std.specs.Option.{option_map}
use Rattle.wal_log.specs.Plan.{named as name_of}
use Rattle.unpack_command.specs.Folders.{ending_of, failing}
use Rattle.log_directory.specs.Unpacked.{IsUnpackedPlan}
use Rattle.unpack_command.specs.Since.{seen_since}
use Rattle.unpack_command.specs.Steps.{IsUnpackedFrom}
use Rattle.unpack_command.proofs.Plans.{into_weaker, planned_alone}
use Rattle.log_directory.proofs.Results.{match_weaker}
use Rattle.unpack_command.proofs.commands.unpack_planned.Goals as goal

pub returns-in-None : goal.returns-in-None
returns-in-None g c =
    let did = g.S.Store.did in
    let old = c.args.store.now in
    let new = c.unpack_log.new.store in
    let path = c.args.target.now.path in
    let view = seen_since did g.S.Store.holds old in
    let dir = c.args.request.now.dir.now in
    let plan = map name_of c.args.segments.now in
    let through = c.args.request.now.through_damage in
    let P = IsUnpackedFrom view (record { checkpoint = None; dir = c.args.request.now.dir; segments = c.args.segments }) in
    let Q = IsUnpackedPlan view dir (option_map name_of c.args.newest) plan in
    match_weaker _ _ _ _ c.unpack_log.result
    (λ answer. into_weaker did old path P Q (λ ck s d is. subst (λ n. IsUnpackedPlan view dir (option_map name_of n) plan ck s d) (sym c.in-None.is) (planned_alone view (record { checkpoint = None; dir = c.args.request.now.dir; segments = c.args.segments }) ck s d refl is)) through (ending_of through answer) new)
    (λ fault. into_weaker did old path P Q (λ ck s d is. subst (λ n. IsUnpackedPlan view dir (option_map name_of n) plan ck s d) (sym c.in-None.is) (planned_alone view (record { checkpoint = None; dir = c.args.request.now.dir; segments = c.args.segments }) ck s d refl is)) through failing new)
    c.unpack_log.ensures
