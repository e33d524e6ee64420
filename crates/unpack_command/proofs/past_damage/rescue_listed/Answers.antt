use Rattle.std.proofs.Common.{None, map, refl, subst, sym}
use Rattle.std.specs.Option.{option_map}
use Rattle.wal_log.specs.Plan.{named as name_of}
use Rattle.unpack_command.specs.Since.{seen_since}
use Rattle.unpack_command.specs.Rescues.{failing_rescue, rescue_ending_of}
use Rattle.unpack_command.specs.RescueSteps.{IsRescuedFrom}
use Rattle.log_directory.specs.RescueSteps.{IsRescuedListed}
use Rattle.log_directory.specs.Slots.{slot_value}
use Rattle.unpack_command.proofs.Listed.{listed_alone, rescued_weaker}
use Rattle.log_directory.proofs.Results.{match_weaker}
use Rattle.unpack_command.proofs.past_damage.rescue_listed.Goals as goal

pub returns-in-None : goal.returns-in-None
returns-in-None g c =
    let did = g.S.Store.did in
    let old = c.args.store.now in
    let new = c.write_rescued.new.store in
    let path = c.args.target.now.path in
    let view = seen_since did g.S.Store.holds old in
    let dir = c.args.dir.now in
    let slots = map slot_value c.args.slots.now in
    let P = IsRescuedFrom view (record { checkpoint = None; dir = c.args.dir; slots = c.args.slots }) in
    let Q = IsRescuedListed view dir (option_map name_of c.args.newest) slots in
    match_weaker _ _ _ _ c.write_rescued.result
    (λ answer. rescued_weaker did old path P Q (λ ck s l is. subst (λ n. IsRescuedListed view dir (option_map name_of n) slots ck s l) (sym c.in-None.is) (listed_alone view (record { checkpoint = None; dir = c.args.dir; slots = c.args.slots }) ck s l refl is)) (rescue_ending_of answer) new)
    (λ fault. rescued_weaker did old path P Q (λ ck s l is. subst (λ n. IsRescuedListed view dir (option_map name_of n) slots ck s l) (sym c.in-None.is) (listed_alone view (record { checkpoint = None; dir = c.args.dir; slots = c.args.slots }) ck s l refl is)) failing_rescue new)
    c.write_rescued.ensures
