use Rattle.std.proofs.Common.{None, Some, ap, map, refl, string_bytes, subst, sym, ◌∙◌}
use Rattle.wal_log.specs.Plan.{named as name_of}
use Rattle.store.specs.Found.{Names}
use Rattle.log_directory.specs.Listings.{AreListed}
use Rattle.unpack_command.specs.declared.rescue_writing.SlotCheckpoint.{SlotCheckpoint}
use Rattle.unpack_command.specs.declared.rescue_writing.SlotLog.{SlotLog}
use Rattle.unpack_command.specs.Since.{seen_since}
use Rattle.log_directory.specs.Rescued.{checkpoint_slots}
use Rattle.log_directory.specs.Slots.{slot_value}
use Rattle.unpack_command.specs.Rescues.{failing_rescue, rescue_ending_of}
use Rattle.unpack_command.proofs.Listed.{listed_with, rescued_weaker}
use Rattle.log_directory.proofs.Results.{match_weaker}
use Rattle.unpack_command.proofs.past_damage.rescue_with_checkpoint.Goals as goal

pub returns : goal.returns
returns g c =
    let did = g.S.Store.did in
    let holds = g.S.Store.holds in
    let old = c.args.store.now in
    let new = c.write_rescued.new.store in
    let path = c.args.target.now.path in
    let names = map string_bytes c.in_ok-names.names.items in
    let files = map name_of c.in_ok-files.files.items in
    let inside : SlotCheckpoint = record { number = c.args.newest.now.number; dir = c.deref-4.result; slots = c.deref-5.result } in
    let log : SlotLog = record { checkpoint = Some inside; dir = c.args.dir; slots = c.args.slots } in
    let listed = subst (λ d. holds old d (Names names)) (c.deref.ensures ∙ sym c.deref-4.ensures) c.in_ok-names.ensures in
    let are = subst (λ ns. AreListed None ns files) (ap (map string_bytes) c.deref-2.ensures.value) c.in_ok-files.ensures in
    let slots = ap (map slot_value) c.deref-5.ensures.value ∙ (c.in_ok-inner.ensures ∙ ap (λ fs. checkpoint_slots (map name_of fs)) c.deref-3.ensures.value) in
    match_weaker _ _ _ _ c.write_rescued.result
    (λ answer into. rescued_weaker did old path _ _ (λ ck s l. listed_with (seen_since did holds old) log ck s l (name_of c.args.newest.now) inside names files refl refl (c.deref-4.ensures ∙ c.in_ok-path.ensures) listed are slots) (rescue_ending_of answer) new into)
    (λ fault into. rescued_weaker did old path _ _ (λ ck s l. listed_with (seen_since did holds old) log ck s l (name_of c.args.newest.now) inside names files refl refl (c.deref-4.ensures ∙ c.in_ok-path.ensures) listed are slots) failing_rescue new into)
    c.write_rescued.ensures
