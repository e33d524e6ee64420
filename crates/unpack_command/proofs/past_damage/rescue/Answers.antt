use Rattle.std.proofs.Common.{◌≡◌, ap, false, map, rules, string_bytes, subst, ◌∙◌}
use Rattle.std.specs.Prelude.{List, Option}
use Rattle.std.specs.Option.{option_map}
use Rattle.wal_log.specs.declared.input.Checkpoint.{Checkpoint}
use Rattle.wal_log.specs.declared.input.Segment.{Segment}
use Rattle.wal_log.specs.Plan.{named as name_of}
use Rattle.log_directory.specs.Listings.{IsListing}
use Rattle.log_directory.specs.declared.lost.Lost.{Lost}
use Rattle.unpack_command.specs.Since.{seen_since}
use Rattle.log_directory.specs.Rescued.{AreRescuedIn, IsRescuedLogIn, segment_slots}
use Rattle.unpack_command.specs.Rescues.{failing_rescue, rescue_ending_of}
use Rattle.log_directory.specs.RescueSteps.{IsRescuedListed}
use Rattle.log_directory.specs.Slots.{slot_value}
use Rattle.unpack_command.proofs.Listed.{rescued_weaker, rescues_out}
use Rattle.log_directory.proofs.Results.{match_weaker}
use Rattle.unpack_command.proofs.past_damage.rescue.Goals as goal

pub returns : goal.returns
returns g c =
    let did = g.S.Store.did in
    let holds = g.S.Store.holds in
    let old = c.args.store.now in
    let new = c.rescue_listed.new.store in
    let path = c.in_ok-target.target.path in
    let request = c.args.request.now in
    let view = seen_since did holds old in
    let dir = request.dir.now in
    let names = map string_bytes c.in_ok-names.names.items in
    let newest = option_map name_of c.in_ok-listing.listing.checkpoint in
    let files = map name_of c.in_ok-listing.listing.segments.items in
    let listing = subst (λ ns. IsListing ns newest files) (ap (map string_bytes) c.deref.ensures.value) c.in_ok-listing.ensures in
    let number : c.map-checkpoint.result ≡ option_map (λ n. n.number) newest = search rules in
    let slots : map slot_value c.deref-3.result.now ≡ segment_slots (option_map (λ n. n.number) newest) files =
    ap (map slot_value) c.deref-3.ensures.value ∙ (c.in_ok-slots.ensures ∙ (ap (λ n. segment_slots n (map name_of c.deref-2.result.now)) number ∙ ap (λ fs. segment_slots (option_map (λ n. n.number) newest) (map name_of fs)) c.deref-2.ensures.value)) in
    let P = IsRescuedListed view dir newest (map slot_value c.deref-3.result.now) in
    let Q = IsRescuedLogIn view dir in
    let wider : (ck : Option Checkpoint) (s : List Segment) (l : List Lost) → P ck s l → Q ck s l = λ ck s l is. record {
      names = names;
      listed = c.in_ok-names.ensures;
      newest = newest;
      files = files;
      listing = listing;
      first = is.first;
      later = is.later;
      lost_is = is.lost_is;
      checkpoint_is = is.checkpoint_is;
      segments_are = subst (λ ss. AreRescuedIn view dir false ss s is.later) slots is.segments_are;
    } in
    match_weaker _ _ _ _ c.rescue_listed.result
    (λ answer into. rescues_out did holds old request new path (rescue_ending_of answer) c.in_ok-target.ensures.out (rescued_weaker did old path P Q wider (rescue_ending_of answer) new into))
    (λ fault into. rescues_out did holds old request new path failing_rescue c.in_ok-target.ensures.out (rescued_weaker did old path P Q wider failing_rescue new into))
    c.rescue_listed.ensures
