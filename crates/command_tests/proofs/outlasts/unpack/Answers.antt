use Rattle.std.specs.Prelude.{map}
use Rattle.std.proofs.Common.{◌≡◌, ap, sym}
use Rattle.unpack_command.specs.Folders.{ending_of}
use Rattle.unpack_command.specs.Rescues.{rescue_ending_of}
use Rattle.command_tests.specs.Listings.{file_of}
use Rattle.command_tests.specs.Noted.{calls_of}
use Rattle.command_tests.specs.Outlasts.{RescueOutlasts, UnpackOutlasts}
use Rattle.command_tests.proofs.Commands.{left_so, rescue_lasts, unpack_lasts}
use Rattle.command_tests.proofs.outlasts.unpack.Goals as goal

pub returns-clause-up_to_damage : goal.returns-clause-up_to_damage
returns-clause-up_to_damage c = λ off.
    let old = c.listing_of-store.result in
    let new = c.carry_out_unpack-answer.new.store in
    let through = c.args.request.through_damage in
    let lasts = unpack_lasts old new ⊥ c.listing_of-store.ensures.calls c.listing_of-store.ensures.renamed c.args.request (ending_of through c.carry_out_unpack-answer.result) (c.carry_out_unpack-answer.ensures.unpacks off) in
    left_so (λ files calls later answer. UnpackOutlasts c.args.request files calls later (ending_of through answer)) _ _ _ _ _ _ _ _
    (ap (λ files. map file_of files.items) c.listing_of-store.ensures.files) (sym (ap (λ calls. calls_of calls.items) c.left_by.ensures.calls)) (sym (ap (λ files. map file_of files.items) c.left_by.ensures.files))
    (sym c.left_by.ensures.answer) lasts

pub returns-clause-past_damage : goal.returns-clause-past_damage
returns-clause-past_damage c = λ on.
    let old = c.listing_of-store.result in
    let new = c.carry_out_unpack-answer.new.store in
    let lasts = rescue_lasts old new ⊥ c.listing_of-store.ensures.calls c.listing_of-store.ensures.renamed c.args.request (rescue_ending_of c.carry_out_unpack-answer.result) (c.carry_out_unpack-answer.ensures.rescues on) in
    left_so (λ files calls later answer. RescueOutlasts c.args.request files calls later (rescue_ending_of answer)) _ _ _ _ _ _ _ _
    (ap (λ files. map file_of files.items) c.listing_of-store.ensures.files) (sym (ap (λ calls. calls_of calls.items) c.left_by.ensures.calls)) (sym (ap (λ files. map file_of files.items) c.left_by.ensures.files))
    (sym c.left_by.ensures.answer) lasts
