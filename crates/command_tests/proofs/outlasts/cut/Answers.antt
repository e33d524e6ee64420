use Rattle.std.specs.Prelude.{map}
use Rattle.std.proofs.Common.{◌≡◌, ap, sym}
use Rattle.answers.specs.declared.fault.Status.TheVariants.{Done}
use Rattle.command_tests.specs.Listings.{file_of}
use Rattle.command_tests.specs.Noted.{calls_of}
use Rattle.command_tests.specs.Outlasts.{CutOutlasts}
use Rattle.command_tests.proofs.Commands.{cut_lasts, left_so}
use Rattle.command_tests.proofs.outlasts.cut.Goals as goal

pub returns : goal.returns
returns g c =
    let old = c.listing_of-store.result in
    let new = c.carry_out_block-answer.new.store in
    let lasts = cut_lasts old new (c.carry_out_block-answer.result.status ≡ Done) c.listing_of-store.ensures.calls c.listing_of-store.ensures.renamed c.args.request c.carry_out_block-answer.ensures.crash in
    left_so (λ files calls later status. CutOutlasts c.args.request files calls later (status ≡ Done)) _ _ _ _ _ _ _ _
    (ap (λ files. map file_of files.items) c.listing_of-store.ensures.files) (sym (ap (λ calls. calls_of calls.items) c.left_by.ensures.calls)) (sym (ap (λ files. map file_of files.items) c.left_by.ensures.files))
    (sym (ap (λ answer. answer.status) c.left_by.ensures.answer)) lasts
