use Rattle.std.specs.Prelude.{Some, None, map}
use Rattle.std.specs.Option.{option_map}
use Rattle.std.proofs.Common.{◌≡◌, ap, subst, sym, ◌∙◌}
use Rattle.command_tests.specs.Listings.{file_of, standing_in}
use Rattle.command_tests.proofs.Listings.{standing_found}
use Rattle.command_tests.proofs.listing.ListingStore.read.Goals as goal

pub returns-in_ok-copied-in-Some : goal.returns-in_ok-copied-in-Some
returns-in_ok-copied-in-Some c =
    subst (λ files. standing_in (map file_of files) c.args.path.now ≡ Some c.in_ok-copied-in-Some.field-0.items) c.deref.ensures.value
    (standing_found c.deref.result.now c.args.path.now c.found.result c.found.ensures ∙ ap (option_map (λ file. file.now.bytes.items)) c.in-Some.is ∙ ap Some (sym (c.in_ok-copied-in-Some.ensures ∙ c.deref-in-Some.ensures.value)))
