use Rattle.std.specs.Prelude.{map, string_bytes}
use Rattle.std.specs.Path.{with_separator}
use Rattle.std.proofs.Common.{subst, ◌∙◌}
use Rattle.command_tests.specs.Listings.{AreNamesAt, file_of}
use Rattle.command_tests.proofs.Listings.{names_at}
use Rattle.command_tests.proofs.listing.ListingStore.read_dir.Goals as goal

pub returns : goal.returns
returns c =
    let names = map string_bytes c.in_ok-names_in.field-0.items in
    let files = map file_of c.args.self.now.files.items in
    names_at files c.args.path.now names
    (subst (λ fs. AreNamesAt (map file_of fs) (with_separator c.args.path.now) names) c.deref-2.ensures.value (subst (λ start. AreNamesAt (map file_of c.deref-2.result.now) start names) (c.deref-3.ensures ∙ c.in_ok-start.ensures) c.in_ok-names_in.ensures))
