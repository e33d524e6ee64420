use Rattle.std.specs.Prelude.{bytes_eq, map, string_bytes}
use Rattle.std.specs.List.{list_any}
use Rattle.std.proofs.Common.{◌≡◌, ap, subst, sym, ◌∙◌, ◌++◌, ◌∷◌, []}
use Rattle.new_files.specs.Folders.{FileAt}
use Rattle.command_tests.specs.Listings.{AreNamesAt}
use Rattle.command_tests.proofs.Listings.{any_contains, any_is, name_known, name_new, name_of_none}
use Rattle.command_tests.proofs.listing.add_name.Goals as goal

pub returns-in-Some : goal.returns-in-Some
returns-in-Some c = λ _ files bytes are.
    let name = c.in-Some.name.now in
    let names = c.args.names.now.items in
    let there = any_contains name (map string_bytes names) (sym (any_is string_bytes name names) ∙ ap (list_any (λ other. bytes_eq (string_bytes other) name)) (sym c.deref.ensures.value) ∙ sym c.has_name.ensures ∙ c.if-has_name.true) in
    name_known files (record { path = c.args.path.now; bytes = bytes }) c.args.start.now (map string_bytes names) are name c.in-Some.ensures.1 there

pub returns-in-None : goal.returns-in-None
returns-in-None c = λ _ files bytes are. name_of_none files (record { path = c.args.path.now; bytes = bytes }) c.args.start.now (map string_bytes c.args.names.now.items) are c.in-None.ensures

pub returns-in-Some-2 : goal.returns-in-Some-2
returns-in-Some-2 c = λ ok files bytes are.
    let name = c.in-Some.name.now in
    let names = c.args.names.now.items in
    let none = sym (any_is string_bytes name names) ∙ ap (list_any (λ other. bytes_eq (string_bytes other) name)) (sym c.deref.ensures.value) ∙ sym c.has_name.ensures ∙ c.if-has_name.false in
    let file : FileAt = record { path = c.args.path.now; bytes = bytes } in
    subst (AreNamesAt (files ++ file ∷ []) c.args.start.now) (sym (c.push_name.ensures ok)) (name_new files file c.args.start.now (map string_bytes names) are name c.in-Some.ensures.1 none)
