use Rattle.std.specs.Prelude.{Some, OnOk, Result, Ok, Err, map}
use Rattle.std.specs.Option.{option_map}
use Rattle.std.proofs.Common.{◌≡◌, ◌<◌, ◌++◌, ℕ, List, ap, length, subst, sym, ◌∙◌}
use Rattle.command_tests.specs.Listings.{file_of, standing_in}
use Rattle.command_tests.proofs.Listings.{standing_found}
use Rattle.command_tests.proofs.listing.ListingPartStore.read_next.Goals as goal

on_ok_more : {A E : Type 0} (r : Result A E) (P Q : Type 0) → (P → Q) → OnOk r P → OnOk r Q
on_ok_more (Ok x) P Q f p = f p
on_ok_more (Err e) P Q f p = tt

pub returns-in-Some-clause-end : goal.returns-in-Some-clause-end
returns-in-Some-clause-end c = λ path before is.
    let bytes : List ℕ = c.read_on.new.bytes.items in
    let at : c.deref-2.result.now ≡ path = c.deref-2.ensures ∙ is.0 in
    on_ok_more c.read_on.result _ _
    (λ (whole : length bytes < c.args.most → c.deref-in-Some.result.now ≡ c.args.reader.now.given.items ++ bytes) (few : length bytes < c.args.most).
    subst (λ files. standing_in (map file_of files) path ≡ Some (before ++ bytes)) c.deref.ensures.value
    (subst (λ p. standing_in (map file_of c.deref.result.now) p ≡ Some (before ++ bytes)) at
    (standing_found c.deref.result.now c.deref-2.result.now c.found.result c.found.ensures ∙ ap (option_map (λ file. file.now.bytes.items)) c.in-Some.is
    ∙ ap Some (sym c.deref-in-Some.ensures.value ∙ whole few ∙ ap (λ (l : List ℕ). l ++ bytes) is.1))))
    c.read_on.ensures.end
