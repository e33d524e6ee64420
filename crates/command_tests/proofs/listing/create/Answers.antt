use Rattle.std.specs.Prelude.{None, false, map}
use Rattle.std.proofs.Common.{◌≡◌, ◌++◌, ◌∷◌, [], ap, subst, sym, ◌∙◌}
use Rattle.store.specs.Calls.{Call, Called}
use Rattle.command_tests.specs.Listings.{Did, MayBe, file_of, relisted, renames, standing_in}
use Rattle.command_tests.proofs.Listings.{created, none_found}
use Rattle.command_tests.proofs.listing.create.Goals as goal

pub returns : goal.returns
returns c =
    let files = map file_of c.args.store.now.files.items in
    let later = map file_of c.in_ok-files.files.items in
    created c.args.is_dir files later c.args.store.now.is_renamed c.args.path.now (λ (call : Call). Called Did c.args.store.now call c.put.result c.put.new.store)
    (subst (λ fs. standing_in (map file_of fs) c.args.path.now ≡ None) c.deref.ensures.value (none_found c.deref.result.now c.args.path.now c.found.result c.found.ensures (sym c.is_some.ensures ∙ c.if-is_some.false))) c.if-store.false
    (c.in_ok-files.ensures ∙ ap (λ fs. map file_of fs ++ record { path = c.args.path.now; bytes = [] } ∷ []) c.deref-2.ensures.value)
    (subst (λ (call : Call). MayBe files c.args.store.now.is_renamed call → later ≡ relisted files call → false ≡ renames c.args.store.now.is_renamed call → Called Did c.args.store.now call c.put.result c.put.new.store) c.in_ok-call.ensures c.put.ensures)
