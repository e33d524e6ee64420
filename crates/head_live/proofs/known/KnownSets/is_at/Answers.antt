use Rattle.std.proofs.Common.{refl, ◌≡◌, ◌<◌, Some, length, ap, sym, ◌∙◌, rules}
use Rattle.std.specs.Prelude.{slice_get}
use Rattle.std.specs.Option.{option_and_then, option_map}
use Rattle.std.proofs.lemmas.Option.{slice_get_read}
use Rattle.head_live.proofs.SetLemmas.{same_exact}
use Rattle.head_live.proofs.known.KnownSets.is_at.Goals as goal

pub returns-in-Some : goal.returns-in-Some
returns-in-Some c = λ yes.
    let sets = c.args.self.now.sets in
    let within : c.args.slot < length sets.items = search rules in
    let found : slice_get sets.items c.args.slot ≡ Some c.index.result.now = slice_get_read sets.items _ c.args.slot c.index.result.now refl within c.index.ensures in
    let same = same_exact c.deref.result.now c.args.labels.now (sym c.eq.ensures ∙ yes) in
    ap (option_and_then (option_map (λ a. a.value))) (found ∙ ap Some c.in-Some.is) ∙ ap Some (sym c.deref.ensures ∙ same)
