use Rattle.std.proofs.Common.{ap, sym, ◌∙◌, take}
use Rattle.std.proofs.lemmas.List.{take-map}
use Rattle.head_live.specs.Keys.{labels_of_keys}
use Rattle.head_live.specs.Sets.{set_in, sets_in}
use Rattle.head_live.proofs.prepared.Prepared.forget.Goals as goal

pub returns-clause-sets : goal.returns-clause-sets
returns-clause-sets c =
    let all = labels_of_keys c.self.inside.sets.keys in
    ap (sets_in all) c.truncate.ensures.items ∙ sym (take-map (set_in all) c.args.count c.self.inside.places.items) ∙ ap (λ v. take c.args.count v.sets) c.self.view_is
