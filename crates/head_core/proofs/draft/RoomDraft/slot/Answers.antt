use Rattle.std.proofs.Common.{Some, nat_eq, ap, sym, ◌∙◌}
use Rattle.std.specs.Map.{lookup}
use Rattle.head_core.specs.Draft.{Drafted}
use Rattle.head_core.proofs.draft.RoomDraft.slot.Goals as goal

pub returns-in-Some-clause-within : goal.returns-in-Some-clause-within
returns-in-Some-clause-within c = λ n l within.
    within c.args.reference c.new.result (sym (c.in-Some.ensures.value ∙ ap (λ (d : Drafted). lookup (nat_eq c.args.reference) d.slots) c.self.view_is) ∙ ap Some (sym c.new.ensures))
