use Rattle.std.proofs.Common.{ap, sym, ◌∙◌}
use Rattle.head_column.specs.Tallies.{latest_after, latest_outcome}
use Rattle.head_column.proofs.TallyLaws.{latest_of-push, latest_outcome_is}
use Rattle.head_column.proofs.tally.TallyBuilder.apply.Goals as goal

pub returns-clause-items : goal.returns-clause-items
returns-clause-items c items is =
    c.apply_item.ensures.changed ∙ ap (λ l. latest_after l c.args.item.now) is ∙ sym (latest_of-push items c.args.item.now)

pub returns-clause-verdict : goal.returns-clause-verdict
returns-clause-verdict c items is =
    c.apply_item.ensures.told ∙ ap (λ l. latest_outcome l c.args.item.now) is ∙ latest_outcome_is items c.args.item.now
