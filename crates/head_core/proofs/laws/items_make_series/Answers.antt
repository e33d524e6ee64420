use Rattle.std.proofs.Common.{None, Option, ℤ, ap, length, ◌∙◌}
use Rattle.head_column.specs.Histories.{history_after, history_of, history_outcome, no_history}
use Rattle.head_column.specs.Tallies.{latest_after, latest_outcome}
use Rattle.head_core.proofs.AppliedOutcomes.{counted}
use Rattle.head_column.specs.Kept.{KeptValue, kept_after, kept_of, kept_outcome}
use Rattle.head_series.specs.Bindings.{series_of}
use Rattle.head_resolver.specs.Owners.{bindings}
use Rattle.head_resolver.specs.Resolved.{resolved}
use Rattle.head_core.proofs.AppliedValues.{histories_are, latest_is}
use Rattle.head_core.proofs.Projected.{kept_is, seen_values}
use Rattle.head_core.proofs.laws.items_make_series.Goals as goal

pub returns-clause-histories : goal.returns-clause-histories
returns-clause-histories c = histories_are c.columns_follow_items.ensures.made

pub returns-clause-outcomes : goal.returns-clause-outcomes
returns-clause-outcomes c =
    counted history_after history_outcome no_history
    (λ items i. c.columns_follow_items.ensures.outcome items (history_of items) i (c.columns_follow_items.ensures.made items))

pub returns-clause-tallied : goal.returns-clause-tallied
returns-clause-tallied c =
    counted latest_after latest_outcome None
    (λ items i. ap (λ (l : Option ℤ). latest_outcome l i) (latest_is c.tallies_follow_items.ensures.start c.tallies_follow_items.ensures.push items) ∙ c.tallies_follow_items.ensures.outcome items i)

pub returns-clause-kept : goal.returns-clause-kept
returns-clause-kept c = λ times es. seen_values (kept_of times) history_after kept_after (c.kept_follow_histories.ensures.after times) (length (series_of (bindings es))) no_history (resolved es)

pub returns-clause-counted : goal.returns-clause-counted
returns-clause-counted c = λ times.
    counted kept_after kept_outcome (kept_of times no_history)
    (λ items i.
    ap (λ (k : KeptValue). kept_outcome k i) (kept_is times (c.kept_follow_histories.ensures.after times) items)
    ∙ c.kept_follow_histories.ensures.outcome times (history_of items) i
    ∙ c.columns_follow_items.ensures.outcome items (history_of items) i (c.columns_follow_items.ensures.made items))
