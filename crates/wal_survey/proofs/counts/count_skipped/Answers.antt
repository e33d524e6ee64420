use Rattle.std.proofs.Common.{rules, ◌≡◌, ◌∙◌, ◌+◌, Bool, Some, None, false, sym, true≢false}
use Rattle.std.specs.Prelude.{nat_eq, position}
use Rattle.std.specs.List.{list_any}
use Rattle.std.specs.Option.{option_eq}
use Rattle.wal_survey.specs.declared.counts.SkippedCount.{SkippedCount}
use Rattle.wal_survey.proofs.Skipped.{met_again, met_first, never_met}
use Rattle.wal_survey.proofs.counts.count_skipped.Goals as goal

pub returns-in_ok-records-in-Some-clause-counted : goal.returns-in_ok-records-in-Some-clause-counted
returns-in_ok-records-in-Some-clause-counted c = λ kinds are.
    let at : position (λ count. option_eq nat_eq count.kind c.args.kind) c.args.skipped.now.items ≡ Some c.in-Some.at = search rules in
    let next : c.in_ok-records-in-Some.records ≡ c.index.result.now.records + 1 = search rules in
    met_again kinds c.args.kind c.args.skipped.now.items c.in-Some.at c.in_ok-records-in-Some.records c.index.result.now are at c.index.ensures next

pub returns-in_ok-push-in-None-clause-counted : goal.returns-in_ok-push-in-None-clause-counted
returns-in_ok-push-in-None-clause-counted c = λ kinds are.
    let at : position (λ count. option_eq nat_eq count.kind c.args.kind) c.args.skipped.now.items ≡ None = search rules in
    c.in_ok-push-in-None.ensures.items ∙ met_first kinds c.args.kind c.args.skipped.now.items are at

pub returns-in_err-push-in-None-clause-few : goal.returns-in_err-push-in-None-clause-few
returns-in_err-push-in-None-clause-few c = λ met small.
    let same : SkippedCount → Bool = λ count. option_eq nat_eq count.kind c.args.kind in
    let at : position same c.args.skipped.now.items ≡ None = search rules in
    let never : list_any same c.args.skipped.now.items ≡ false = never_met same c.args.skipped.now.items at in
    absurd (true≢false (sym met ∙ never))
