use Rattle.std.proofs.Common.{◌∙◌, ap}
use Rattle.std.proofs.lemmas.Result.{on_ok_weaker}
use Rattle.std.specs.List.{filter_map}
use Rattle.wal_survey.specs.Surveys.{other_kind}
use Rattle.wal_survey.proofs.Steps.{one_more, series_more, skipped_more, stones_more}
use Rattle.wal_survey.proofs.records.Survey.add.Goals as goal

pub returns-in-Series-clause-counted : goal.returns-in-Series-clause-counted
returns-in-Series-clause-counted c = λ records h.
    let made = on_ok_weaker c.add.result (λ count. series_more records c.args.self.now h c.in-Series.entries c.add.new.self (count ∙ ap (λ n. one_more c.args.self.now.series n) c.len.ensures)) c.add.ensures.counted in
    rw c.in-Series.is made

pub returns-in-Stones-clause-counted : goal.returns-in-Stones-clause-counted
returns-in-Stones-clause-counted c = λ records h.
    let made = on_ok_weaker c.add-in-Stones.result (λ count. stones_more records c.args.self.now h c.in-Stones.entries c.add-in-Stones.new.self (count ∙ ap (λ n. one_more c.args.self.now.stones n) c.len-in-Stones.ensures)) c.add-in-Stones.ensures.counted in
    rw c.in-Stones.is made

pub returns-in-Other-clause-counted : goal.returns-in-Other-clause-counted
returns-in-Other-clause-counted c = λ records h.
    let made = on_ok_weaker c.count_skipped.result (λ counts. skipped_more records c.args.self.now h c.in-Other.kind c.count_skipped.new.skipped counts) (c.count_skipped.ensures.counted (filter_map other_kind records) h.skipped) in
    rw c.in-Other.is made
