use Rattle.std.proofs.Common.{rules, ◌≡◌, length}
use Rattle.std.specs.List.{filter_map}
use Rattle.wal_survey.specs.Surveys.{sample_entries, times_of}
use Rattle.wal_survey.proofs.Steps.{one_more, samples_more}
use Rattle.wal_survey.proofs.records.Survey.add_samples.Goals as goal

pub returns-clause-counted : goal.returns-clause-counted
returns-clause-counted c = λ records h.
    let count : c.add.new.self ≡ one_more c.args.self.now.samples (length c.args.samples.now) = search rules in
    samples_more records c.args.self.now h c.args.samples.now c.add.new.self c.with_samples-self.result count (c.with_samples-self.ensures (times_of (filter_map sample_entries records)) h.times)
