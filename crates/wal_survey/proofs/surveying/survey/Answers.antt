use Rattle.std.proofs.Common.{[]}
use Rattle.wal_survey.specs.Taking.{SurveyStart}
use Rattle.wal_survey.proofs.Taken.{as_survey, none_taken}
use Rattle.wal_survey.proofs.surveying.survey.Goals as goal

pub returns : goal.returns
returns c =
    let start : SurveyStart = record { in_checkpoint = c.args.in_checkpoint; number = c.args.file.now.number; references = c.args.references } in
    let took = c.in_ok-salvage.ensures start [] (none_taken start c.new.result c.new.ensures) in
    rw c.finish.ensures (
      took.1.placed,
      record {
        events = took.0;
        salvaged = rw c.as_slice.ensures at took.2;
        spelled = took.1.spelled;
        counted = as_survey took.0 took.1.placed c.salvage.new.sink.survey took.1.counted;
        damage = took.1.counted.damage;
        readable = took.1.counted.readable;
      },
      took.1.taken,
    )
