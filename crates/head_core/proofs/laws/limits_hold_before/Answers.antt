use Rattle.std.proofs.Common.{arith}
use Rattle.head_core.proofs.Whole.{limits_front}
use Rattle.head_core.proofs.laws.limits_hold_before.Goals as goal

pub returns-clause-front : goal.returns-clause-front
returns-clause-front c = limits_front

pub returns-clause-resolvable : goal.returns-clause-resolvable
returns-clause-resolvable c = λ rs w. record {
  series = w.series;
  texts = w.texts;
  counts = record {
    series_records = w.counts.series_records;
    sample_records = w.counts.sample_records;
    stone_records = w.counts.stone_records;
    skipped_records = w.counts.skipped_records;
    series_entries = w.counts.series_entries;
    accepted = omega arith;
    stale = omega arith;
    unknown = w.counts.unknown;
    hiding = omega arith;
    empty_stones = omega arith;
    unknown_stones = w.counts.unknown_stones;
    expired_samples = w.counts.expired_samples;
    expired_stones = w.counts.expired_stones;
  };
}
