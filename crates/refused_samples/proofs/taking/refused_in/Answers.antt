use Rattle.std.proofs.Common.{◌∙◌, [], w64}
use Rattle.std.proofs.lemmas.Int.{to_z-of_z}
use Rattle.refused_samples.proofs.Replayed.{took_none}
use Rattle.refused_samples.proofs.taking.refused_in.Goals as goal

pub returns : goal.returns
returns g c =
    let (placed, takes, reading) = c.in_ok-take_records_in.ensures.taken in
    let first = c.in_ok-replaying.replaying in
    let fresh = c.in_ok-replaying.ensures c.args.min_valid c.from_time-head.ensures.content (c.from_time-head.ensures.time ∙ to_z-of_z w64 c.args.min_valid c.ranges.min_valid) in
    let all = takes first [] (took_none first) c.args.intervals.now c.args.min_valid [] fresh in
    record {
      told = c.in_ok-take_records_in.field-0;
      placed = placed;
      reading = reading;
      counts = record { stale = all.counted.stale; unknown = all.counted.unknown };
    }
