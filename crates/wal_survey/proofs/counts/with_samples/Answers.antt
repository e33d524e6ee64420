use Rattle.std.proofs.Common.{rules, ◌≡◌, ◌++◌, Some, map, take, w64, to_z, of_z, slice_index_or, pos}
use Rattle.std.proofs.lemmas.Int.{to_z-of_z}
use Rattle.std.proofs.lemmas.List.{take_all}
use Rattle.wal_record.specs.declared.record.SampleEntry.{SampleEntry}
use Rattle.wal_survey.proofs.Ends.{times_on}
use Rattle.wal_survey.proofs.counts.with_samples.Goals as goal

pub loop-sample-preserved : goal.loop-sample-preserved
loop-sample-preserved c = λ times h.
    let none : SampleEntry = record { reference = 0; time = pos 0; value = pos 0 } in
    let sample : SampleEntry = slice_index_or c.args.samples.now c.loop-sample.sample-index none in
    let time : to_z w64 (of_z w64 sample.time) ≡ sample.time = search (rules, to_z-of_z) in
    let so_far = c.loop-sample.invariant times h in
    times_on times c.args.samples.now c.loop-sample.sample-index none (to_z w64 (of_z w64 sample.time)) (Some c.with_time.result) c.loop-sample-test.true time
    (c.with_time.ensures (times ++ map (λ (s : SampleEntry). s.time) (take c.loop-sample.sample-index c.args.samples.now)) so_far)

pub returns : goal.returns
returns c = λ times h.
    let all = take_all c.loop-sample.sample-index c.args.samples.now c.loop-sample-test.false in
    let so_far = c.loop-sample.invariant times h in
    rw all at so_far
