use Rattle.std.proofs.Common.{◌++◌, ◌∷◌, ◌∙◌, ◌<◌, [], List, FitsSigned, ap, append_assoc, arith, get_or, length, map, of_z, pos, rules, subst, sym, take, to_z, w64}
use Rattle.std.specs.Prelude.{ℤ}
use Rattle.std.proofs.lemmas.Int.{to_z-of_z}
use Rattle.std.proofs.lemmas.List.{map_more, take_all}
use Rattle.xor_chunk.specs.declared.sample.Sample.{Sample}
use Rattle.head_intervals.specs.Intervals.{AreCounts}
use Rattle.head_intervals.proofs.counts.add_samples.Goals as goal

pub loop-sample-preserved : goal.loop-sample-preserved
loop-sample-preserved c = λ times are.
    let n = c.loop-sample.sample-index in
    let samples : List Sample = c.args.samples.now in
    let none : Sample = record { time = pos 0; value = pos 0 } in
    let front : List ℤ = map (λ (s : Sample). s.time) (take n samples) in
    let fits : FitsSigned w64 (get_or samples n none).time = search rules in
    let now : AreCounts c.args.intervals.now ((times ++ front) ++ to_z w64 (of_z w64 (get_or samples n none).time) ∷ []) c.add_time.new.counts.items = c.in_ok-add_time.ensures (times ++ front) (c.loop-sample.invariant times are) in
    let within : n < length samples = c.loop-sample-test.true in
    let next = ap (λ (t : ℤ). (times ++ front) ++ t ∷ []) (to_z-of_z w64 (get_or samples n none).time fits) ∙ append_assoc times front ((get_or samples n none).time ∷ []) ∙ ap (λ (ts : List ℤ). times ++ ts) (sym (map_more (λ (s : Sample). s.time) samples n none within)) in
    subst (λ (ts : List ℤ). AreCounts c.args.intervals.now ts c.add_time.new.counts.items) next now

pub returns : goal.returns
returns c = λ times are.
    subst (λ (ss : List Sample). AreCounts c.args.intervals.now (times ++ map (λ (s : Sample). s.time) ss) c.loop-sample.counts.items) (take_all c.loop-sample.sample-index c.args.samples.now (omega arith)) (c.loop-sample.invariant times are)
