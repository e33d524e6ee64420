use Rattle.std.proofs.Common.{◌≡◌, ◌<◌, ◌++◌, ◌∷◌, ◌∙◌, [], List, FitsSigned, ap, arith, length, map, get_or, rules, subst, sym, w64}
use Rattle.std.specs.Prelude.{ℤ}
use Rattle.std.proofs.lemmas.Int.{to_z-of_z}
use Rattle.std.proofs.lemmas.List.{append-nil}
use Rattle.xor_chunk.specs.declared.sample.Sample.{Sample}
use Rattle.head_core.specs.Heads.{history_at}
use Rattle.head_intervals.specs.Intervals.{AreCounts}
use Rattle.head_intervals.specs.Parts.{AreHeadCounts, first_times_in, times_in}
use Rattle.head_intervals.proofs.Parted.{first_is, none_first, with_series}
use Rattle.head_intervals.proofs.counting.HeadCounts.add_series.Goals as goal
use Rattle.head_intervals.proofs.counting.HeadCounts.add_series.Goals.{in-Some+in_ok-add_time, in_default}

pub returns : goal.returns
returns c = λ before are.
    let i = c.args.intervals.now in
    let read : List Sample = c.in_ok-samples.samples.items in
    let h = history_at c.args.head.now.content c.args.slot in
    let all : AreCounts i (times_in before ++ map (λ (s : Sample). s.time) read) c.add_samples.new.counts.items =
    subst (λ (ss : List Sample). AreCounts i (times_in before ++ map (λ (s : Sample). s.time) ss) c.add_samples.new.counts.items) c.deref.ensures.value (c.in_ok-add_samples.ensures (times_in before) are.samples) in
    elim c.match-first.branch [
      | in-Some+in_ok-add_time w ↦ (
          let s : Sample = w.in-Some.first.now in
          let fits : FitsSigned w64 s.time = search rules in
          let item = w.in-Some.ensures.item in
          let some : 0 < length read = omega (arith, item.3.0, ap length c.deref-2.ensures.value) in
          let is : s ≡ get_or read 0 s = item.1 ∙ ap (λ (ss : List Sample). get_or ss 0 s) c.deref-2.ensures.value in
          let firsts = sym (ap (λ (t : ℤ). t ∷ []) (to_z-of_z w64 s.time fits) ∙ sym (first_is read s some is)) in
          let series = subst (λ (ts : List ℤ). AreCounts i (first_times_in before ++ ts) w.add_time.new.counts.items) (sym firsts) (w.in_ok-add_time.ensures (first_times_in before) are.series) in
          subst (AreHeadCounts i (before ++ h ∷ [])) (sym w.self-is)
          (with_series i before h read (record { samples = c.add_samples.new.counts; series = w.add_time.new.counts }) c.in_ok-samples.ensures.samples all series)
          )
      | in_default w ↦ (
          let none : length read ≡ 0 = omega (arith, w.in_default.ensures.item.3, ap length c.deref-2.ensures.value) in
          let series = subst (λ (ts : List ℤ). AreCounts i ts c.args.self.now.series.items) (sym (ap (λ (ts : List ℤ). first_times_in before ++ ts) (none_first read none) ∙ append-nil (first_times_in before))) are.series in
          subst (AreHeadCounts i (before ++ h ∷ [])) (sym w.self-is)
          (with_series i before h read (record { samples = c.add_samples.new.counts; series = c.args.self.now.series }) c.in_ok-samples.ensures.samples all series)
          )
    ]
