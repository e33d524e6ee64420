use Rattle.std.proofs.Common.{FitsSigned, of_z, rules, subst, to_z, w64}
use Rattle.std.proofs.lemmas.Int.{to_z-of_z}
use Rattle.wal_record.specs.declared.record.WalRecord.{WalRecord}
use Rattle.head_resolver.specs.Taken.{taken_after}
use Rattle.head_core.specs.Content.{IsContentOf}
use Rattle.head_intervals.specs.declared.intervals.Intervals.{Intervals}
use Rattle.head_intervals.specs.Intervals.{AreCounts}
use Rattle.refused_samples.specs.Replaying.{with_grown}
use Rattle.refused_samples.proofs.Replayed.{sample_counted}
use Rattle.refused_samples.proofs.replaying.Replaying.take_one.Goals as goal

pub returns : goal.returns
returns c = λ i m es before.
    let s = c.args.sample in
    let old = c.args.self.now.head.content in
    let new = c.apply.new.head.content in
    let a = c.counts-before.result in
    let b = c.counts-after.result in
    let t = to_z w64 (of_z w64 s.time) in
    let fits : FitsSigned w64 s.time = search rules in
    let content = subst (λ (r : WalRecord). IsContentOf (taken_after old.min_valid before.counted.taken r) new) c.in_ok-one.ensures (c.in_ok-apply.ensures.content before.counted.taken before.counted.content) in
    record {
      same = before.same;
      counted = sample_counted i m es old new c.args.self.now.counts before.counted c.in_ok-apply.ensures.time s content a b c.counts-before.ensures c.counts-after.ensures t (to_z-of_z w64 s.time fits)
          (record { stale = c.add_grown.new.counts; unknown = c.add_grown-2.new.counts })
          (λ times. subst (λ (j : Intervals). AreCounts j times c.args.self.now.counts.stale.items → AreCounts j (with_grown a.stale b.stale t times) c.add_grown.new.counts.items) before.same (c.in_ok-add_grown.ensures times))
          (λ times. subst (λ (j : Intervals). AreCounts j times c.args.self.now.counts.unknown.items → AreCounts j (with_grown a.unknown b.unknown t times) c.add_grown-2.new.counts.items) before.same (c.in_ok-add_grown-2.ensures times));
    }
