use Rattle.std.proofs.Common.{map, take}
use Rattle.head_live.specs.Keys.{labels_of_keys}
use Rattle.head_live.specs.Sets.{sets_in, with_set}
use Rattle.head_live.specs.Verdicts.{accepted}
use Rattle.head_live.specs.Judged.{AreStarts, Judges, known_in}
use Rattle.head_live.proofs.judging.judge.Given as goal

abbrev pub invariant-loop-row : goal.invariant-loop-row
invariant-loop-row l = record {
  starts : AreStarts l.head.content (sets_in (labels_of_keys l.sets) l.numbers) l.initial.standings.items;
  judges : Judges l.head.content (sets_in (labels_of_keys l.sets) l.numbers) (known_in (sets_in (labels_of_keys l.sets) l.numbers) l.initial.standings.items)
      (map (with_set (sets_in (labels_of_keys l.sets) l.numbers)) (take l.row-index l.row-items))
      (accepted l.head.content (map (with_set (sets_in (labels_of_keys l.sets) l.numbers)) (take l.row-index l.row-items)))
      l.standings.items l.next l.judged.verdicts.items l.judged.series.items l.judged.samples.items;
}
