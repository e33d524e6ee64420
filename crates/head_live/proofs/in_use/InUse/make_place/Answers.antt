use Rattle.std.proofs.Common.{ap, ◌∙◌, arith, length, length-append, [], ◌∷◌}
use Rattle.std.specs.Prelude.{slice_get}
use Rattle.head_live.proofs.InUseLemmas.{got_more}
use Rattle.head_live.proofs.in_use.InUse.make_place.Goals as goal

pub loop-self-preserved : goal.loop-self-preserved
loop-self-preserved c = record {
  numbers = c.loop-self.invariant.numbers;
  longer = omega (arith, c.loop-self.invariant.longer, ap length c.in_ok-push.ensures.items, length-append c.loop-self.self-inside.indices.items (0 ∷ []));
  indexed = λ i n h. ap (λ xs. slice_get xs n) c.in_ok-push.ensures.items ∙ got_more c.loop-self.self-inside.indices.items _ i n (c.loop-self.invariant.indexed i n h);
}
