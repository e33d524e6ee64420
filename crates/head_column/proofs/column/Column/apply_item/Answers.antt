use Rattle.std.proofs.Common.{◌≡◌, All, List, arith, false, sym, subst}
use Rattle.std.proofs.lemmas.List.Elements.{All-push}
use Rattle.std.proofs.lemmas.Int.{ints, to_z-of_z}
use Rattle.xor_chunk.specs.declared.sample.Sample.{Sample}
use Rattle.head_column.specs.Chunks.{IsFit}
use Rattle.head_column.specs.Histories.{has_reached}
use Rattle.head_column.specs.Runs.{AreApart}
use Rattle.head_column.specs.Samples.{Rises}
use Rattle.head_column.proofs.Merged.{AreApart-with_run}
use Rattle.head_column.proofs.Rising.{Rises-push}
use Rattle.head_column.proofs.column.Column.apply_item.Goals as goal

pub invariant_of-self-in-Stone : goal.invariant_of-self-in-Stone
invariant_of-self-in-Stone c = (
  c.self.invariant.0,
  subst AreApart (sym c.in_ok-merge-in-Stone.ensures.merged) (AreApart-with_run _ _ c.self.invariant.1 (record { some = omega (arith, ints) })),
  c.self.invariant.2,
)

pub invariant_of-self-in-Sample : goal.invariant_of-self-in-Sample
invariant_of-self-in-Sample c =
    let samples : List Sample = c.self.inside.samples.samples in
    let s : Sample = c.fit_copy.result in
    let new : has_reached samples s.time ≡ false = grind (arith, to_z-of_z, c.if-has_reached.ensures) in (
      subst Rises (sym c.in_ok-push-in-Sample.ensures.pushed) (Rises-push samples s c.self.invariant.0 new),
      c.self.invariant.1,
      subst (All IsFit) (sym c.in_ok-push-in-Sample.ensures.pushed) (All-push IsFit samples s c.self.invariant.2 c.fit_copy.ensures.fit),
    )

pub push-requires-clause-rises : goal.push-requires-clause-rises
push-requires-clause-rises c =
    let samples : List Sample = c.self.inside.samples.samples in
    let s : Sample = c.fit_copy.result in
    let new : has_reached samples s.time ≡ false = grind (arith, to_z-of_z, c.if-has_reached.ensures) in
    Rises-push samples s c.self.invariant.0 new
