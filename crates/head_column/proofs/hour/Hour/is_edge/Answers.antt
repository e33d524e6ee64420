use Rattle.std.proofs.Common.{◌≡◌, inl, inr, arith}
use Rattle.std.specs.Prelude.{negsuc}
use Rattle.std.proofs.lemmas.Bool.{eq-eqb, eqb-true}
use Rattle.std.proofs.lemmas.Int.{ints}
use Rattle.head_column.proofs.HourLaws.{between, is_first, is_last, edge_is}
use Rattle.head_column.proofs.hour.Hour.is_edge.Goals as goal

pub returns-then-k : goal.returns-then-k
returns-then-k c =
    let b = between c.args.self c.k-k.ensures.held in
    let first : c.args.self ≡ negsuc 2562047788015 = omega (arith, ints, b.from, b.to, c.k-k.ensures.number, c.if-k.true) in
    (λ _. is_first c.args.self first, λ _. eq-eqb _ _ c.if-k.true)

pub returns-else-k : goal.returns-else-k
returns-else-k c =
    let b = between c.args.self c.k-k.ensures.held in (
      λ h. (let is = eqb-true _ _ h in is_last c.args.self (omega (arith, ints, b.from, b.to, c.k-k.ensures.number, is))),
      λ e. elim (edge_is c.args.self b e) [
        | inl first ↦ absurd (c.if-k.false (omega (arith, ints, c.k-k.ensures.number, first)))
        | inr last ↦ eq-eqb _ _ (omega (arith, ints, c.k-k.ensures.number, last))
      ],
    )
