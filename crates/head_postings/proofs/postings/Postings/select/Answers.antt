use Rattle.std.proofs.Common.{rules, ◌≡◌, ℕ, List, subst, sym}
use Rattle.head_postings.specs.Slots.{AreBelow}
use Rattle.head_postings.specs.Postings.{Lists, selected}
use Rattle.head_postings.proofs.Kept.{shown}
use Rattle.head_postings.proofs.Ascending.{below_among}
use Rattle.head_postings.proofs.postings.Postings.select.Goals as goal

pub returns-clause-below : goal.returns-clause-below
returns-clause-below c = λ n b.
    let p = shown c.self.inside.names c.self.inside.all in
    let shown : c.args.self.now ≡ p = search rules in
    let found : c.find.result.now ≡ selected p c.args.name.now c.args.value.now = search rules in
    subst (λ (xs : List ℕ). AreBelow n xs) (sym found)
    (below_among n (selected p c.args.name.now c.args.value.now) p.all (c.self.invariant.among c.args.name.now c.args.value.now) (subst (λ (q : Lists). AreBelow n q.all) shown b))
