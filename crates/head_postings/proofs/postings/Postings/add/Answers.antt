use Rattle.std.proofs.Common.{◌++◌, ◌∷◌, [], ap, sym, subst, ◌∙◌}
use Rattle.head_postings.specs.Postings.{Lists}
use Rattle.head_postings.specs.Slots.{AreBelow}
use Rattle.head_postings.proofs.Kept.{shown}
use Rattle.head_postings.proofs.PostingLemmas.{sound_added}
use Rattle.head_postings.proofs.postings.Postings.add.Goals as goal

pub invariant_of-self-2 : goal.invariant_of-self-2
invariant_of-self-2 c =
    let s = c.args.slot in
    let p = shown c.self.inside.names c.self.inside.all in
    let q = shown c.add.new.self c.push_reserved.new.self in
    sound_added p q s c.args.labels.now c.self.invariant (subst (λ z. AreBelow s z) (ap (λ (z : Lists). z.all) (sym c.self.view_is)) c.requires)
    (c.push_reserved.ensures.items ∙ ap (λ z. z ++ s ∷ []) c.reserve.ensures.items) c.in_ok-add.ensures.ok c.in_ok-add.ensures.named
