use Rattle.std.proofs.Common.{ap, sym, subst}
use Rattle.head_postings.specs.Postings.{Lists}
use Rattle.head_postings.specs.Slots.{AreBelow}
use Rattle.head_postings.proofs.Kept.{shown}
use Rattle.head_postings.proofs.PostingLemmas.{sound_added}
use Rattle.head_postings.proofs.postings.Postings.add_ready.Goals as goal

pub invariant_of-self : goal.invariant_of-self
invariant_of-self c =
    let s = c.args.slot in
    let p = shown c.self.inside.names c.self.inside.all in
    let q = shown c.add_ready.new.self c.push_reserved.new.self in
    sound_added p q s c.args.labels.now c.self.invariant (subst (λ z. AreBelow s z) (ap (λ (z : Lists). z.all) (sym c.self.view_is)) c.requires.below)
    c.push_reserved.ensures.items c.add_ready.ensures.slots c.add_ready.ensures.named
