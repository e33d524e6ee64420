use Rattle.std.proofs.Common.{subst}
use Rattle.head_postings.specs.Postings.{AreMerged}
use Rattle.head_postings.specs.Slots.{IsUnion}
use Rattle.head_postings.proofs.Kept.{shown}
use Rattle.head_postings.proofs.PostingLemmas.{postings_merged, sound_merged}
use Rattle.head_postings.proofs.postings.Postings.merge.Goals as goal

pub returns-clause-postings : goal.returns-clause-postings
returns-clause-postings c xs ys zs g h m =
    let p = shown c.self.inside.names c.self.inside.all in
    let q = shown c.other.inside.names c.other.inside.all in
    let r = shown c.merge.new.self c.in_ok-all.all in
    let merged : AreMerged p q r = record {
      every = subst (λ z. IsUnion z q.all r.all) c.deref.ensures.value (subst (λ z. IsUnion c.deref.result.now z r.all) c.deref-2.ensures.value c.in_ok-all.ensures);
      each = c.in_ok-merge.ensures;
    } in
    postings_merged xs ys zs c.args.self c.args.other r g h m (subst (λ z. AreMerged z c.args.other r) c.self.view_is (subst (λ z. AreMerged p z r) c.other.view_is merged))

pub invariant_of-result : goal.invariant_of-result
invariant_of-result c =
    let p = shown c.self.inside.names c.self.inside.all in
    let q = shown c.other.inside.names c.other.inside.all in
    let r = shown c.merge.new.self c.in_ok-all.all in
    sound_merged p q r c.self.invariant c.other.invariant (record {
      every = subst (λ z. IsUnion z q.all r.all) c.deref.ensures.value (subst (λ z. IsUnion c.deref.result.now z r.all) c.deref-2.ensures.value c.in_ok-all.ensures);
      each = c.in_ok-merge.ensures;
    })
