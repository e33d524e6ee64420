use Rattle.std.proofs.Common.{◌≡◌, ◌+◌, ◌<◌, [], ◌∷◌, ◌++◌, Some, ap, sym, subst, ◌∙◌, arith, length, length-append}
use Rattle.std.specs.Prelude.{◌==◌, if◌then◌else◌}
use Rattle.series_references.specs.ReferenceSlots.{slot_of}
use Rattle.series_references.specs.Slots.{IsWith}
use Rattle.series_references.proofs.KeptLemmas.{AreKeptBut, last_settled, none_loose, pushed}
use Rattle.series_references.proofs.references.References.push.Goals as goal

pub invariant_of-self : goal.invariant_of-self
invariant_of-self c =
    let ks = c.self.inside.candidates.items in
    let o = slot_of c.self.inside.slots in
    let p = slot_of c.set.new.self in
    let at : c.next_slot-series.result ≡ length ks = c.next_slot-series.ensures ∙ sym (ap (λ s. s.series) c.self.view_is) in
    let with : IsWith o c.args.reference (length ks) p = (λ q. c.set.ensures.with q ∙ ap (λ n. if c.args.reference == q then Some n else o q) at) in
    let grown : c.push_reserved.new.self.items ≡ ks ++ (c.args.reference ∷ []) ∷ [] = c.push_reserved.ensures.items ∙ ap (λ k. ks ++ k ∷ []) c.new.ensures in
    let kept : AreKeptBut (λ t. o c.args.reference ≡ Some t) p c.push_reserved.new.self.items =
    subst (AreKeptBut (λ t. o c.args.reference ≡ Some t) p) (sym grown) (pushed o p ks c.args.reference c.self.invariant with) in
    let was : o c.args.reference ≡ Some c.in-Some.old = sym c.find-old.ensures ∙ c.in-Some.is in
    let below : c.in-Some.old < length ks = c.self.invariant.within c.args.reference c.in-Some.old was in
    let long : length (ks ++ (c.args.reference ∷ []) ∷ []) ≡ length ks + 1 = length-append ks ((c.args.reference ∷ []) ∷ []) in
    let longer = ap length grown in
    last_settled o p c.push_reserved.new.self.items c.args.reference c.in-Some.old c.index_mut.result.now c.settle.new.self kept was (omega (arith, below, long, longer)) c.index_mut.ensures.value c.settle.ensures.kept c.settle.ensures.first

pub invariant_of-self-in-None : goal.invariant_of-self-in-None
invariant_of-self-in-None c =
    let ks = c.self.inside.candidates.items in
    let o = slot_of c.self.inside.slots in
    let p = slot_of c.set.new.self in
    let at : c.next_slot-series.result ≡ length ks = c.next_slot-series.ensures ∙ sym (ap (λ s. s.series) c.self.view_is) in
    let with : IsWith o c.args.reference (length ks) p = (λ q. c.set.ensures.with q ∙ ap (λ n. if c.args.reference == q then Some n else o q) at) in
    let grown : c.push_reserved.new.self.items ≡ ks ++ (c.args.reference ∷ []) ∷ [] = c.push_reserved.ensures.items ∙ ap (λ k. ks ++ k ∷ []) c.new.ensures in
    let kept : AreKeptBut (λ t. o c.args.reference ≡ Some t) p c.push_reserved.new.self.items =
    subst (AreKeptBut (λ t. o c.args.reference ≡ Some t) p) (sym grown) (pushed o p ks c.args.reference c.self.invariant with) in
    none_loose o p c.push_reserved.new.self.items c.args.reference kept (sym c.find-old.ensures ∙ c.in-None.is)
