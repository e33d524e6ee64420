use Rattle.std.proofs.Common.{◌≡◌, ◌<◌, Some, ap, sym, ◌∙◌, arith, length, set}
use Rattle.std.proofs.lemmas.List.{length-set}
use Rattle.series_references.specs.ReferenceSlots.{slot_of}
use Rattle.series_references.proofs.KeptLemmas.{last_settled, none_loose, point_settled}
use Rattle.series_references.proofs.references.References.point.Goals as goal

pub invariant_of-self : goal.invariant_of-self
invariant_of-self c =
    let ks = c.self.inside.candidates.items in
    let o = slot_of c.self.inside.slots in
    let p = slot_of c.set.new.self in
    let many : length ks ≡ c.args.self.now.series = ap (λ s. s.series) c.self.view_is in
    let below : c.args.slot < length ks = omega (arith, many, c.requires.slot) in
    let kept = point_settled o p ks c.args.reference c.args.slot c.index_mut.result.now c.add.new.self c.index_mut-2.result.now c.settle.new.self c.self.invariant c.set.ensures.with below
    c.index_mut.ensures.value c.add.ensures c.index_mut-2.ensures.value c.settle.ensures.kept c.settle.ensures.first in
    let was : o c.args.reference ≡ Some c.in-Some.old = sym c.find-old.ensures ∙ c.in-Some.is in
    let there : c.in-Some.old < length ks = c.self.invariant.within c.args.reference c.in-Some.old was in
    let first = length-set ks c.args.slot c.add.new.self in
    let second = length-set (set ks c.args.slot c.add.new.self) c.args.slot c.settle.new.self in
    last_settled o p (set (set ks c.args.slot c.add.new.self) c.args.slot c.settle.new.self) c.args.reference c.in-Some.old c.index_mut-in-Some.result.now c.settle-in-Some.new.self kept was (omega (arith, there, first, second))
    c.index_mut-in-Some.ensures.value c.settle-in-Some.ensures.kept c.settle-in-Some.ensures.first

pub invariant_of-self-in-None : goal.invariant_of-self-in-None
invariant_of-self-in-None c =
    let ks = c.self.inside.candidates.items in
    let o = slot_of c.self.inside.slots in
    let p = slot_of c.set.new.self in
    let many : length ks ≡ c.args.self.now.series = ap (λ s. s.series) c.self.view_is in
    let below : c.args.slot < length ks = omega (arith, many, c.requires.slot) in
    let kept = point_settled o p ks c.args.reference c.args.slot c.index_mut.result.now c.add.new.self c.index_mut-2.result.now c.settle.new.self c.self.invariant c.set.ensures.with below
    c.index_mut.ensures.value c.add.ensures c.index_mut-2.ensures.value c.settle.ensures.kept c.settle.ensures.first in
    none_loose o p _ c.args.reference kept (sym c.find-old.ensures ∙ c.in-None.is)
