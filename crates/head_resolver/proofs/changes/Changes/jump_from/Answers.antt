use Rattle.std.proofs.Common.{◌≡◌, ◌-◌, ◌<◌, suc, length, map, arith, subst, ◌∙◌}
use Rattle.std.specs.Prelude.{slice_get}
use Rattle.head_resolver.specs.declared.changes.ChangeEntry.{ChangeEntry}
use Rattle.head_resolver.specs.Changes.{Change}
use Rattle.head_resolver.proofs.Linking.{note_jumped, note_within}
use Rattle.head_resolver.proofs.changes.Changes.jump_from.Goals as goal

change_of : ChangeEntry → Change
change_of n = record { reference = n.reference; place = n.place; before = n.before }

pub index-middle-requires : goal.index-middle-requires
unfolding change_of
index-middle-requires c =
    let off = c.if-previous-eq0.false in
    let few = c.requires in
    let within : c.args.previous - 1 < length c.args.self.now = omega (arith, off, few) in
    let on = c.if-last-eq0.false in
    let e : c.index-last.result.now.jump ≡ suc (c.index-last.result.now.jump - 1) = omega (arith, on) in
    let to = note_jumped change_of (λ (n : ChangeEntry). n.previous) (λ (n : ChangeEntry). n.jump) c.self.inside.notes.items c.args.self.now c.self.inside.lasts.entries c.self.inside.in_order c.self.view_is c.self.invariant (c.args.previous - 1) c.index-last.result.now within c.index-last.ensures (c.index-last.result.now.jump - 1) e in
    let low = to.0 in
    let long = note_within change_of c.self.inside.notes.items c.args.self.now (c.args.previous - 1) c.self.view_is within in
    let many = c.self.inside.notes.ok.0 in
    omega (arith, low, long, many)

pub returns-then-near-far-clause-same : goal.returns-then-near-far-clause-same
unfolding change_of
returns-then-near-far-clause-same c = λ i j first there.
    let off = c.if-previous-eq0.false in
    let few = c.requires in
    let within : c.args.previous - 1 < length c.args.self.now = omega (arith, off, few) in
    let on = c.if-last-eq0.false in
    let e : c.index-last.result.now.jump ≡ suc (c.index-last.result.now.jump - 1) = omega (arith, on) in
    let to = note_jumped change_of (λ (n : ChangeEntry). n.previous) (λ (n : ChangeEntry). n.jump) c.self.inside.notes.items c.args.self.now c.self.inside.lasts.entries c.self.inside.in_order c.self.view_is c.self.invariant (c.args.previous - 1) c.index-last.result.now within c.index-last.ensures (c.index-last.result.now.jump - 1) e in
    let low = to.0 in
    let inner : c.index-last.result.now.jump - 1 < length c.args.self.now = omega (arith, low, within) in
    let more = note_jumped change_of (λ (n : ChangeEntry). n.previous) (λ (n : ChangeEntry). n.jump) c.self.inside.notes.items c.args.self.now c.self.inside.lasts.entries c.self.inside.in_order c.self.view_is c.self.invariant (c.index-last.result.now.jump - 1) c.index-middle.result.now inner c.index-middle.ensures j there in
    let here : c.args.previous - 1 ≡ i = omega (arith, first) in
    subst (λ k. slice_get (map (λ (x : Change). x.reference) c.args.self.now) j ≡ slice_get (map (λ (x : Change). x.reference) c.args.self.now) k) here (more.1 ∙ to.1)
