use Rattle.std.proofs.Common.{◌≡◌, ◌-◌, suc, arith, subst, sym}
use Rattle.std.proofs.lemmas.Option.{IfSome_then}
use Rattle.head_series.specs.Table.{slot_at}
use Rattle.head_resolver.specs.declared.changes.ChangeEntry.{ChangeEntry}
use Rattle.head_resolver.specs.Changes.{Change}
use Rattle.head_resolver.proofs.Linking.{IsWalk, at_or_behind, below_at, in_front, last_falls, note_jumped, note_linked, note_order, note_shown, note_within, walk_done, walk_first, walk_jump, walk_more, walk_stop, walk_within}
use Rattle.head_resolver.proofs.changes.Changes.slot_before.Goals as goal

change_of : ChangeEntry → Change
change_of n = record { reference = n.reference; place = n.place; before = n.before }

pub loop-next-init : goal.loop-next-init
loop-next-init c = (
  walk_first c.args.self.now (slot_at c.args.table.now) c.args.place c.args.reference c.last-next.result c.find-found.result c.last-next.ensures c.find-found.ensures.slot,
  λ n few below. IfSome_then c.find-found.result c.find-found.ensures.within (λ s h. omega (arith, h, few)),
)

pub index-note-requires : goal.index-note-requires
unfolding change_of
index-note-requires c =
    let e : c.loop-next.next ≡ suc (c.loop-next.next - 1) = omega (arith, c.loop-next-test.true) in
    let w = walk_within c.args.self.now (slot_at c.args.table.now) c.args.place c.args.reference c.loop-next.next (c.loop-next.next - 1) c.loop-next.found c.loop-next.invariant.0 e in
    let within = note_within change_of c.self.inside.notes.items c.args.self.now (c.loop-next.next - 1) c.self.view_is w in
    let many = c.self.inside.notes.ok.0 in
    omega (arith, within, many)

pub loop-next-smaller-then-note-place : goal.loop-next-smaller-then-note-place
unfolding change_of
loop-next-smaller-then-note-place c =
    let e : c.loop-next.next ≡ suc (c.loop-next.next - 1) = omega (arith, c.loop-next-test.true) in
    let w = walk_within c.args.self.now (slot_at c.args.table.now) c.args.place c.args.reference c.loop-next.next (c.loop-next.next - 1) c.loop-next.found c.loop-next.invariant.0 e in
    let linked = note_linked change_of (λ (n : ChangeEntry). n.previous) (λ (n : ChangeEntry). n.jump) c.self.inside.notes.items c.args.self.now c.self.inside.lasts.entries c.self.inside.in_order c.self.view_is c.self.invariant (c.loop-next.next - 1) c.index-note.result.now w c.index-note.ensures in
    let falls = last_falls (c.loop-next.next - 1) c.args.self.now c.index-note.result.now.reference in
    omega (arith, linked, falls, e)

pub loop-next-smaller : goal.loop-next-smaller
unfolding change_of
loop-next-smaller c =
    let e : c.loop-next.next ≡ suc (c.loop-next.next - 1) = omega (arith, c.loop-next-test.true) in
    let w = walk_within c.args.self.now (slot_at c.args.table.now) c.args.place c.args.reference c.loop-next.next (c.loop-next.next - 1) c.loop-next.found c.loop-next.invariant.0 e in
    let linked = note_linked change_of (λ (n : ChangeEntry). n.previous) (λ (n : ChangeEntry). n.jump) c.self.inside.notes.items c.args.self.now c.self.inside.lasts.entries c.self.inside.in_order c.self.view_is c.self.invariant (c.loop-next.next - 1) c.index-note.result.now w c.index-note.ensures in
    let falls = last_falls (c.loop-next.next - 1) c.args.self.now c.index-note.result.now.reference in
    omega (arith, linked, falls, e)

pub loop-next-smaller-then-is_at : goal.loop-next-smaller-then-is_at
unfolding change_of
loop-next-smaller-then-is_at c =
    let e : c.loop-next.next ≡ suc (c.loop-next.next - 1) = omega (arith, c.loop-next-test.true) in
    let w = walk_within c.args.self.now (slot_at c.args.table.now) c.args.place c.args.reference c.loop-next.next (c.loop-next.next - 1) c.loop-next.found c.loop-next.invariant.0 e in
    let found = c.is_at.ensures c.if-is_at.true in
    let on = found.1 in
    let there : c.index-note.result.now.jump ≡ suc (c.index-note.result.now.jump - 1) = omega (arith, on) in
    let to = note_jumped change_of (λ (n : ChangeEntry). n.previous) (λ (n : ChangeEntry). n.jump) c.self.inside.notes.items c.args.self.now c.self.inside.lasts.entries c.self.inside.in_order c.self.view_is c.self.invariant (c.loop-next.next - 1) c.index-note.result.now w c.index-note.ensures (c.index-note.result.now.jump - 1) there in
    let low = to.0 in
    omega (arith, low, there, e)

pub loop-next-preserved-then-note-place : goal.loop-next-preserved-then-note-place
unfolding change_of
loop-next-preserved-then-note-place c =
    let e : c.loop-next.next ≡ suc (c.loop-next.next - 1) = omega (arith, c.loop-next-test.true) in
    let w = walk_within c.args.self.now (slot_at c.args.table.now) c.args.place c.args.reference c.loop-next.next (c.loop-next.next - 1) c.loop-next.found c.loop-next.invariant.0 e in
    let shown = note_shown change_of (λ (n : ChangeEntry). n.previous) (λ (n : ChangeEntry). n.jump) c.self.inside.notes.items c.args.self.now c.self.inside.lasts.entries c.self.inside.in_order c.self.view_is c.self.invariant (c.loop-next.next - 1) c.index-note.result.now w c.index-note.ensures in
    let linked = note_linked change_of (λ (n : ChangeEntry). n.previous) (λ (n : ChangeEntry). n.jump) c.self.inside.notes.items c.args.self.now c.self.inside.lasts.entries c.self.inside.in_order c.self.view_is c.self.invariant (c.loop-next.next - 1) c.index-note.result.now w c.index-note.ensures in (
      walk_more c.args.self.now (slot_at c.args.table.now) c.args.place c.args.reference c.loop-next.next (c.loop-next.next - 1) c.loop-next.found (change_of c.index-note.result.now) c.index-note.result.now.previous c.loop-next.found c.loop-next.invariant.0 e shown
          linked (in_front c.args.place c.index-note.result.now.place c.index-note.result.now.before c.loop-next.found c.if-note-place.true),
      c.loop-next.invariant.1,
    )

pub loop-next-preserved : goal.loop-next-preserved
unfolding change_of
loop-next-preserved c =
    let e : c.loop-next.next ≡ suc (c.loop-next.next - 1) = omega (arith, c.loop-next-test.true) in
    let w = walk_within c.args.self.now (slot_at c.args.table.now) c.args.place c.args.reference c.loop-next.next (c.loop-next.next - 1) c.loop-next.found c.loop-next.invariant.0 e in
    let shown = note_shown change_of (λ (n : ChangeEntry). n.previous) (λ (n : ChangeEntry). n.jump) c.self.inside.notes.items c.args.self.now c.self.inside.lasts.entries c.self.inside.in_order c.self.view_is c.self.invariant (c.loop-next.next - 1) c.index-note.result.now w c.index-note.ensures in
    let linked = note_linked change_of (λ (n : ChangeEntry). n.previous) (λ (n : ChangeEntry). n.jump) c.self.inside.notes.items c.args.self.now c.self.inside.lasts.entries c.self.inside.in_order c.self.view_is c.self.invariant (c.loop-next.next - 1) c.index-note.result.now w c.index-note.ensures in (
      walk_more c.args.self.now (slot_at c.args.table.now) c.args.place c.args.reference c.loop-next.next (c.loop-next.next - 1) c.loop-next.found (change_of c.index-note.result.now) c.index-note.result.now.previous c.index-note.result.now.before c.loop-next.invariant.0 e shown
          linked (at_or_behind c.args.place c.index-note.result.now.place c.index-note.result.now.before c.loop-next.found c.if-note-place.false),
      λ n few below. below_at n c.args.self.now (c.loop-next.next - 1) (change_of c.index-note.result.now) below shown,
    )

pub loop-next-preserved-then-is_at : goal.loop-next-preserved-then-is_at
unfolding change_of
loop-next-preserved-then-is_at c =
    let e : c.loop-next.next ≡ suc (c.loop-next.next - 1) = omega (arith, c.loop-next-test.true) in
    let w = walk_within c.args.self.now (slot_at c.args.table.now) c.args.place c.args.reference c.loop-next.next (c.loop-next.next - 1) c.loop-next.found c.loop-next.invariant.0 e in
    let found = c.is_at.ensures c.if-is_at.true in
    let on = found.1 in
    let there : c.index-note.result.now.jump ≡ suc (c.index-note.result.now.jump - 1) = omega (arith, on) in
    let to = note_jumped change_of (λ (n : ChangeEntry). n.previous) (λ (n : ChangeEntry). n.jump) c.self.inside.notes.items c.args.self.now c.self.inside.lasts.entries c.self.inside.in_order c.self.view_is c.self.invariant (c.loop-next.next - 1) c.index-note.result.now w c.index-note.ensures (c.index-note.result.now.jump - 1) there in (
      subst (λ n. IsWalk c.args.self.now (slot_at c.args.table.now) c.args.place c.args.reference n c.loop-next.found) (sym there)
          (walk_jump c.args.self.now (slot_at c.args.table.now) c.args.place c.args.reference c.loop-next.next (c.loop-next.next - 1) (c.index-note.result.now.jump - 1) c.loop-next.found c.loop-next.found found.0 c.loop-next.invariant.0 e to.0 to.1 found.2 found.3),
      c.loop-next.invariant.1,
    )

pub returns-then-self-clause-slot : goal.returns-then-self-clause-slot
unfolding change_of
returns-then-self-clause-slot c =
    let e : c.loop-next.next ≡ suc (c.loop-next.next - 1) = omega (arith, c.loop-next-test.true) in
    let w = walk_within c.args.self.now (slot_at c.args.table.now) c.args.place c.args.reference c.loop-next.next (c.loop-next.next - 1) c.loop-next.found c.loop-next.invariant.0 e in
    let shown = note_shown change_of (λ (n : ChangeEntry). n.previous) (λ (n : ChangeEntry). n.jump) c.self.inside.notes.items c.args.self.now c.self.inside.lasts.entries c.self.inside.in_order c.self.view_is c.self.invariant (c.loop-next.next - 1) c.index-note.result.now w c.index-note.ensures in
    walk_stop c.args.self.now (slot_at c.args.table.now) c.args.place c.args.reference c.loop-next.next (c.loop-next.next - 1) c.loop-next.found (change_of c.index-note.result.now) c.loop-next.invariant.0 e shown c.if-note-place.true (note_order change_of (λ (n : ChangeEntry). n.previous) (λ (n : ChangeEntry). n.jump) c.self.inside.notes.items c.args.self.now c.self.inside.lasts.entries c.self.inside.in_order c.self.view_is c.self.invariant (c.loop-next.next - 1) c.index-note.result.now w c.index-note.ensures c.if-self.true)

pub returns-clause-slot : goal.returns-clause-slot
returns-clause-slot c = walk_done c.args.self.now (slot_at c.args.table.now) c.args.place c.args.reference c.loop-next.next c.loop-next.found c.loop-next.invariant.0 c.loop-next-test.false
