use Rattle.std.proofs.Common.{◌<◌, arith}
use Rattle.head_resolver.specs.declared.changes.ChangeEntry.{ChangeEntry}
use Rattle.head_resolver.specs.Changes.{Change}
use Rattle.head_resolver.proofs.Linking.{of_test, shown_at}
use Rattle.head_resolver.proofs.changes.Changes.is_at.Goals as goal

change_of : ChangeEntry → Change
change_of n = record { reference = n.reference; place = n.place; before = n.before }

pub returns-in-Some : goal.returns-in-Some
unfolding change_of
returns-in-Some c = λ le.
    let off = c.if-number-eq0.false in
    let some : 0 < c.args.number = omega (arith, off) in
    let h = c.in-Some.ensures.lookup in (
      change_of c.in-Some.note.now,
      some,
      shown_at change_of c.self.inside.notes.items c.deref.result.now c.args.self.now _ c.in-Some.note.now c.self.view_is c.deref.ensures.value h.3.0 h.1,
      of_test c.args.place c.in-Some.note.now.place le,
    )
