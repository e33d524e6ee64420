use Rattle.std.proofs.Common.{◌≡◌, subst, ap, arith}
use Rattle.head_resolver.specs.declared.changes.ChangeEntry.{ChangeEntry}
use Rattle.head_resolver.specs.Changes.{Change}
use Rattle.head_resolver.specs.Links.{AreInOrder}
use Rattle.head_resolver.proofs.Linking.{last_shown, of_test, order_more}
use Rattle.head_resolver.proofs.changes.Changes.is_last.Goals as goal

change_of : ChangeEntry → Change
change_of n = record { reference = n.reference; place = n.place; before = n.before }

pub returns-in-Some : goal.returns-in-Some
unfolding change_of
returns-in-Some c = λ le x at.
    let low = of_test c.in-Some.note.now.place c.args.place le in
    order_more c.args.self.now x (subst AreInOrder c.self.view_is (c.self.invariant.order_is c.if-not-self.false))
    (λ k d many got.
    let is = last_shown change_of c.self.inside.notes.items c.deref.result.now c.args.self.now c.in-Some.note.now c.self.view_is c.deref.ensures.value c.in-Some.ensures.value k d many got in
    let same : d.place ≡ c.in-Some.note.now.place = ap (λ (y : Change). y.place) is in
    omega (arith, low, at, same))
