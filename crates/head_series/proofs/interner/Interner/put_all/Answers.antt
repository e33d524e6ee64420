use Rattle.std.proofs.Common.{ap, sym, subst, arith, length}
use Rattle.std.specs.Prelude.{map, reverse}
use Rattle.std.proofs.lemmas.List.{length-append}
use Rattle.head_series.specs.Rows.{label}
use Rattle.head_series.proofs.PutLemmas.{IsPut, IsPut-push, put_room, put_few, put_few_second, put_next}
use Rattle.head_series.proofs.interner.Interner.put_all.Goals as goal

pub put-first-requires-clause-room : goal.put-first-requires-clause-room
put-first-requires-clause-room c =
    let p = label c.in-Some.name.items c.in-Some.value.items in
    let rest = reverse (map (λ p. label p.0.items p.1.items) c.pop.new.self.items) in
    let h = put_next (λ p. label p.0.items p.1.items) c.args.self.now c.args.ready c.loop-name.self c.loop-name.numbers.items c.loop-name.texts.items c.pop.new.self.items (c.in-Some.name, c.in-Some.value) c.in-Some.ensures.items c.loop-name.invariant.0 in
    let k = put_room c.args.self.now c.args.ready c.loop-name.self c.loop-name.numbers.items p rest h c.requires.room in
    omega (arith, k)

pub put-first-requires-clause-few : goal.put-first-requires-clause-few
put-first-requires-clause-few c =
    let p = label c.in-Some.name.items c.in-Some.value.items in
    let rest = reverse (map (λ p. label p.0.items p.1.items) c.pop.new.self.items) in
    let h = put_next (λ p. label p.0.items p.1.items) c.args.self.now c.args.ready c.loop-name.self c.loop-name.numbers.items c.loop-name.texts.items c.pop.new.self.items (c.in-Some.name, c.in-Some.value) c.in-Some.ensures.items c.loop-name.invariant.0 in
    put_few c.args.self.now c.args.ready c.loop-name.self c.loop-name.numbers.items p rest h c.requires.few

pub put-second-requires-clause-room : goal.put-second-requires-clause-room
put-second-requires-clause-room c =
    let p = label c.in-Some.name.items c.in-Some.value.items in
    let rest = reverse (map (λ p. label p.0.items p.1.items) c.pop.new.self.items) in
    let h = put_next (λ p. label p.0.items p.1.items) c.args.self.now c.args.ready c.loop-name.self c.loop-name.numbers.items c.loop-name.texts.items c.pop.new.self.items (c.in-Some.name, c.in-Some.value) c.in-Some.ensures.items c.loop-name.invariant.0 in
    let k = put_room c.args.self.now c.args.ready c.loop-name.self c.loop-name.numbers.items p rest h c.requires.room in
    omega (arith, k, c.put-first.ensures.room)

pub put-second-requires-clause-few : goal.put-second-requires-clause-few
put-second-requires-clause-few c =
    let p = label c.in-Some.name.items c.in-Some.value.items in
    let rest = reverse (map (λ p. label p.0.items p.1.items) c.pop.new.self.items) in
    let h = put_next (λ p. label p.0.items p.1.items) c.args.self.now c.args.ready c.loop-name.self c.loop-name.numbers.items c.loop-name.texts.items c.pop.new.self.items (c.in-Some.name, c.in-Some.value) c.in-Some.ensures.items c.loop-name.invariant.0 in
    put_few_second c.args.self.now c.args.ready c.loop-name.self c.put-first.new.self c.loop-name.numbers.items p rest h c.requires.few c.put-first.ensures.texts c.put-first.ensures.most

pub loop-name-preserved : goal.loop-name-preserved
loop-name-preserved c =
    let p = label c.in-Some.name.items c.in-Some.value.items in
    let rest = reverse (map (λ p. label p.0.items p.1.items) c.pop.new.self.items) in
    let h = put_next (λ p. label p.0.items p.1.items) c.args.self.now c.args.ready c.loop-name.self c.loop-name.numbers.items c.loop-name.texts.items c.pop.new.self.items (c.in-Some.name, c.in-Some.value) c.in-Some.ensures.items c.loop-name.invariant.0 in
    let many = simp length-append at (ap length c.in-Some.ensures.items) in
    let more = simp length-append at (ap length c.push_reserved.ensures.items) in (
      subst (λ ns. IsPut c.args.self.now c.args.ready c.put-second.new.self ns rest) (sym c.push_reserved.ensures.items)
          (IsPut-push c.args.self.now c.args.ready c.loop-name.self c.put-first.new.self c.put-second.new.self c.loop-name.numbers.items p c.put-first.result c.put-second.result rest h
          c.put-first.ensures.texts c.put-first.ensures.number c.put-second.ensures.texts c.put-second.ensures.number c.put-first.ensures.most c.put-second.ensures.most c.put-first.ensures.room c.put-second.ensures.room),
      omega (arith, many, more, c.loop-name.invariant.1, c.push_reserved.ensures.capacity),
    )
