use Rattle.std.proofs.Common.{◌≡◌, ◌≤◌, [], ◌∙◌, ap, sym, subst, refl, arith, length}
use Rattle.indexmap.specs.IndexMap.{set_value_at}
use Rattle.head_postings.specs.Postings.{listed}
use Rattle.head_postings.proofs.Listed.{seen, changed_under}
use Rattle.head_postings.proofs.Kept.{bytes, slots_in, rooms_in, named_slots, named_rooms, put_at, was_at, put_new, was_none, popped_had}
use Rattle.head_postings.proofs.names.Names.make_room.Goals as goal

pub returns-in_err-make_room-in-Some-clause-same : goal.returns-in_err-make_room-in-Some-clause-same
returns-in_err-make_room-in-Some-clause-same c =
    let t = c.args.name.now in
    let es = c.self.inside.values.entries in
    let now = c.args.self.now in
    let slots = ap named_slots c.self.view_is in
    let i = c.in-Some.index in
    let o = c.index_mut.result.now in
    let w = c.make_room.new.self in
    changed_under (λ b v xs ys. ys ≡ xs) t o.slots w.slots now.slots (seen bytes slots_in (set_value_at es i w))
    (put_at slots_in t es now.slots slots i w c.in-Some.ensures.index)
    (was_at slots_in t es now.slots slots i o c.in-Some.ensures.value c.index_mut.ensures.value)
    c.in_err-make_room-in-Some.ensures.same (λ n v. refl)

pub returns-in_err-make_room-in-Some-clause-kept : goal.returns-in_err-make_room-in-Some-clause-kept
returns-in_err-make_room-in-Some-clause-kept c =
    let t = c.args.name.now in
    let es = c.self.inside.values.entries in
    let now = c.args.self.now in
    let rooms = ap named_rooms c.self.view_is in
    let i = c.in-Some.index in
    let o = c.index_mut.result.now in
    let w = c.make_room.new.self in
    changed_under (λ b v xs ys. length xs ≤ length ys) t o.rooms w.rooms now.rooms (seen bytes rooms_in (set_value_at es i w))
    (put_at rooms_in t es now.rooms rooms i w c.in-Some.ensures.index)
    (was_at rooms_in t es now.rooms rooms i o c.in-Some.ensures.value c.index_mut.ensures.value)
    c.in_err-make_room-in-Some.ensures.kept (λ n v. omega arith)

pub returns-in_ok-make_room-in-Some-clause-same : goal.returns-in_ok-make_room-in-Some-clause-same
returns-in_ok-make_room-in-Some-clause-same c =
    let t = c.args.name.now in
    let es = c.self.inside.values.entries in
    let now = c.args.self.now in
    let slots = ap named_slots c.self.view_is in
    let i = c.in-Some.index in
    let o = c.index_mut.result.now in
    let w = c.make_room.new.self in
    changed_under (λ b v xs ys. ys ≡ xs) t o.slots w.slots now.slots (seen bytes slots_in (set_value_at es i w))
    (put_at slots_in t es now.slots slots i w c.in-Some.ensures.index)
    (was_at slots_in t es now.slots slots i o c.in-Some.ensures.value c.index_mut.ensures.value)
    c.in_ok-make_room-in-Some.ensures.same (λ n v. refl)

pub returns-in_ok-make_room-in-Some-clause-kept : goal.returns-in_ok-make_room-in-Some-clause-kept
returns-in_ok-make_room-in-Some-clause-kept c =
    let t = c.args.name.now in
    let es = c.self.inside.values.entries in
    let now = c.args.self.now in
    let rooms = ap named_rooms c.self.view_is in
    let i = c.in-Some.index in
    let o = c.index_mut.result.now in
    let w = c.make_room.new.self in
    changed_under (λ b v xs ys. length xs ≤ length ys) t o.rooms w.rooms now.rooms (seen bytes rooms_in (set_value_at es i w))
    (put_at rooms_in t es now.rooms rooms i w c.in-Some.ensures.index)
    (was_at rooms_in t es now.rooms rooms i o c.in-Some.ensures.value c.index_mut.ensures.value)
    c.in_ok-make_room-in-Some.ensures.kept (λ n v. omega arith)

pub returns-in_ok-make_room-in-Some-clause-room : goal.returns-in_ok-make_room-in-Some-clause-room
returns-in_ok-make_room-in-Some-clause-room c =
    let t = c.args.name.now in
    let es = c.self.inside.values.entries in
    let now = c.args.self.now in
    let rooms = ap named_rooms c.self.view_is in
    let i = c.in-Some.index in
    let w = c.make_room.new.self in
    subst (λ z. c.args.more ≤ length (listed z c.args.value.now)) (sym (popped_had t w.rooms (seen bytes rooms_in (set_value_at es i w)) now.rooms (put_at rooms_in t es now.rooms rooms i w c.in-Some.ensures.index))) c.in_ok-make_room-in-Some.ensures.room

pub returns-in_ok-insert-in-None-clause-same : goal.returns-in_ok-insert-in-None-clause-same
returns-in_ok-insert-in-None-clause-same c =
    let t = c.args.name.now in
    let es = c.self.inside.values.entries in
    let now = c.args.self.now in
    let slots = ap named_slots c.self.view_is in
    let w = c.trim.new.self in
    changed_under (λ b v xs ys. ys ≡ xs) t [] w.slots now.slots (seen bytes slots_in c.insert.new.self.entries)
    (put_new slots_in t es now.slots slots c.in_ok-key-in-None.key w c.insert.new.self.entries c.in_ok-key-in-None.ensures.items c.in-None.ensures.found c.in_ok-insert-in-None.ensures.entries)
    (was_none slots_in t es now.slots slots c.in-None.ensures.found)
    (λ v. ap (λ z. listed z.slots v) c.trim.ensures ∙ c.in_ok-make_room-in-None.ensures.same v ∙ ap (λ z. listed z v) c.new-values.ensures) (λ n v. refl)

pub returns-in_ok-insert-in-None-clause-kept : goal.returns-in_ok-insert-in-None-clause-kept
returns-in_ok-insert-in-None-clause-kept c =
    let t = c.args.name.now in
    let es = c.self.inside.values.entries in
    let now = c.args.self.now in
    let rooms = ap named_rooms c.self.view_is in
    let w = c.trim.new.self in
    changed_under (λ b v xs ys. length xs ≤ length ys) t [] w.rooms now.rooms (seen bytes rooms_in c.insert.new.self.entries)
    (put_new rooms_in t es now.rooms rooms c.in_ok-key-in-None.key w c.insert.new.self.entries c.in_ok-key-in-None.ensures.items c.in-None.ensures.found c.in_ok-insert-in-None.ensures.entries)
    (was_none rooms_in t es now.rooms rooms c.in-None.ensures.found)
    (λ v. omega arith) (λ n v. omega arith)

pub returns-in_ok-insert-in-None-clause-room : goal.returns-in_ok-insert-in-None-clause-room
returns-in_ok-insert-in-None-clause-room c =
    let t = c.args.name.now in
    let es = c.self.inside.values.entries in
    let now = c.args.self.now in
    let rooms = ap named_rooms c.self.view_is in
    let w = c.trim.new.self in
    subst (λ z. c.args.more ≤ length (listed z c.args.value.now)) (sym (popped_had t w.rooms (seen bytes rooms_in c.insert.new.self.entries) now.rooms (put_new rooms_in t es now.rooms rooms c.in_ok-key-in-None.key w c.insert.new.self.entries c.in_ok-key-in-None.ensures.items c.in-None.ensures.found c.in_ok-insert-in-None.ensures.entries))) (subst (λ z. c.args.more ≤ length (listed z.rooms c.args.value.now)) (sym c.trim.ensures) c.in_ok-make_room-in-None.ensures.room)
