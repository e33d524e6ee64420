use Rattle.std.proofs.Common.{◌-◌, [], ◌∙◌, ap, arith, length}
use Rattle.std.specs.Vec.{vec_capacity, vec_len}
use Rattle.indexmap.specs.IndexMap.{set_value_at}
use Rattle.wal_record.specs.Labels.{same_text}
use Rattle.head_postings.specs.Postings.{listed}
use Rattle.head_postings.proofs.Listed.{seen, changed, same_if}
use Rattle.head_postings.proofs.Kept.{bytes, spaces, slots_in, rooms_in, put_at, was_at, put_new, was_none}
use Rattle.head_postings.proofs.RoomLemmas.{many_places, put_room, put_kept}
use Rattle.head_postings.proofs.values.Values.make_room.Goals as goal

pub returns-in_err-reserve-in-Some-clause-same : goal.returns-in_err-reserve-in-Some-clause-same
returns-in_err-reserve-in-Some-clause-same c v =
    let t = c.args.value.now in
    let es = c.self.inside.lists.entries in
    let now = c.args.self.now in
    let slots = ap slots_in c.self.view_is in
    let i = c.in-Some.index in
    let o = c.index_mut.result.now in
    let w = c.reserve.new.self in
    changed (λ xs. xs) t o.items w.items now.slots (seen bytes bytes (set_value_at es i w))
    (put_at bytes t es now.slots slots i w c.in-Some.ensures.index)
    (was_at bytes t es now.slots slots i o c.in-Some.ensures.value c.index_mut.ensures.value)
    c.in_err-reserve-in-Some.ensures.items v ∙ same_if (same_text v t) (listed now.slots v)

pub returns-in_err-reserve-in-Some-clause-kept : goal.returns-in_err-reserve-in-Some-clause-kept
returns-in_err-reserve-in-Some-clause-kept c v =
    let t = c.args.value.now in
    let es = c.self.inside.lists.entries in
    let now = c.args.self.now in
    let rooms = ap rooms_in c.self.view_is in
    let i = c.in-Some.index in
    let o = c.index_mut.result.now in
    let w = c.reserve.new.self in
    let was = ap length (was_at spaces t es now.rooms rooms i o c.in-Some.ensures.value c.index_mut.ensures.value) ∙ many_places (vec_capacity o - vec_len o) in
    let is = many_places (vec_capacity w - vec_len w) in
    put_kept t (spaces w) now.rooms (seen bytes spaces (set_value_at es i w))
    (put_at spaces t es now.rooms rooms i w c.in-Some.ensures.index)
    (omega (arith, was, is, c.in_err-reserve-in-Some.ensures.len, c.in_err-reserve-in-Some.ensures.capacity)) v

pub returns-in_ok-reserve-in-Some-clause-same : goal.returns-in_ok-reserve-in-Some-clause-same
returns-in_ok-reserve-in-Some-clause-same c v =
    let t = c.args.value.now in
    let es = c.self.inside.lists.entries in
    let now = c.args.self.now in
    let slots = ap slots_in c.self.view_is in
    let i = c.in-Some.index in
    let o = c.index_mut.result.now in
    let w = c.reserve.new.self in
    changed (λ xs. xs) t o.items w.items now.slots (seen bytes bytes (set_value_at es i w))
    (put_at bytes t es now.slots slots i w c.in-Some.ensures.index)
    (was_at bytes t es now.slots slots i o c.in-Some.ensures.value c.index_mut.ensures.value)
    c.in_ok-reserve-in-Some.ensures.items v ∙ same_if (same_text v t) (listed now.slots v)

pub returns-in_ok-reserve-in-Some-clause-kept : goal.returns-in_ok-reserve-in-Some-clause-kept
returns-in_ok-reserve-in-Some-clause-kept c v =
    let t = c.args.value.now in
    let es = c.self.inside.lists.entries in
    let now = c.args.self.now in
    let rooms = ap rooms_in c.self.view_is in
    let i = c.in-Some.index in
    let o = c.index_mut.result.now in
    let w = c.reserve.new.self in
    let was = ap length (was_at spaces t es now.rooms rooms i o c.in-Some.ensures.value c.index_mut.ensures.value) ∙ many_places (vec_capacity o - vec_len o) in
    let is = many_places (vec_capacity w - vec_len w) in
    put_kept t (spaces w) now.rooms (seen bytes spaces (set_value_at es i w))
    (put_at spaces t es now.rooms rooms i w c.in-Some.ensures.index)
    (omega (arith, was, is, c.in_ok-reserve-in-Some.ensures.len, c.in_ok-reserve-in-Some.ensures.capacity)) v

pub returns-in_ok-reserve-in-Some-clause-room : goal.returns-in_ok-reserve-in-Some-clause-room
returns-in_ok-reserve-in-Some-clause-room c =
    let t = c.args.value.now in
    let es = c.self.inside.lists.entries in
    let now = c.args.self.now in
    let rooms = ap rooms_in c.self.view_is in
    let i = c.in-Some.index in
    let w = c.reserve.new.self in
    let is = many_places (vec_capacity w - vec_len w) in
    put_room t (spaces w) now.rooms (seen bytes spaces (set_value_at es i w)) c.args.more
    (put_at spaces t es now.rooms rooms i w c.in-Some.ensures.index)
    (omega (arith, is, c.in_ok-reserve-in-Some.ensures.ok))

pub returns-in_ok-insert-in-None-clause-same : goal.returns-in_ok-insert-in-None-clause-same
returns-in_ok-insert-in-None-clause-same c v =
    let t = c.args.value.now in
    let es = c.self.inside.lists.entries in
    let now = c.args.self.now in
    let slots = ap slots_in c.self.view_is in
    let k = c.in_ok-key-in-None.key in
    let w = c.in_ok-slots-in-None.slots in
    changed (λ xs. xs) t [] w.items now.slots (seen bytes bytes c.insert.new.self.entries)
    (put_new bytes t es now.slots slots k w c.insert.new.self.entries c.in_ok-key-in-None.ensures.items c.in-None.ensures.found c.in_ok-insert-in-None.ensures.entries)
    (was_none bytes t es now.slots slots c.in-None.ensures.found)
    c.in_ok-slots-in-None.ensures.items v ∙ same_if (same_text v t) (listed now.slots v)

pub returns-in_ok-insert-in-None-clause-room : goal.returns-in_ok-insert-in-None-clause-room
returns-in_ok-insert-in-None-clause-room c =
    let t = c.args.value.now in
    let es = c.self.inside.lists.entries in
    let now = c.args.self.now in
    let rooms = ap rooms_in c.self.view_is in
    let k = c.in_ok-key-in-None.key in
    let w = c.in_ok-slots-in-None.slots in
    let is = many_places (vec_capacity w - vec_len w) in
    put_room t (spaces w) now.rooms (seen bytes spaces c.insert.new.self.entries) c.args.more
    (put_new spaces t es now.rooms rooms k w c.insert.new.self.entries c.in_ok-key-in-None.ensures.items c.in-None.ensures.found c.in_ok-insert-in-None.ensures.entries)
    (omega (arith, is, c.in_ok-slots-in-None.ensures.capacity, c.in_ok-slots-in-None.ensures.len))

pub returns-in_ok-insert-in-None-clause-kept : goal.returns-in_ok-insert-in-None-clause-kept
returns-in_ok-insert-in-None-clause-kept c v =
    let t = c.args.value.now in
    let es = c.self.inside.lists.entries in
    let now = c.args.self.now in
    let rooms = ap rooms_in c.self.view_is in
    let k = c.in_ok-key-in-None.key in
    let w = c.in_ok-slots-in-None.slots in
    let was = ap length (was_none spaces t es now.rooms rooms c.in-None.ensures.found) in
    put_kept t (spaces w) now.rooms (seen bytes spaces c.insert.new.self.entries)
    (put_new spaces t es now.rooms rooms k w c.insert.new.self.entries c.in_ok-key-in-None.ensures.items c.in-None.ensures.found c.in_ok-insert-in-None.ensures.entries)
    (omega (arith, was)) v
