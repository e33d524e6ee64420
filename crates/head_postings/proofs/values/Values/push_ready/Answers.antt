use Rattle.std.proofs.Common.{◌-◌, ◌++◌, ◌∷◌, [], ◌∙◌, ap, arith, length}
use Rattle.std.specs.Vec.{vec_capacity, vec_len}
use Rattle.indexmap.specs.IndexMap.{set_value_at}
use Rattle.wal_record.specs.Labels.{same_text}
use Rattle.head_postings.specs.Postings.{listed}
use Rattle.head_postings.proofs.Listed.{seen, changed, append_if}
use Rattle.head_postings.proofs.Kept.{bytes, spaces, slots_in, rooms_in, put_at, was_at, was_none}
use Rattle.head_postings.proofs.RoomLemmas.{many_places, put_left}
use Rattle.head_postings.proofs.values.Values.push_ready.Goals as goal

pub push_reserved-requires : goal.push_reserved-requires
push_reserved-requires c =
    let t = c.args.value.now in
    let es = c.self.inside.lists.entries in
    let now = c.args.self.now in
    let rooms = ap rooms_in c.self.view_is in
    let i = c.in-Some.index in
    let o = c.index_mut.result.now in
    let was = ap length (was_at spaces t es now.rooms rooms i o c.in-Some.ensures.value c.index_mut.ensures.value) ∙ many_places (vec_capacity o - vec_len o) in
    omega (arith, was, c.requires)

pub unreachable-requires : goal.unreachable-requires
unreachable-requires c =
    let t = c.args.value.now in
    let es = c.self.inside.lists.entries in
    let now = c.args.self.now in
    let rooms = ap rooms_in c.self.view_is in
    let was = ap length (was_none spaces t es now.rooms rooms c.in-None.ensures.found) in
    absurd (omega (arith, was, c.requires))

pub returns-clause-slots : goal.returns-clause-slots
returns-clause-slots c v =
    let t = c.args.value.now in
    let es = c.self.inside.lists.entries in
    let now = c.args.self.now in
    let slots = ap slots_in c.self.view_is in
    let i = c.in-Some.index in
    let o = c.index_mut.result.now in
    let w = c.push_reserved.new.self in
    changed (λ xs. xs ++ c.args.slot ∷ []) t o.items w.items now.slots (seen bytes bytes (set_value_at es i w))
    (put_at bytes t es now.slots slots i w c.in-Some.ensures.index)
    (was_at bytes t es now.slots slots i o c.in-Some.ensures.value c.index_mut.ensures.value)
    c.push_reserved.ensures.items v ∙ append_if (same_text v t) (listed now.slots v) (c.args.slot ∷ [])

pub returns-clause-left : goal.returns-clause-left
returns-clause-left c v =
    let t = c.args.value.now in
    let es = c.self.inside.lists.entries in
    let now = c.args.self.now in
    let rooms = ap rooms_in c.self.view_is in
    let i = c.in-Some.index in
    let o = c.index_mut.result.now in
    let w = c.push_reserved.new.self in
    let was = ap length (was_at spaces t es now.rooms rooms i o c.in-Some.ensures.value c.index_mut.ensures.value) ∙ many_places (vec_capacity o - vec_len o) in
    let is = many_places (vec_capacity w - vec_len w) in
    put_left t (spaces w) now.rooms (seen bytes spaces (set_value_at es i w)) 1
    (put_at spaces t es now.rooms rooms i w c.in-Some.ensures.index)
    (omega (arith, was, is, c.push_reserved.ensures.len, c.push_reserved.ensures.capacity)) v
