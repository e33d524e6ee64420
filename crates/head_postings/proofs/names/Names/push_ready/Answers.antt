use Rattle.std.proofs.Common.{◌≡◌, ◌+◌, ◌<◌, ◌≤◌, ◌++◌, ◌∷◌, [], ap, sym, subst, arith, length}
use Rattle.std.specs.Prelude.{◌&&◌, if◌then◌else◌}
use Rattle.indexmap.specs.IndexMap.{set_value_at}
use Rattle.wal_record.specs.Labels.{same_text}
use Rattle.hw_bytes.proofs.Lists.{append_none}
use Rattle.head_postings.specs.Postings.{listed, slots_of}
use Rattle.head_postings.proofs.Listed.{seen, changed_under}
use Rattle.head_postings.proofs.Kept.{bytes, slots_in, rooms_in, named_slots, named_rooms, put_at, was_at, was_none}
use Rattle.head_postings.proofs.names.Names.push_ready.Goals as goal

pub push_ready-requires : goal.push_ready-requires
push_ready-requires c =
    let t = c.args.name.now in
    let es = c.self.inside.values.entries in
    let now = c.args.self.now in
    let rooms = ap named_rooms c.self.view_is in
    let i = c.in-Some.index in
    let o = c.index_mut.result.now in
    subst (λ z. 0 < length (listed z c.args.value.now)) (was_at rooms_in t es now.rooms rooms i o c.in-Some.ensures.value c.index_mut.ensures.value) c.requires

pub unreachable-requires : goal.unreachable-requires
unreachable-requires c =
    let t = c.args.name.now in
    let es = c.self.inside.values.entries in
    let now = c.args.self.now in
    let rooms = ap named_rooms c.self.view_is in
    let none = ap (λ z. length (listed z c.args.value.now)) (was_none rooms_in t es now.rooms rooms c.in-None.ensures.found) in
    absurd (omega (arith, none, c.requires))

pub returns-clause-slots : goal.returns-clause-slots
returns-clause-slots c =
    let t = c.args.name.now in
    let es = c.self.inside.values.entries in
    let now = c.args.self.now in
    let slots = ap named_slots c.self.view_is in
    let i = c.in-Some.index in
    let o = c.index_mut.result.now in
    let w = c.push_ready.new.self in
    changed_under (λ b v xs ys. ys ≡ xs ++ (if b && same_text v c.args.value.now then c.args.slot ∷ [] else [])) t o.slots w.slots now.slots (seen bytes slots_in (set_value_at es i w))
    (put_at slots_in t es now.slots slots i w c.in-Some.ensures.index)
    (was_at slots_in t es now.slots slots i o c.in-Some.ensures.value c.index_mut.ensures.value)
    c.push_ready.ensures.slots (λ n v. sym (append_none (slots_of now.slots n v)))

pub returns-clause-left : goal.returns-clause-left
returns-clause-left c =
    let t = c.args.name.now in
    let es = c.self.inside.values.entries in
    let now = c.args.self.now in
    let rooms = ap named_rooms c.self.view_is in
    let i = c.in-Some.index in
    let o = c.index_mut.result.now in
    let w = c.push_ready.new.self in
    changed_under (λ b v xs ys. length xs ≤ length ys + (if b && same_text v c.args.value.now then 1 else 0)) t o.rooms w.rooms now.rooms (seen bytes rooms_in (set_value_at es i w))
    (put_at rooms_in t es now.rooms rooms i w c.in-Some.ensures.index)
    (was_at rooms_in t es now.rooms rooms i o c.in-Some.ensures.value c.index_mut.ensures.value)
    c.push_ready.ensures.left (λ n v. omega arith)
