use Rattle.std.proofs.Common.{[], sym, subst, ap}
use Rattle.std.specs.Prelude.{if◌then◌else◌}
use Rattle.indexmap.specs.IndexMap.{set_value_at}
use Rattle.wal_record.specs.Labels.{same_text}
use Rattle.head_postings.specs.Postings.{listed, slots_of}
use Rattle.head_postings.specs.Slots.{IsAscending, IsUnion}
use Rattle.head_postings.proofs.Listed.{seen, changed_under}
use Rattle.head_postings.proofs.Unions.{union_with_none, union_of_none}
use Rattle.head_postings.proofs.Kept.{bytes, slots_in, put_at, was_at, put_new, was_none, named_slots}
use Rattle.head_postings.proofs.names.Names.absorb.Goals as goal

pub merge-requires-clause-these : goal.merge-requires-clause-these
merge-requires-clause-these c v =
    let t = c.as_slice.result.now in
    let es = c.self.inside.values.entries in
    let now = c.args.self.now.slots in
    subst (λ z. IsAscending (listed z v)) (was_at slots_in t es now (ap named_slots c.self.view_is) c.in-Some.index c.index_mut.result.now c.in-Some.ensures.value c.index_mut.ensures.value) (c.requires.these t v)

pub returns-in_ok-merge-in-Some : goal.returns-in_ok-merge-in-Some
returns-in_ok-merge-in-Some c n v =
    let t = c.as_slice.result.now in
    let es = c.self.inside.values.entries in
    let now = c.args.self.now.slots in
    let i = c.in-Some.index in
    let o = c.index_mut.result.now in
    let w = c.merge.new.self in
    let new = seen bytes slots_in (set_value_at es i w) in
    subst (λ z. IsUnion (slots_of now n v) (if same_text n z then listed c.args.values.slots v else []) (slots_of new n v)) c.as_slice.ensures.value
    (changed_under (λ b u xs ys. IsUnion xs (if b then listed c.args.values.slots u else []) ys) t o.slots w.slots now new
    (put_at slots_in t es now (ap named_slots c.self.view_is) i w c.in-Some.ensures.index)
    (was_at slots_in t es now (ap named_slots c.self.view_is) i o c.in-Some.ensures.value c.index_mut.ensures.value)
    c.in_ok-merge-in-Some.ensures (λ m u. union_with_none (slots_of now m u) (c.requires.these m u)) n v)

pub returns-in_ok-insert-in-None : goal.returns-in_ok-insert-in-None
returns-in_ok-insert-in-None c n v =
    let t = c.as_slice.result.now in
    let es = c.self.inside.values.entries in
    let now = c.args.self.now.slots in
    let w = c.args.values in
    let new = seen bytes slots_in c.insert.new.self.entries in
    subst (λ z. IsUnion (slots_of now n v) (if same_text n z then listed w.slots v else []) (slots_of new n v)) c.as_slice.ensures.value
    (changed_under (λ b u xs ys. IsUnion xs (if b then listed w.slots u else []) ys) t [] w.slots now new
    (put_new slots_in t es now (ap named_slots c.self.view_is) c.args.name w c.insert.new.self.entries (sym c.as_slice.ensures.value) c.in-None.ensures.found c.in_ok-insert-in-None.ensures.entries)
    (was_none slots_in t es now (ap named_slots c.self.view_is) c.in-None.ensures.found)
    (λ u. union_of_none (listed w.slots u) (c.requires.those u)) (λ m u. union_with_none (slots_of now m u) (c.requires.these m u)) n v)
