use Rattle.std.proofs.Common.{[], ◌∙◌, sym, subst, ap}
use Rattle.std.specs.Prelude.{if◌then◌else◌}
use Rattle.indexmap.specs.IndexMap.{set_value_at}
use Rattle.wal_record.specs.Labels.{same_text}
use Rattle.head_postings.specs.Postings.{listed}
use Rattle.head_postings.specs.Slots.{IsAscending, IsUnion}
use Rattle.head_postings.proofs.Listed.{seen}
use Rattle.head_postings.proofs.Unions.{put_union, union_of_none}
use Rattle.head_postings.proofs.Kept.{bytes, put_at, was_at, put_new, was_none, slots_in}
use Rattle.head_postings.proofs.values.Values.absorb.Goals as goal

pub united-requires-clause-first : goal.united-requires-clause-first
united-requires-clause-first c =
    let t = c.as_slice.result.now in
    let es = c.self.inside.lists.entries in
    let now = c.args.self.now.slots in
    let i = c.in-Some.index in
    let o = c.index.result.now in
    subst IsAscending (was_at bytes t es now (ap slots_in c.self.view_is) i o c.in-Some.ensures.value c.index.ensures ∙ sym c.deref.ensures.value) (c.requires.these t)

pub returns-in_ok-union-in-Some : goal.returns-in_ok-union-in-Some
returns-in_ok-union-in-Some c v =
    let t = c.as_slice.result.now in
    let es = c.self.inside.lists.entries in
    let now = c.args.self.now.slots in
    let i = c.in-Some.index in
    let o = c.index.result.now in
    let w = c.in_ok-union-in-Some.union in
    let new = seen bytes bytes (set_value_at es i w) in
    subst (λ z. IsUnion (listed now v) (if same_text v z then c.args.slots.items else []) (listed new v)) c.as_slice.ensures.value
    (put_union t o.items w.items c.args.slots.items now new
    (put_at bytes t es now (ap slots_in c.self.view_is) i w c.in-Some.ensures.index)
    (was_at bytes t es now (ap slots_in c.self.view_is) i o c.in-Some.ensures.value c.index.ensures)
    (subst (λ z. IsUnion z c.args.slots.items w.items) c.deref.ensures.value (subst (λ z. IsUnion c.deref.result.now z w.items) c.deref-in-Some.ensures.value c.in_ok-union-in-Some.ensures))
    c.requires.these v)

pub returns-in_ok-insert-in-None : goal.returns-in_ok-insert-in-None
returns-in_ok-insert-in-None c v =
    let t = c.as_slice.result.now in
    let es = c.self.inside.lists.entries in
    let now = c.args.self.now.slots in
    let s = c.args.slots in
    let new = seen bytes bytes c.insert.new.self.entries in
    subst (λ z. IsUnion (listed now v) (if same_text v z then s.items else []) (listed new v)) c.as_slice.ensures.value
    (put_union t [] s.items s.items now new
    (put_new bytes t es now (ap slots_in c.self.view_is) c.args.value s c.insert.new.self.entries (sym c.as_slice.ensures.value) c.in-None.ensures.found c.in_ok-insert-in-None.ensures.entries)
    (was_none bytes t es now (ap slots_in c.self.view_is) c.in-None.ensures.found) (union_of_none s.items c.requires.those) c.requires.these v)
