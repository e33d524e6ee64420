use Rattle.std.proofs.Common.{◌≡◌, ◌+◌, ◌<◌, Some, ap, get_or, length, rules, take, ◌∙◌, arith}
use Rattle.std.specs.Prelude.{ℕ, pos, slice_get}
use Rattle.std.proofs.lemmas.Int.{to_z-of_z}
use Rattle.std.proofs.lemmas.List.{length_push, take_more}
use Rattle.std.proofs.lemmas.Option.{slice_get-get_or}
use Rattle.head_live.specs.declared.rows.AgainRow.{AgainRow}
use Rattle.head_live.proofs.AgainLemmas.{numbers_more, ready_more}
use Rattle.head_live.proofs.InUseLemmas.{few_more}
use Rattle.head_live.proofs.prepared.fill.Goals as goal

pub loop-row-preserved : goal.loop-row-preserved
loop-row-preserved c =
    let places = c.args.places.now in
    let rows = c.args.rows.now in
    let i = c.loop-row.row-index in
    let none : AgainRow = record { place = 0; time = pos 0; value = pos 0 } in
    let r : AgainRow = get_or rows i none in
    let within : r.place < length places = c.requires.within i none c.loop-row-test.true in
    let numbers = c.loop-row.in_use.numbers in
    let after = c.index_of-set.new.self.numbers in
    let n : ℕ = get_or places r.place 0 in
    let before = c.loop-row.invariant in
    let more = few_more n numbers after c.index_of-set.ensures.numbers in
    let here : slice_get places r.place ≡ Some n = slice_get-get_or places r.place 0 within in
    let pushed = c.push_reserved.ensures.items in
    record {
      rows = ready_more places numbers after n c.index_of-set.ensures.numbers (take i rows) _ c.loop-row.prepared.items c.push_reserved.new.self.items r _ before.rows (take_more rows i none c.loop-row-test.true) pushed
          (record { number = n; here = here; there = c.index_of-set.ensures.index; time = search (rules, to_z-of_z); value = search (rules, to_z-of_z) });
      from = numbers_more places numbers after n c.index_of-set.ensures.numbers (λ m. (place : ℕ) × (slice_get places place ≡ Some m)) before.from (r.place, here);
      many = ap length pushed ∙ length_push c.loop-row.prepared.items _ ∙ ap (λ k. k + 1) before.many;
      few = omega (arith, more, before.few);
      capacity = c.push_reserved.ensures.capacity ∙ before.capacity;
      room = c.index_of-set.ensures.room ∙ before.room;
      places = c.index_of-set.ensures.places ∙ before.places;
    }
