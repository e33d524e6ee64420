use Rattle.std.proofs.Common.{◌≡◌, All, ap, map, subst, ◌∙◌, arith}
use Rattle.std.specs.List.{AllZip}
use Rattle.head_live.specs.Keys.{labels_of_keys}
use Rattle.head_live.specs.Rows.{row_again}
use Rattle.head_live.specs.Sets.{AreNumbers, IsReady, set_in}
use Rattle.wal_record.specs.Labels.{same_labels}
use Rattle.head_series.specs.Texts.{place}
use Rattle.std.specs.Prelude.{Some, slice_get}
use Rattle.head_live.proofs.AgainLemmas.{among_places, placed_again, rows_again}
use Rattle.head_live.proofs.prepared.Prepared.again.Goals as goal

pub invariant_of-self-2 : goal.invariant_of-self-2
invariant_of-self-2 c =
    let sets = labels_of_keys c.self.inside.sets.keys in
    let places = c.self.inside.places.items in
    let numbers = c.fill.new.in_use.numbers in
    let is = c.deref.ensures.value in
    let ready = subst (λ ns. AllZip (IsReady ns numbers) c.args.rows.now c.fill.new.prepared.items) is c.fill.ensures.rows in
    let from = subst (λ ns. All (λ n. (k : _) × (slice_get ns k ≡ Some n)) numbers) is c.fill.ensures.from in
    let used : AreNumbers sets numbers = among_places (λ n. place (same_labels (set_in sets n)) sets ≡ Some n) places numbers c.self.invariant.checked from in
    record {
      placed = placed_again sets places numbers c.args.rows.now c.fill.new.prepared.items c.self.invariant.checked used c.fill.ensures.once ready;
      checked = c.self.invariant.checked;
      used = used;
      here = λ i d within. omega (arith, c.self.invariant.here i d within, c.fill.ensures.places, c.make_room-2.ensures.places);
      rows_fit = omega (arith, c.fill.ensures.capacity, c.make_room.ensures.kept, c.self.invariant.rows_fit);
      numbers_fit = omega (arith, c.fill.ensures.room, c.make_room-2.ensures.kept, c.self.invariant.numbers_fit);
    }

pub returns-clause-rows : goal.returns-clause-rows
returns-clause-rows c =
    let sets = labels_of_keys c.self.inside.sets.keys in
    let places = c.self.inside.places.items in
    let numbers = c.fill.new.in_use.numbers in
    let ready = subst (λ ns. AllZip (IsReady ns numbers) c.args.rows.now c.fill.new.prepared.items) c.deref.ensures.value c.fill.ensures.rows in
    rows_again sets places numbers c.args.rows.now c.fill.new.prepared.items ready ∙ ap (λ v. map (row_again v.sets) c.args.rows.now) c.self.view_is
