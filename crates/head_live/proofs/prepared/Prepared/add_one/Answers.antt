use Rattle.std.proofs.Common.{◌≡◌, ◌<◌, ap, map, sym, ◌∙◌, ◌++◌, ◌∷◌, [], List, Some, arith}
use Rattle.std.specs.Prelude.{ℕ}
use Rattle.wal_record.specs.Labels.{Labels, same_labels}
use Rattle.head_series.specs.Table.{with_series}
use Rattle.head_series.specs.Texts.{place}
use Rattle.head_live.specs.Keys.{labels_of_keys}
use Rattle.head_live.specs.Rows.{row_of}
use Rattle.head_live.specs.Sets.{sets_in, with_set}
use Rattle.head_live.proofs.AgainLemmas.{ready_one, sets_kept, sets_push}
use Rattle.head_live.proofs.prepared.Prepared.add_one.Goals as goal

pub invariant_of-self-2 : goal.invariant_of-self-2
invariant_of-self-2 c =
    let room = c.in_ok-room_for_one.ensures in
    let n = c.in_ok-number.number in
    let pushed : c.push_reserved.new.self.items ≡ c.self.inside.places.items ++ n ∷ [] = c.push_reserved.ensures.items ∙ ap (λ (ns : List ℕ). ns ++ n ∷ []) room.places in
    let here : n < c.room_for_one.new.in_use.places = omega (arith, c.in_ok-number.ensures.within, room.next, c.len-next.ensures.len) in
    ready_one (labels_of_keys c.self.inside.sets.keys) _ c.in_ok-labels.labels.value c.self.inside.places.items _ c.self.inside.in_use c.room_for_one.new.in_use c.self.inside.rows.items c.room_for_one.new.rows.items _ _ n
    c.self.invariant c.in_ok-number.ensures.sets c.in_ok-number.ensures.place pushed room.numbers room.rows room.kept here room.number room.row

pub returns-clause-sets : goal.returns-clause-sets
returns-clause-sets c =
    let all = labels_of_keys c.self.inside.sets.keys in
    let places = c.self.inside.places.items in
    let l = c.in_ok-labels.labels.value in
    let n = c.in_ok-number.number in
    let grown = c.in_ok-number.ensures.sets in
    let found : place (same_labels l) (with_series all l) ≡ Some n = ap (place (same_labels l)) (sym grown) ∙ c.in_ok-number.ensures.place in
    let pushed : c.push_reserved.new.self.items ≡ places ++ n ∷ [] = c.push_reserved.ensures.items ∙ ap (λ (ns : List ℕ). ns ++ n ∷ []) c.in_ok-room_for_one.ensures.places in
    let labels : l ≡ (row_of c.args.raw.now).labels = c.in_ok-labels.ensures.ok ∙ c.in_ok-row_labels.ensures.labels in
    ap (sets_in (labels_of_keys c.number_of.new.sets.keys)) pushed ∙ ap (λ (ss : List Labels). sets_in ss (places ++ n ∷ [])) grown ∙ sets_push all l places n c.self.invariant.checked found
    ∙ ap (λ (m : Labels). sets_in all places ++ m ∷ []) labels ∙ ap (λ v. v.sets ++ (row_of c.args.raw.now).labels ∷ []) c.self.view_is

pub returns-clause-rows : goal.returns-clause-rows
returns-clause-rows c =
    let all = labels_of_keys c.self.inside.sets.keys in
    let now = labels_of_keys c.number_of.new.sets.keys in
    let numbers = c.self.inside.in_use.numbers in
    let rows = c.self.inside.rows.items in
    let room = c.in_ok-room_for_one.ensures in
    ap (map (with_set (sets_in now c.room_for_one.new.in_use.numbers))) room.rows ∙ ap (λ (ns : List ℕ). map (with_set (sets_in now ns)) rows) room.numbers ∙ ap (λ (ss : List Labels). map (with_set (sets_in ss numbers)) rows) c.in_ok-number.ensures.sets
    ∙ ap (λ (ss : List Labels). map (with_set ss) rows) (sets_kept all c.in_ok-labels.labels.value numbers c.self.invariant.used) ∙ ap (λ v. v.rows) c.self.view_is
