use Rattle.std.proofs.Common.{◌≡◌, ◌≤◌, ◌<◌, List, Some, length, refl, ap, sym, subst}
use Rattle.std.specs.Prelude.{map, slice_get, slice_set, OnOk}
use Rattle.std.proofs.lemmas.Option.{slice_get_read}
use Rattle.head_column.specs.Histories.{ColumnValue}
use Rattle.head_core.specs.Draft.{AreWider, Drafted}
use Rattle.head_core.proofs.DraftLemmas.{spare_own, spare_wider}
use Rattle.head_core.proofs.draft.RoomDraft.widen.Goals as goal

pub returns-clause-spares : goal.returns-clause-spares
returns-clause-spares c =
    let columns = c.self.inside.columns.items in
    let within : c.args.index < length columns = c.in-Some.ensures.item.3.0 in
    let column : slice_get columns c.args.index ≡ Some c.in-Some.column.now = slice_get_read columns (length columns) c.args.index c.in-Some.column.now refl within c.in-Some.ensures.value in
    subst (λ (cs : List ColumnValue). AreWider (map (λ (x : ColumnValue). x.spare) cs) (map (λ (x : ColumnValue). x.spare) (slice_set columns c.args.index c.reserve.new.self))) (ap (λ (d : Drafted). d.made.columns) c.self.view_is)
    (spare_wider columns c.args.index c.in-Some.column.now c.reserve.new.self column c.reserve.ensures.spare)

pub returns-clause-room : goal.returns-clause-room
returns-clause-room c = λ l.
    let columns = c.self.inside.columns.items in
    let within : c.args.index < length columns = c.in-Some.ensures.item.3.0 in
    let column : slice_get columns c.args.index ≡ Some c.in-Some.column.now = slice_get_read columns (length columns) c.args.index c.in-Some.column.now refl within c.in-Some.ensures.value in
    subst (λ n. OnOk c.reserve.result (c.args.many ≤ n)) (sym (spare_own columns c.args.index c.in-Some.column.now c.reserve.new.self column)) c.reserve.ensures.room
