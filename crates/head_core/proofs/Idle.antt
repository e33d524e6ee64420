-- Entries that bind nothing and come to no series.
use Rattle.std.proofs.Common.{◌≡◌, ℕ, List, [], ◌∷◌, ◌++◌, Option, Some, None, refl, ap, sym, ◌∙◌, length}
use Rattle.std.proofs.Math.Path.{fun_ext}
use Rattle.wal_record.specs.declared.record.SeriesEntry.{SeriesEntry}
use Rattle.wal_record.specs.Entries.{Entry, series, sample, stone}
use Rattle.head_series.specs.Table.{Labels, Table, slot_at}
use Rattle.head_resolver.specs.Owners.{binding, bindings}
use Rattle.head_resolver.proofs.Entries.{one_is_some, bindings_append, bindings_push}
use Rattle.head_core.specs.Heads.{HeadValue}
use Rattle.head_core.specs.Room.{IsIdle, sets_of, targets, to_slot}
use Rattle.head_core.specs.Draft.{Drafted, IsDraft, IsItemEntry, IsKept, slot_after, slots_behind}
use Rattle.head_core.proofs.DraftLemmas.{item_targets}

both_none : {A : Type 0} (xs ys : List A) → xs ++ ys ≡ [] → (xs ≡ []) × (ys ≡ [])
both_none [] ys e = (refl, e)
both_none (x ∷ xs) ys e = cc

pub some_is_some : {s : ℕ} → Some s ≡ None → ⊥
some_is_some e = cc

slot_is_none : (o : Option ℕ) → to_slot o [] ≡ [] → o ≡ None
slot_is_none None e = refl
slot_is_none (Some s) e = absurd (one_is_some s [] e)

slots_stay : (ss : List Labels) (at : ℕ → Option ℕ) (es : List Entry) → bindings es ≡ [] → slots_behind ss at es ≡ at
slots_stay ss at [] e = refl
slots_stay ss at (series f ∷ es) e = absurd (one_is_some _ (bindings es) e)
slots_stay ss at (sample f ∷ es) e = slots_stay ss at es e
slots_stay ss at (stone f ∷ es) e = slots_stay ss at es e

to_slot_append : (o : Option ℕ) (xs ys : List ℕ) → to_slot o (xs ++ ys) ≡ to_slot o xs ++ ys
to_slot_append None xs ys = refl
to_slot_append (Some s) xs ys = refl

targets_append : (ss : List Labels) (at : ℕ → Option ℕ) (es fs : List Entry) → bindings es ≡ [] → targets ss at (es ++ fs) ≡ targets ss at es ++ targets ss at fs
targets_append ss at [] fs e = refl
targets_append ss at (series f ∷ es) fs e = absurd (one_is_some _ (bindings es) e)
targets_append ss at (sample f ∷ es) fs e = ap (to_slot (at f.reference)) (targets_append ss at es fs e) ∙ to_slot_append (at f.reference) (targets ss at es) (targets ss at fs)
targets_append ss at (stone f ∷ es) fs e = ap (to_slot (at f.reference)) (targets_append ss at es fs e) ∙ to_slot_append (at f.reference) (targets ss at es) (targets ss at fs)

-- so are those in front
pub idle_front : (t : Table) (es fs : List Entry) → IsIdle t (es ++ fs) → IsIdle t es
idle_front t es fs idle =
    let bound = both_none (bindings es) (bindings fs) (sym (bindings_append es fs) ∙ idle.0) in
    let come = both_none (targets t.series (slot_at t) es) (targets t.series (slot_at t) fs) (sym (targets_append t.series (slot_at t) es fs bound.0) ∙ idle.1) in
    (bound.0, come.0)

-- a binding is not
pub idle_binds_none : (t : Table) (es : List Entry) (e : SeriesEntry) → IsIdle t (es ++ series e ∷ []) → ⊥
idle_binds_none t es e idle =
    let both = both_none (bindings es) (binding (series e)) (sym (bindings_push es (series e)) ∙ idle.0) in
    one_is_some _ [] both.1

-- an item's reference will have no slot
pub idle_item : (h : HeadValue) (d : Drafted) (es : List Entry) (e : Entry) (r : ℕ) → IsItemEntry e r → IsDraft h d es → IsIdle h.content.table (es ++ e ∷ []) → slot_after d (slot_at h.content.table) r ≡ None
idle_item h d es e r is have idle =
    let ss = h.content.table.series in
    let at = slot_at h.content.table in
    let both = both_none (targets ss at es) (to_slot (slots_behind ss at es r) []) (sym (item_targets ss at es e r is) ∙ idle.1) in
    have.noted.slots r ∙ slot_is_none (slots_behind ss at es r) both.1

-- in a head that shows the same they are too
pub idle_kept : (h k : HeadValue) (es : List Entry) → IsKept h k → IsIdle h.content.table es → IsIdle k.content.table es
idle_kept h k es kept idle =
    let at : slot_at k.content.table ≡ slot_at h.content.table = fun_ext kept.content.slots in
    (idle.0, ap (λ (ss : List Labels). targets ss (slot_at k.content.table) es) kept.content.series ∙ ap (λ (at : ℕ → Option ℕ). targets h.content.table.series at es) at ∙ idle.1)

-- nothing is bound
pub idle_sets : (t : Table) (es : List Entry) → IsIdle t es → length (sets_of es) ≡ 0
idle_sets t es idle = rw idle.0 refl
