-- The slots of references at the places of a window.
use Rattle.std.proofs.Common.{◌≡◌, ℕ, ◌+◌, ◌<◌, ◌≤◌, ◌==◌, Bool, true, false, List, [], ◌∷◌, ◌++◌, Option, Some, None, refl, ap, sym, ◌∙◌, arith, length, eqb-true, add-zero, append_assoc}
use Rattle.std.specs.Prelude.{◌&&◌, map, nat_le, if◌then◌else◌}
use Rattle.std.specs.List.{flat_map}
use Rattle.std.specs.Option.{option_and_then}
use Rattle.std.proofs.lemmas.Bool.Decides.{nat_tests}
use Rattle.std.proofs.lemmas.List.{map-append}
use Rattle.std.proofs.lemmas.List.Concat.{flat_map-append}
use Rattle.hw_bytes.specs.Lists.{or_else}
use Rattle.hw_bytes.proofs.Lists.{append_none, last_found-push}
use Rattle.wal_record.specs.declared.record.SeriesEntry.{SeriesEntry}
use Rattle.wal_record.specs.declared.record.WalRecord.{WalRecord}
use Rattle.wal_record.specs.Labels.{same_labels}
use Rattle.wal_record.specs.Entries.{Entry, series, sample, stone, entries_in, entries_of}
use Rattle.wal_record.specs.Validity.{series_in}
use Rattle.head_series.specs.Texts.{place}
use Rattle.head_series.specs.Table.{Labels, Table, slot_at}
use Rattle.head_series.specs.Bindings.{Binding, IsTableOf, bound_by, series_of, owner as owner_of}
use Rattle.head_series.proofs.BindLemmas.{slot_place}
use Rattle.head_resolver.specs.Owners.{bindings, owner}
use Rattle.head_resolver.specs.Resolved.{slot_behind}
use Rattle.head_resolver.specs.Changes.{Change, changes_of, placed_series, slot_before}
use Rattle.head_resolver.proofs.Entries.{bindings_append, bindings_push}
use Rattle.head_resolver.proofs.Known.{is_bound-series_of, owner_is_bound}
use Rattle.head_resolver.proofs.Limits.{later_series, series_split}
use Rattle.head_resolver.proofs.Slots.{place_front}

-- ---- slots after entries

-- only bindings move a slot
pub same_slots : (es fs : List Entry) (r : ℕ) → bindings es ≡ bindings fs → slot_behind es r ≡ slot_behind fs r
same_slots es fs r e = ap (λ (bs : List Binding). option_and_then (λ l. place (same_labels l) (series_of bs)) (owner_of bs r)) e

-- the slots of the table of the entries
pub table_slots : (es : List Entry) (t : Table) (r : ℕ) → IsTableOf (bindings es) t → slot_at t r ≡ slot_behind es r
table_slots es t r h = slot_place (bindings es) t r h ∙ ap (λ (ss : List Labels). option_and_then (λ l. place (same_labels l) ss) (owner es r)) h.series

-- a binding of another reference moves none
other_slot : (es : List Entry) (e : SeriesEntry) (r : ℕ) → (e.reference == r) ≡ false → slot_behind (es ++ series e ∷ []) r ≡ slot_behind es r
other_slot es e r other =
    ap (option_and_then (λ l. place (same_labels l) (series_of (bindings (es ++ series e ∷ []))))) owned ∙ by (owner es r) refl
  where
    bound : Binding
    bound = record { reference = e.reference; labels = e.labels }

    owned : owner (es ++ series e ∷ []) r ≡ owner es r
    owned =
        ap (λ bs. owner_of bs r) (bindings_push es (series e))
        ∙ last_found-push (bound_by r) (bindings es) (record { reference = e.reference; labels = e.labels })
        ∙ ap (λ b. or_else (if b then Some e.labels else None) (owner es r)) other

    by : (o : Option Labels) → owner es r ≡ o → option_and_then (λ l. place (same_labels l) (series_of (bindings (es ++ series e ∷ [])))) o ≡ option_and_then (λ l. place (same_labels l) (series_of (bindings es))) o
    by None k = refl
    by (Some l) k =
        ap (place (same_labels l)) (series_split es (series e ∷ []))
        ∙ place_front (same_labels l) (series_of (bindings es)) (later_series es (series e ∷ [])) (is_bound-series_of (bindings es) l ∙ owner_is_bound (bindings es) r l k)

-- ---- series entries with their places

abbrev pub entries_at : List (ℕ × SeriesEntry) → List Entry
entries_at ds = map (λ d. series d.1) ds

-- all places are at p or after it
abbrev AreFrom : ℕ → List (ℕ × SeriesEntry) → Type 0
AreFrom p [] = Unit {0}
AreFrom p (d ∷ ds) = (p ≤ d.0) × AreFrom p ds

-- all places are before p
abbrev AreBefore : ℕ → List (ℕ × SeriesEntry) → Type 0
AreBefore p [] = Unit {0}
AreBefore p (d ∷ ds) = (d.0 < p) × AreBefore p ds

from_both : (p : ℕ) (ds fs : List (ℕ × SeriesEntry)) → AreFrom p ds → AreFrom p fs → AreFrom p (ds ++ fs)
from_both p [] fs a b = b
from_both p (d ∷ ds) fs a b = (a.0, from_both p ds fs a.1 b)

before_both : (p : ℕ) (ds fs : List (ℕ × SeriesEntry)) → AreBefore p ds → AreBefore p fs → AreBefore p (ds ++ fs)
before_both p [] fs a b = b
before_both p (d ∷ ds) fs a b = (a.0, before_both p ds fs a.1 b)

from_one : (p n : ℕ) (es : List SeriesEntry) → p ≤ n → AreFrom p (map (λ e. (n, e)) es)
from_one p n [] h = tt
from_one p n (e ∷ es) h = (h, from_one p n es h)

before_one : (p n : ℕ) (es : List SeriesEntry) → n < p → AreBefore p (map (λ e. (n, e)) es)
before_one p n [] h = tt
before_one p n (e ∷ es) h = (h, before_one p n es h)

places_from : (p n : ℕ) (rs : List WalRecord) → p ≤ n → AreFrom p (placed_series n rs)
places_from p n [] h = tt
places_from p n (r ∷ rs) h = from_both p (map (λ e. (n, e)) (flat_map series_in (entries_in r))) (placed_series (n + 1) rs) (from_one p n (flat_map series_in (entries_in r)) h) (places_from p (n + 1) rs (omega arith))

places_before : (p n : ℕ) (rs : List WalRecord) → n + length rs ≤ p → AreBefore p (placed_series n rs)
places_before p n [] h = tt
places_before p n (r ∷ rs) h = before_both p (map (λ e. (n, e)) (flat_map series_in (entries_in r))) (placed_series (n + 1) rs) (before_one p n (flat_map series_in (entries_in r)) (omega arith)) (places_before p (n + 1) rs (omega arith))

-- records after others
pub placed_both : (n : ℕ) (rs qs : List WalRecord) → placed_series n (rs ++ qs) ≡ placed_series n rs ++ placed_series (n + length rs) qs
placed_both n [] qs = ap (λ k. placed_series k qs) (sym (add-zero n))
placed_both n (r ∷ rs) qs =
    let here : List (ℕ × SeriesEntry) = map (λ e. (n, e)) (flat_map series_in (entries_in r)) in
    let k : (n + 1) + length rs ≡ n + length (r ∷ rs) = omega arith in
    ap (λ (ds : List (ℕ × SeriesEntry)). here ++ ds) (placed_both (n + 1) rs qs ∙ ap (λ j. placed_series (n + 1) rs ++ placed_series j qs) k)
    ∙ sym (append_assoc here (placed_series (n + 1) rs) (placed_series (n + length (r ∷ rs)) qs))

-- series entries bind what the entries among which they are bind
pub bind_alike : (fs : List Entry) → bindings (map series (flat_map series_in fs)) ≡ bindings fs
bind_alike [] = refl
bind_alike (series e ∷ fs) = ap (λ bs. record { reference = e.reference; labels = e.labels } ∷ bs) (bind_alike fs)
bind_alike (sample s ∷ fs) = bind_alike fs
bind_alike (stone d ∷ fs) = bind_alike fs

entries_here : (n : ℕ) (es : List SeriesEntry) → entries_at (map (λ e. (n, e)) es) ≡ map series es
entries_here n [] = refl
entries_here n (e ∷ es) = ap (λ fs. series e ∷ fs) (entries_here n es)

pub placed_bind : (n : ℕ) (rs : List WalRecord) → bindings (entries_at (placed_series n rs)) ≡ bindings (entries_of rs)
placed_bind n [] = refl
placed_bind n (r ∷ rs) =
    let es : List SeriesEntry = flat_map series_in (entries_in r) in
    ap bindings (map-append (λ (d : ℕ × SeriesEntry). series d.1) (map (λ e. (n, e)) es) (placed_series (n + 1) rs) ∙ ap (λ fs. fs ++ entries_at (placed_series (n + 1) rs)) (entries_here n es))
    ∙ bindings_append (map series es) (entries_at (placed_series (n + 1) rs))
    ∙ ap (λ bs. bs ++ bindings (entries_at (placed_series (n + 1) rs))) (bind_alike (entries_in r))
    ∙ ap (λ bs. bindings (entries_in r) ++ bs) (placed_bind (n + 1) rs)
    ∙ sym (bindings_append (entries_in r) (entries_of rs))

-- ---- changes

pub changes_both : (es : List Entry) (ds fs : List (ℕ × SeriesEntry)) → changes_of es (ds ++ fs) ≡ changes_of es ds ++ changes_of (es ++ entries_at ds) fs
changes_both es [] fs = ap (λ gs. changes_of gs fs) (sym (append_none es))
changes_both es (d ∷ ds) fs =
    let here : Change = record { reference = d.1.reference; place = d.0; before = slot_behind es d.1.reference } in
    ap (λ cs. here ∷ cs) (changes_both (es ++ series d.1 ∷ []) ds fs ∙ ap (λ gs. changes_of (es ++ series d.1 ∷ []) ds ++ changes_of gs fs) (append_assoc es (series d.1 ∷ []) (entries_at ds)))

-- what was bound before changes nothing but what it binds
pub changes_same : (es fs : List Entry) (ds : List (ℕ × SeriesEntry)) → bindings es ≡ bindings fs → changes_of es ds ≡ changes_of fs ds
changes_same es fs [] e = refl
changes_same es fs (d ∷ ds) e =
    let grown : bindings (es ++ series d.1 ∷ []) ≡ bindings (fs ++ series d.1 ∷ []) = bindings_push es (series d.1) ∙ ap (λ bs. bs ++ record { reference = d.1.reference; labels = d.1.labels } ∷ []) e ∙ sym (bindings_push fs (series d.1)) in
    let one : Option ℕ → Change = λ o. record { reference = d.1.reference; place = d.0; before = o } in
    ap (λ o. one o ∷ changes_of (es ++ series d.1 ∷ []) ds) (same_slots es fs d.1.reference e)
    ∙ ap (λ cs. one (slot_behind fs d.1.reference) ∷ cs) (changes_same (es ++ series d.1 ∷ []) (fs ++ series d.1 ∷ []) ds grown)

-- changes before the place say nothing of it
pass_front : (es : List Entry) (ds : List (ℕ × SeriesEntry)) (cs : List Change) (after : ℕ → Option ℕ) (p r : ℕ) → AreBefore p ds → slot_before (changes_of es ds ++ cs) after p r ≡ slot_before cs after p r
pass_front es [] cs after p r h = refl
pass_front es (d ∷ ds) cs after p r h =
    let low = h.0 in
    let no : nat_le p d.0 ≡ false = grind (arith, nat_tests) in
    let rest : List Change = changes_of (es ++ series d.1 ∷ []) ds ++ cs in
    ap (λ b. if (d.1.reference == r) && b then slot_behind es d.1.reference else slot_before rest after p r) no
    ∙ pass (d.1.reference == r) (slot_behind es d.1.reference) (slot_before rest after p r)
    ∙ pass_front (es ++ series d.1 ∷ []) ds cs after p r h.1
  where
    pass : (b : Bool) (x y : Option ℕ) → (if b && false then x else y) ≡ y
    pass true x y = refl
    pass false x y = refl

-- the first of the reference that is at the place or after it says what the reference named there
find_behind : (es : List Entry) (ds : List (ℕ × SeriesEntry)) (after : ℕ → Option ℕ) (p r : ℕ) → AreFrom p ds → after r ≡ slot_behind (es ++ entries_at ds) r → slot_before (changes_of es ds) after p r ≡ slot_behind es r
find_behind es [] after p r h a = a ∙ ap (λ fs. slot_behind fs r) (append_none es)
find_behind es (d ∷ ds) after p r h a =
    let low = h.0 in
    let yes : nat_le p d.0 ≡ true = grind (arith, nat_tests) in
    let rest : Option ℕ = slot_before (changes_of (es ++ series d.1 ∷ []) ds) after p r in
    let found : rest ≡ slot_behind (es ++ series d.1 ∷ []) r = find_behind (es ++ series d.1 ∷ []) ds after p r h.1 (a ∙ ap (λ fs. slot_behind fs r) (sym (append_assoc es (series d.1 ∷ []) (entries_at ds)))) in
    ap (λ b. if (d.1.reference == r) && b then slot_behind es d.1.reference else rest) yes ∙ at (d.1.reference == r) rest refl found
  where
    at : (b : Bool) (rest : Option ℕ) → (d.1.reference == r) ≡ b → rest ≡ slot_behind (es ++ series d.1 ∷ []) r → (if b && true then slot_behind es d.1.reference else rest) ≡ slot_behind es r
    at true rest e found = ap (slot_behind es) (eqb-true d.1.reference r e)
    at false rest e found = found ∙ other_slot es d.1 r e

-- after the first records of a window
pub at_place : (es : List Entry) (front back : List WalRecord) (after : ℕ → Option ℕ) (p r : ℕ) → after r ≡ slot_behind (es ++ entries_of (front ++ back)) r → p ≡ length front
    → slot_before (changes_of es (placed_series 0 (front ++ back))) after p r ≡ slot_behind (es ++ entries_of front) r
at_place es front back after p r a is =
    let ds : List (ℕ × SeriesEntry) = placed_series 0 front in
    let fs : List (ℕ × SeriesEntry) = placed_series (0 + length front) back in
    let here : bindings (es ++ entries_at ds) ≡ bindings (es ++ entries_of front) = bindings_append es (entries_at ds) ∙ ap (λ bs. bindings es ++ bs) (placed_bind 0 front) ∙ sym (bindings_append es (entries_of front)) in
    let all : bindings (es ++ entries_of (front ++ back)) ≡ bindings ((es ++ entries_at ds) ++ entries_at fs) =
    ap (λ gs. bindings (es ++ gs)) (flat_map-append entries_in front back)
    ∙ ap bindings (sym (append_assoc es (entries_of front) (entries_of back)))
    ∙ bindings_append (es ++ entries_of front) (entries_of back)
    ∙ ap (λ bs. bs ++ bindings (entries_of back)) (sym here)
    ∙ ap (λ bs. bindings (es ++ entries_at ds) ++ bs) (sym (placed_bind (0 + length front) back))
    ∙ sym (bindings_append (es ++ entries_at ds) (entries_at fs)) in
    ap (λ gs. slot_before (changes_of es gs) after p r) (placed_both 0 front back)
    ∙ ap (λ cs. slot_before cs after p r) (changes_both es ds fs)
    ∙ pass_front es ds (changes_of (es ++ entries_at ds) fs) after p r (places_before p 0 front (omega arith))
    ∙ find_behind (es ++ entries_at ds) fs after p r (places_from p (0 + length front) back (omega arith)) (a ∙ same_slots (es ++ entries_of (front ++ back)) ((es ++ entries_at ds) ++ entries_at fs) r all)
    ∙ same_slots (es ++ entries_at ds) (es ++ entries_of front) r here
