-- The entries of records one after another, and what they bind.
use Rattle.std.proofs.Common.{◌≡◌, ℕ, ◌+◌, ◌<◌, ◌≤◌, List, [], ◌∷◌, ◌++◌, refl, ap, sym, ◌∙◌, arith, append_assoc, length, length-append, take, drop, get_or}
use Rattle.std.specs.Prelude.{map}
use Rattle.std.proofs.lemmas.List.{take-append-drop, take_more}
use Rattle.std.proofs.lemmas.Grind.{flat_map-append}
use Rattle.hw_bytes.proofs.Lists.{append_none, flat_map-push}
use Rattle.wal_record.specs.declared.record.SeriesEntry.{SeriesEntry}
use Rattle.wal_record.specs.declared.record.WalRecord.{WalRecord}
use Rattle.wal_record.specs.Entries.{Entry, series, entries_in, entries_of}
use Rattle.head_resolver.specs.Owners.{binding, bindings}

-- the bindings, with one entry more
pub bindings_push : (es : List Entry) (e : Entry) → bindings (es ++ e ∷ []) ≡ bindings es ++ binding e
bindings_push [] e = append_none (binding e)
bindings_push (f ∷ es) e = ap (λ bs. binding f ++ bs) (bindings_push es e) ∙ sym (append_assoc (binding f) (bindings es) (binding e))

pub bindings_append : (es fs : List Entry) → bindings (es ++ fs) ≡ bindings es ++ bindings fs
bindings_append es fs = flat_map-append binding es fs

-- the first of a list, as a loop has read it
pub front_at : {A : Type 0} (xs : List A) (i : ℕ) (x : A) → i < length xs → x ≡ get_or xs i x → take (i + 1) xs ≡ take i xs ++ x ∷ []
front_at xs i x within is = take_more xs i x within ∙ ap (λ y. take i xs ++ y ∷ []) (sym is)

pub records_push : (rs : List WalRecord) (i : ℕ) (r : WalRecord) → i < length rs → r ≡ get_or rs i r → entries_of (take i rs) ++ entries_in r ≡ entries_of (take (i + 1) rs)
records_push rs i r within is = sym (ap entries_of (front_at rs i r within is) ∙ flat_map-push entries_in (take i rs) r)

pub records_at : (rs : List WalRecord) (i : ℕ) (r : WalRecord) → i < length rs → r ≡ get_or rs i r → entries_of rs ≡ (entries_of (take i rs) ++ entries_in r) ++ entries_of (drop (i + 1) rs)
records_at rs i r within is =
    ap entries_of (sym (take-append-drop (i + 1) rs)) ∙ flat_map-append entries_in (take (i + 1) rs) (drop (i + 1) rs)
    ∙ ap (λ fs. fs ++ entries_of (drop (i + 1) rs)) (sym (records_push rs i r within is))

-- so many entries, and these are not all
pub records_long : (rs : List WalRecord) (i : ℕ) (r : WalRecord) → i < length rs → r ≡ get_or rs i r → length (entries_of (take i rs)) + length (entries_in r) ≤ length (entries_of rs)
records_long rs i r within is =
    let a = ap length (records_at rs i r within is) in
    let b = length-append (entries_of (take i rs) ++ entries_in r) (entries_of (drop (i + 1) rs)) in
    let c = length-append (entries_of (take i rs)) (entries_in r) in
    omega (arith, a, b, c)

pub one_is_some : {A : Type 0} (x : A) (xs : List A) → x ∷ xs ≡ [] → ⊥
one_is_some x xs e = cc

-- series entries bind something, if there are any
pub binds_none : (entries : List SeriesEntry) → bindings (map series entries) ≡ [] → entries ≡ []
binds_none [] e = refl
binds_none (f ∷ entries) e = absurd (one_is_some _ (bindings (map series entries)) e)
