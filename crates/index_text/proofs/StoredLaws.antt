-- Labels out of what is stored of them.
use Rattle.std.proofs.Common.{◌≡◌, ℕ, zero, suc, ◌+◌, ◌<◌, List, [], ◌∷◌, ◌++◌, length, get_or, map, take, drop, sym, ap, subst, ◌∙◌, arith}
use Rattle.std.proofs.lemmas.List.{take_more, drop_more, map-append, take-append-drop}
use Rattle.wal_record.specs.declared.labels.Label.{Label}
use Rattle.wal_record.specs.Labels.{IsLabelSet, IsNext}
use Rattle.wal_record.proofs.Ordered.{IsLabelSet-within}
use Rattle.index_text.specs.Layout.{Text}
use Rattle.index_text.specs.Reading.{label_at, labels_at, row_of}
use Rattle.std.specs.List.{AllByRecursion}
use Rattle.index_text.specs.declared.stored.StoredSeries.{StoredSeries}
use Rattle.index_text.specs.Fields.{Stored}
use Rattle.index_text.specs.Rows.{AreRows, IsRow}
use Rattle.index_text.specs.Stored.{stored}

first_is : {A : Type 0} (x y : A) (xs ys : List A) → (x ∷ xs) ≡ (y ∷ ys) → x ≡ y
first_is x y xs ys e = cc

pub taken : {A : Type 0} (xs : List A) (i : ℕ) (x : A) → i < length xs → drop i xs ≡ x ∷ drop (i + 1) xs → take (i + 1) xs ≡ take i xs ++ x ∷ []
taken xs i x lt e =
    let same : get_or xs i x ≡ x = first_is (get_or xs i x) x (drop (i + 1) xs) (drop (i + 1) xs) (sym (drop_more xs i x lt) ∙ e) in
    take_more xs i x lt ∙ ap (λ y. take i xs ++ y ∷ []) same

pub label_added : (table : List Text) (references : List (ℕ × ℕ)) (i : ℕ) (reference : ℕ × ℕ) (old new : List Label) → i < length references → drop i references ≡ reference ∷ drop (i + 1) references
    → old ≡ labels_at table (take i references) → new ≡ old ++ label_at table reference ∷ [] → new ≡ labels_at table (take (i + 1) references)
label_added table references i reference old new lt e so_far more =
    more ∙ ap (λ t. t ++ label_at table reference ∷ []) so_far ∙ sym (map-append (label_at table) (take i references) (reference ∷ []))
    ∙ ap (labels_at table) (sym (taken references i reference lt e))

pub label_refused : (table : List Text) (references : List (ℕ × ℕ)) (i : ℕ) (reference : ℕ × ℕ) (old : List Label) → drop i references ≡ reference ∷ drop (i + 1) references
    → old ≡ labels_at table (take i references) → ((0 < length (label_at table reference).name) × IsNext old (label_at table reference).name → ⊥) → IsLabelSet (labels_at table references) → ⊥
label_refused table references i reference old e so_far refused set =
    let parts : references ≡ take i references ++ reference ∷ drop (i + 1) references = sym (take-append-drop i references) ∙ ap (λ t. take i references ++ t) e in
    let all : labels_at table references ≡ old ++ label_at table reference ∷ labels_at table (drop (i + 1) references) =
    (ap (labels_at table) parts ∙ map-append (label_at table) (take i references) (reference ∷ drop (i + 1) references) ∙ ap (λ t. t ++ label_at table reference ∷ labels_at table (drop (i + 1) references)) (sym so_far)) in
    refused (IsLabelSet-within old (label_at table reference) (labels_at table (drop (i + 1) references)) (subst IsLabelSet all set))

all_at : {X : Type 0} (P : X → Type 0) (xs : List X) (i : ℕ) (x : X) → i < length xs → x ≡ get_or xs i x → AllByRecursion P xs → P x
all_at P [] i x lt e h = absurd (omega (arith, lt))
all_at P (y ∷ ys) zero x lt e h = subst P (sym e) h.0
all_at P (y ∷ ys) (suc i) x lt e h = all_at P ys i x (omega (arith, lt)) e h.1

all_of_map : {X Y : Type 0} (P : Y → Type 0) (f : X → Y) (xs : List X) → AllByRecursion P (map f xs) → AllByRecursion (λ x. P (f x)) xs
all_of_map P f [] h = tt
all_of_map P f (x ∷ xs) h = (h.0, all_of_map P f xs h.1)

-- where one stored series makes no row, they make no rows
pub row_refused : (table : List Text) (series : List StoredSeries) (i : ℕ) (one : StoredSeries) → i < length series → one ≡ get_or series i one
    → (IsRow (row_of table (stored one)) → ⊥) → AreRows (map (row_of table) (map stored series)) → ⊥
row_refused table series i one lt e refused rows =
    refused (all_at (λ (s : StoredSeries). IsRow (row_of table (stored s))) series i one lt e
    (all_of_map (λ (s : Stored). IsRow (row_of table s)) stored series (all_of_map IsRow (row_of table) (map stored series) rows.each)))
