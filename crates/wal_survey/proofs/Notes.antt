-- References that are noted, as entries of a map.
use Rattle.std.proofs.Common.{arith, ◌≡◌, ℕ, ◌+◌, suc, Bool, true, false, List, [], ◌∷◌, ◌++◌, length, Some, None, refl, sym, ap, ◌∙◌}
use Rattle.std.specs.Prelude.{position, nat_lt, filter, not, nat_eq, count_by, is_some, if◌then◌else◌, slice_get}
use Rattle.std.specs.List.{find, list_any, position_or_len}
use Rattle.std.specs.Map.{lookup}
use Rattle.std.specs.Option.{option_map}
use Rattle.std.proofs.lemmas.Bool.{le-ltb, ltb-false}
use Rattle.std.proofs.lemmas.List.Folds.{find_at}
use Rattle.std.proofs.lemmas.List.Sums.{length-filter}
use Rattle.indexmap.specs.IndexMap.{insert_entry}
use Rattle.wal_log.specs.declared.reading.Place.{Place}
use Rattle.wal_survey.specs.ReferenceSets.{ReferenceSetValue, has}
use Rattle.wal_survey.specs.Keeping.{is_missing, note_of, noted_with, notes_of}
use Rattle.wal_survey.specs.Unbound.{same_reference}

-- a key is found exactly if it is noted
pub found_noted : (r : ℕ) (place : Place) (es : List (ℕ × Place)) → is_some (lookup (nat_eq r) es) ≡ list_any (same_reference (record { reference = r; place = place })) (notes_of es)
found_noted r place [] = refl
found_noted r place (e ∷ es) = by (found_noted r place es) (nat_eq r e.0) refl where
  by : is_some (lookup (nat_eq r) es) ≡ list_any (same_reference (record { reference = r; place = place })) (notes_of es) → (b : Bool) → nat_eq r e.0 ≡ b → is_some (lookup (nat_eq r) (e ∷ es)) ≡ list_any (same_reference (record { reference = r; place = place })) (notes_of (e ∷ es))
  by rest true h = rw h refl
  by rest false h = rw h rest

-- a new key goes after the others
pub note_new : (r : ℕ) (place : Place) (es : List (ℕ × Place)) → is_some (lookup (nat_eq r) es) ≡ false → notes_of (insert_entry nat_eq es r place) ≡ notes_of es ++ record { reference = r; place = place } ∷ []
note_new r place [] h = refl
note_new r place (e ∷ es) h = by (note_new r place es) (nat_eq r e.0) refl h where
  by : (is_some (lookup (nat_eq r) es) ≡ false → notes_of (insert_entry nat_eq es r place) ≡ notes_of es ++ record { reference = r; place = place } ∷ []) → (b : Bool) → nat_eq r e.0 ≡ b → is_some (lookup (nat_eq r) (e ∷ es)) ≡ false → notes_of (insert_entry nat_eq (e ∷ es) r place) ≡ notes_of (e ∷ es) ++ record { reference = r; place = place } ∷ []
  by rest true f g = (let k = rw f at g in absurd cc)
  by rest false f g = rw f (ap (λ z. record { reference = e.0; place = e.1 } ∷ z) (rest (rw f at g)))

-- the same as the words of the contract
pub note_absent : (r : ℕ) (place : Place) (es fs : List (ℕ × Place)) → is_some (lookup (nat_eq r) es) ≡ false → fs ≡ insert_entry nat_eq es r place → notes_of fs ≡ noted_with (notes_of es) (record { reference = r; place = place })
note_absent r place es fs absent made =
    ap notes_of made ∙ note_new r place es absent
    ∙ ap (λ b. if b then notes_of es else notes_of es ++ record { reference = r; place = place } ∷ []) (sym absent ∙ found_noted r place es)

pub note_there : (r : ℕ) (place : Place) (es : List (ℕ × Place)) → is_some (lookup (nat_eq r) es) ≡ true → notes_of es ≡ noted_with (notes_of es) (record { reference = r; place = place })
note_there r place es there = ap (λ b. if b then notes_of es else notes_of es ++ record { reference = r; place = place } ∷ []) (sym there ∙ found_noted r place es)

module _ (bound : ReferenceSetValue) where
  -- how many are not bound
  pub counted : (es : List (ℕ × Place)) → count_by (λ e. not (has bound e.0)) es ≡ length (filter (is_missing bound) (notes_of es))
  counted es = sym (length-filter (λ (e : ℕ × Place). not (has bound e.0)) es) ∙ alike es where
    alike : (fs : List (ℕ × Place)) → length (filter (λ e. not (has bound e.0)) fs) ≡ length (filter (is_missing bound) (notes_of fs))
    alike [] = refl
    alike (e ∷ fs) = by (not (has bound e.0)) (alike fs) where
      by : (b : Bool) → length (filter (λ z. not (has bound z.0)) fs) ≡ length (filter (is_missing bound) (notes_of fs))
          → length (if b then e ∷ filter (λ z. not (has bound z.0)) fs else filter (λ z. not (has bound z.0)) fs) ≡ length (if b then record { reference = e.0; place = e.1 } ∷ filter (is_missing bound) (notes_of fs) else filter (is_missing bound) (notes_of fs))
      by true rest = ap suc rest
      by false rest = rest

  -- the first that is not bound
  pub found_first : (es : List (ℕ × Place)) → option_map note_of (find (λ e. not (has bound e.0)) es) ≡ slice_get (filter (is_missing bound) (notes_of es)) 0
  found_first [] = refl
  found_first (e ∷ es) = by (found_first es) (not (has bound e.0)) refl where
    by : option_map note_of (find (λ z. not (has bound z.0)) es) ≡ slice_get (filter (is_missing bound) (notes_of es)) 0 → (b : Bool) → not (has bound e.0) ≡ b
        → option_map note_of (find (λ z. not (has bound z.0)) (e ∷ es)) ≡ slice_get (filter (is_missing bound) (notes_of (e ∷ es))) 0
    by rest true h = rw h refl
    by rest false h = rw h rest

-- what is found at a place, and that nothing is found
module _ {A : Type 0} (p : A → Bool) where
  pub found_at : (xs : List A) (i : ℕ) → position p xs ≡ Some i → find p xs ≡ slice_get xs i
  found_at xs i h = by (nat_lt (position_or_len p xs) (length xs)) h where
    by : (b : Bool) → (if b then Some (position_or_len p xs) else None) ≡ Some i → find p xs ≡ slice_get xs i
    by true e = (let same : position_or_len p xs ≡ i = cc in find_at p xs ∙ ap (slice_get xs) same)
    by false e = absurd cc

  pub not_found : (xs : List A) → position p xs ≡ None → find p xs ≡ None
  not_found xs h = by (nat_lt (position_or_len p xs) (length xs)) refl h where
    past : (ys : List A) → nat_lt (position_or_len p ys) (length ys) ≡ false → find p ys ≡ None
    past [] e = refl
    past (y ∷ ys) e = step (p y) (past ys) e where
      step : (b : Bool) → (nat_lt (position_or_len p ys) (length ys) ≡ false → find p ys ≡ None) → nat_lt (if not b then 1 + position_or_len p ys else 0) (length (y ∷ ys)) ≡ false → (if b then Some y else find p ys) ≡ None
      step true rest k = absurd (let short = ltb-false 0 (length (y ∷ ys)) k in omega (arith, short))
      step false rest k = rest (le-ltb (position_or_len p ys) (length ys) (let more = ltb-false (1 + position_or_len p ys) (length (y ∷ ys)) k in omega (arith, more)))

    by : (b : Bool) → nat_lt (position_or_len p xs) (length xs) ≡ b → (if b then Some (position_or_len p xs) else None) ≡ None → find p xs ≡ None
    by true e k = absurd cc
    by false e k = past xs e
