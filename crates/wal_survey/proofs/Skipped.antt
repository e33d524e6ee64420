-- Counts of types, with one more type.
use Rattle.std.proofs.Common.{◌≡◌, ℕ, ◌+◌, Bool, true, false, cond, List, [], ◌∷◌, ◌++◌, Option, Some, None, refl, sym, ap, ◌∙◌, arith}
use Rattle.std.specs.Prelude.{◌||◌, if◌then◌else◌, length, map, nat_eq, nat_lt, not, count_by, position, slice_set, slice_index_or}
use Rattle.std.specs.Cmp.{IsEquivalence}
use Rattle.std.specs.Cmp.Lexicographic.{options_equiv}
use Rattle.std.specs.List.{list_any, position_or_len}
use Rattle.std.specs.Option.{option_eq}
use Rattle.std.proofs.lemmas.Bool.{le-ltb, ltb-false}
use Rattle.std.proofs.lemmas.Cmp.{nat_eq_equiv}
use Rattle.std.proofs.lemmas.List.{map-append}
use Rattle.std.proofs.lemmas.List.Sums.{sum_by-cons, sum_by_push}
use Rattle.std.proofs.lemmas.Map.Views.{exact_unsigned_eq}
use Rattle.hw_bytes.specs.Lists.{distinct, place}
use Rattle.hw_bytes.proofs.Lists.{list_any-distinct}
use Rattle.hw_bytes.proofs.Places.{position-map}
use Rattle.wal_survey.specs.declared.counts.SkippedCount.{SkippedCount}
use Rattle.wal_survey.specs.Surveys.{counts_of}
use Rattle.wal_survey.proofs.Distinct.{IsFound, any_found, any_none, distinct-IsDistinct, distinct_new, distinct_old, found, map_alike, map_at, map_set, not_found}

abbrev same : Option ℕ → Option ℕ → Bool
same a b = option_eq nat_eq a b

law : IsEquivalence same
law = options_equiv nat_eq_equiv

exact : (a b : Option ℕ) → same a b ≡ true → a ≡ b
exact None None h = refl
exact None (Some y) h = cc
exact (Some x) None h = cc
exact (Some x) (Some y) h = ap Some (exact_unsigned_eq x y h)

-- how often a type occurs, as a count
abbrev count_in : List (Option ℕ) → Option ℕ → SkippedCount
count_in kinds kind = record { kind = kind; records = count_by (same kind) kinds }

-- one type more does not change how often others occur
more : (kinds : List (Option ℕ)) (x k : Option ℕ) → same k x ≡ false → count_in kinds k ≡ count_in (kinds ++ x ∷ []) k
more kinds x k h =
    ap (λ (n : ℕ). record { kind = k; records = n })
    (sym (sum_by_push (λ y. cond (same k y) 1 0) kinds x ∙ (let none : cond (same k x) 1 0 ≡ 0 = ap (λ (b : Bool). cond {A = ℕ} b 1 0) h in omega (arith, none))))

-- and itself it occurs once more
again : (kinds : List (Option ℕ)) (x : Option ℕ) → count_by (same x) (kinds ++ x ∷ []) ≡ count_by (same x) kinds + 1
again kinds x = sum_by_push (λ y. cond (same x y) 1 0) kinds x ∙ ap (λ b. count_by (same x) kinds + cond b 1 0) (law.refl x)

-- a type that is not among these does not occur
none_of : (kinds : List (Option ℕ)) (x : Option ℕ) → list_any (same x) kinds ≡ false → count_by (same x) kinds ≡ 0
none_of [] x h = refl
none_of (k ∷ kinds) x h = by (same x k) refl (λ g. none_of kinds x g) h where
  by : (b : Bool) → same x k ≡ b → (list_any (same x) kinds ≡ false → count_by (same x) kinds ≡ 0) → (b || list_any (same x) kinds) ≡ false → count_by (same x) (k ∷ kinds) ≡ 0
  by true e f g = absurd cc
  by false e f g =
      let none : cond (same x k) 1 0 ≡ 0 = ap (λ (b : Bool). cond {A = ℕ} b 1 0) e in
      let rest = f g in
      sum_by-cons (λ y. cond (same x y) 1 0) k kinds ∙ omega (arith, none, rest)

-- the types of counts
kinds_of : (kinds ds : List (Option ℕ)) → map (λ (c : SkippedCount). c.kind) (map (count_in kinds) ds) ≡ ds
kinds_of kinds [] = refl
kinds_of kinds (d ∷ ds) = ap (λ z. d ∷ z) (kinds_of kinds ds)

-- the place of a type's count is that of the type
placed : (kinds : List (Option ℕ)) (x : Option ℕ) (counts : List SkippedCount) (o : Option ℕ) → counts ≡ counts_of kinds → o ≡ position (λ c. same c.kind x) counts → place (λ k. same k x) (distinct same kinds) ≡ o
placed kinds x counts o are is =
    ap (place (λ k. same k x)) (sym (ap (map (λ (c : SkippedCount). c.kind)) are ∙ kinds_of kinds (distinct same kinds)))
    ∙ sym (position-map (λ (c : SkippedCount). c.kind) (λ k. same k x) counts)
    ∙ sym is

-- a type that was met
pub met_again : (kinds : List (Option ℕ)) (x : Option ℕ) (counts : List SkippedCount) (i n : ℕ) (old : SkippedCount) → counts ≡ counts_of kinds → position (λ c. option_eq nat_eq c.kind x) counts ≡ Some i
    → old ≡ slice_index_or counts i old → n ≡ old.records + 1 → slice_set counts i (record { kind = x; records = n }) ≡ counts_of (kinds ++ x ∷ [])
met_again kinds x counts i n old are at is next =
    let there : IsFound same law exact x (distinct same kinds) i = found same law exact x (distinct same kinds) i (placed kinds x counts (Some i) are (sym at)) in
    let was : old ≡ count_in kinds x = is ∙ ap (λ cs. slice_index_or cs i old) are ∙ map_at same law exact (count_in kinds) x (distinct same kinds) i old there in
    let now : record { kind = x; records = n } ≡ count_in (kinds ++ x ∷ []) x =
    ap (λ m. record { kind = x; records = m }) (next ∙ ap (λ (c : SkippedCount). c.records + 1) was ∙ sym (again kinds x)) in
    let any : list_any (same x) (distinct same kinds) ≡ true = ap (list_any (same x)) there.parts ∙ any_found same law exact x there.front there.back in
    ap (λ cs. slice_set cs i (record { kind = x; records = n })) are
    ∙ ap (λ c. slice_set (counts_of kinds) i c) now
    ∙ map_set same law exact (count_in kinds) (count_in (kinds ++ x ∷ [])) x (more kinds x) (distinct same kinds) i (distinct-IsDistinct same law exact kinds) there
    ∙ ap (map (count_in (kinds ++ x ∷ []))) (sym (distinct_old same law exact kinds x any))

-- a type that was not met before
pub met_first : (kinds : List (Option ℕ)) (x : Option ℕ) (counts : List SkippedCount) → counts ≡ counts_of kinds → position (λ c. option_eq nat_eq c.kind x) counts ≡ None
    → counts ++ record { kind = x; records = 1 } ∷ [] ≡ counts_of (kinds ++ x ∷ [])
met_first kinds x counts are at =
    let none = not_found same law exact x (distinct same kinds) (placed kinds x counts None are (sym at)) in
    let any : list_any (same x) (distinct same kinds) ≡ false = any_none same law exact x (distinct same kinds) none in
    let zero : count_by (same x) kinds ≡ 0 = none_of kinds x (sym (list_any-distinct same exact x kinds) ∙ any) in
    let one : record { kind = x; records = 1 } ≡ count_in (kinds ++ x ∷ []) x =
    ap (λ m. record { kind = x; records = m }) (sym (again kinds x ∙ ap (λ m. m + 1) zero)) in
    ap (λ cs. cs ++ record { kind = x; records = 1 } ∷ []) (are ∙ map_alike same law exact (count_in kinds) (count_in (kinds ++ x ∷ [])) x (more kinds x) (distinct same kinds) none)
    ∙ ap (λ c. map (count_in (kinds ++ x ∷ [])) (distinct same kinds) ++ c ∷ []) one
    ∙ sym (map-append (count_in (kinds ++ x ∷ [])) (distinct same kinds) (x ∷ []))
    ∙ ap (map (count_in (kinds ++ x ∷ []))) (sym (distinct_new same law exact kinds x any))

-- what has no place is not there
module _ {A : Type 0} (p : A → Bool) where
  past : (xs : List A) → nat_lt (position_or_len p xs) (length xs) ≡ false → list_any p xs ≡ false
  past [] e = refl
  past (x ∷ xs) e = step (p x) (past xs) e where
    step : (b : Bool) → (nat_lt (position_or_len p xs) (length xs) ≡ false → list_any p xs ≡ false) → nat_lt (if not b then 1 + position_or_len p xs else 0) (length (x ∷ xs)) ≡ false → (b || list_any p xs) ≡ false
    step true rest k = absurd (let short = ltb-false 0 (length (x ∷ xs)) k in omega (arith, short))
    step false rest k = rest (le-ltb (position_or_len p xs) (length xs) (let more = ltb-false (1 + position_or_len p xs) (length (x ∷ xs)) k in omega (arith, more)))

  pub never_met : (xs : List A) → position p xs ≡ None → list_any p xs ≡ false
  never_met xs h = by (nat_lt (position_or_len p xs) (length xs)) refl h where
    by : (b : Bool) → nat_lt (position_or_len p xs) (length xs) ≡ b → (if b then Some (position_or_len p xs) else None) ≡ None → list_any p xs ≡ false
    by true e k = absurd cc
    by false e k = past xs e
